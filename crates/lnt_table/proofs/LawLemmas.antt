-- Where the section is good and the table answers as it does, no verdict but Yes is true.
use Rattle.std.proofs.Common.{◌∙◌, sym}
use Rattle.lnt_lines.specs.Good.{selected}
use Rattle.lnt_table.specs.declared.verdict.Verdict.TheVariants.{Yes}
use Rattle.lnt_table.specs.Laws.{OneVerdict, OnlyYes, OwnTable, OwnTableOfUnits}
use Rattle.lnt_table.proofs.CheckLemmas.{same_in_version}

pub only_yes : OneVerdict → OnlyYes
only_yes verdicts line general options bytes table verdict h v = verdicts.one line general options bytes table verdict Yes v h

pub own_table_of_units : OnlyYes → OwnTableOfUnits
own_table_of_units only line general options bytes table units version verdict good w v =
    only line general options bytes table verdict (record {
      units = units;
      good = good;
      so = record { version = version; table = w.spans; is_table = w.written.table; so = λ p. sym (w.same p) };
    }) v

pub own_table : OwnTableOfUnits → OwnTable
own_table own line general options bytes table lines version verdict l w v =
    own line general options bytes table l.units version verdict l.good
    (record {
      spans = w.spans;
      canonical = w.canonical;
      same =
          λ p. w.same p ∙ same_in_version version (selected options l.units) lines.spans l.tells.answers p;
      written = w.written;
    }) v
