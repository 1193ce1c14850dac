-- What the laws of tables need of the format of a table by number.
use Rattle.lnt_spans.specs.Spans.{number_spans}
use Rattle.std.proofs.Common.{◌≡◌, length, refl, ap, arith}
use Rattle.lnt_spans.specs.declared.answer.Version.{Version}
use Rattle.lnt_spans.specs.declared.answer.Version.TheVariants.{One, Two}
use Rattle.lnt_spans.proofs.AnsweringLaws.{prefix_in_order}
use Rattle.lnt_records.specs.Table.{by_number, column_names}
use Rattle.lnt_records.proofs.SaidLemmas.{count_at_most, one_span, sound_column}
use Rattle.lnt_records.proofs.TableLaws.{FormatLaws}

one_version : (v w : Version) → column_names v ≡ column_names w → v ≡ w
one_version One One e = refl
one_version Two Two e = refl
one_version One Two e = let lengths : 9 ≡ 11 = ap length e in absurd (omega (arith, lengths))
one_version Two One e = let lengths : 11 ≡ 9 = ap length e in absurd (omega (arith, lengths))

pub numbered : FormatLaws by_number
numbered = record {
  one_version = one_version;
  narrow = count_at_most;
  one_span = one_span;
  count = λ version fields span says. says.count;
  sound = sound_column;
  prefix = prefix_in_order number_spans;
}
