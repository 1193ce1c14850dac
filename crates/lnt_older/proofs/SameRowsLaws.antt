-- A unit of version 5 has the rows of the older unit that it was written for.
use Rattle.std.proofs.Common.{◌≡◌, ◌∙◌, ℕ, suc, List, [], ◌∷◌, get_or, refl, sym, ap, subst}
use Rattle.lnt_header.specs.HeaderRules.{AreHeaderNumbers}
use Rattle.lnt_header.specs.Joins.{Each}
use Rattle.lnt_header.specs.Parts.{HeaderParts}
use Rattle.lnt_header.specs.declared.header.Entry.{Entry}
use Rattle.lnt_header.specs.declared.numbers.NumberParts.{NumberParts}
use Rattle.lnt_header.specs.declared.op.Op.{Op}
use Rattle.lnt_header.specs.declared.unit_parts.UnitParts.{UnitParts}
use Rattle.lnt_header_bytes.proofs.HeaderLaws.{one_header}
use Rattle.lnt_ops.specs.OpBytes.{OpBytes}
use Rattle.lnt_ops.proofs.OpLaws.{same_program}
use Rattle.lnt_machine.specs.Matrix.{rows, rows_after}
use Rattle.lnt_older.specs.Laws.{AreListedFromOne, SameRows, SaysTheSame}
use Rattle.lnt_older.specs.Upgraded.{from_zero, upgraded}

-- where files are listed, file 0 is one more, before them
files_from_zero : (files : List Entry) → AreListedFromOne files (from_zero files)
files_from_zero [] number other = refl
files_from_zero (file ∷ files) number other = refl

-- where the program has these operations
same_of : (header : HeaderParts) (program : List ℕ) (unit : UnitParts) (directory : List ℕ) → AreHeaderNumbers header.numbers
    → unit.header ≡ upgraded directory header → Each (OpBytes header.numbers) unit.ops program → SaysTheSame header program unit
same_of header program unit directory valid is spelled =
    let numbers : unit.header.numbers ≡ header.numbers = ap (λ (h : HeaderParts). h.numbers) is in
    let made : rows unit ≡ rows_after header.numbers [] unit.ops = ap (λ (n : NumberParts). rows_after n [] unit.ops) numbers in
    record {
      made = record { ops = unit.ops; spelled = spelled; rows_are = made };
      only = λ others o.
          o.rows_are ∙ ap (λ (ops : List Op). rows_after header.numbers [] ops)
          (same_program header.numbers valid o.ops unit.ops program o.spelled spelled) ∙ sym made;
      files = λ number other.
          ap (λ (h : HeaderParts). get_or h.files (suc number) other) is ∙ files_from_zero header.files number other;
      directories = λ number other. ap (λ (h : HeaderParts). get_or h.directories (suc number) other) is;
    }

pub same_rows : SameRows
same_rows order directory header program unit bytes written read =
    let found = (one_header order).one (unit.header, read.spelled.program) (upgraded directory header, program) bytes bytes [] []
    (record { order_is = read.order_is; spelled = read.spelled.whole }) written refl in
    let is : unit.header ≡ upgraded directory header = ap (λ (u : HeaderParts × List ℕ). u.0) found.0 in
    let past : read.spelled.program ≡ program = ap (λ (u : HeaderParts × List ℕ). u.1) found.0 in
    let numbers : unit.header.numbers ≡ header.numbers = ap (λ (h : HeaderParts). h.numbers) is in
    same_of header program unit directory written.spelled.counted.numbers is
    (subst (λ (n : NumberParts). Each (OpBytes n) unit.ops program) numbers
    (subst (λ (p : List ℕ). Each (OpBytes unit.header.numbers) unit.ops p) past read.spelled.operations))
