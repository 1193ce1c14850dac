-- Spans whose numbers are of at most 64 bits can be written as a table.
use Rattle.std.proofs.Common.{Bool, true, false, List, [], ◌∷◌, Some, codes, refl, sym, subst, ℕ}
use Rattle.std.specs.List.{AllByRecursion, AllZip}
use Rattle.lnt_text.specs.Digits.{IsPlainDecimal}
use Rattle.lnt_text.proofs.WrittenLaws.{has_address, has_decimal}
use Rattle.lnt_spans.specs.declared.answer.Answer.{Answer}
use Rattle.lnt_spans.specs.declared.answer.Version.{Version}
use Rattle.lnt_spans.specs.declared.answer.Version.TheVariants.{One, Two}
use Rattle.lnt_spans.specs.declared.span.Span.{Span}
use Rattle.lnt_spans.specs.Spans.{FitSpans, FitsMore, FitsSpan, AreInOrder}
use Rattle.lnt_records.specs.Lines.{AreMoreFields}
use Rattle.lnt_records.specs.Table.{Fields, IsFlag, column_names}
use Rattle.lnt_records.specs.Written.{IsOfVersion, IsPlainRecord, IsWrittenTable, lines_text}
use Rattle.lnt_records.proofs.VersionLaws.{HasVersion}
use Rattle.lnt_records.proofs.LineLemmas.{more_said}
use Rattle.lnt_records.proofs.WriteLaws.{plain_written}

-- ---- a record of a span

has_flag : (on : Bool) → (text : List ℕ) × IsFlag text on
has_flag false = (codes "0", refl)
has_flag true = (codes "1", refl)

-- the fields for what only version 2 has
has_more : (version : Version) (answer : Answer) → FitsMore answer.more → IsOfVersion version answer
    → (fields : Fields) × AreMoreFields IsPlainDecimal version fields answer.more
has_more One answer fits told = ([], (refl, told))
has_more Two answer fits told =
    let more = told.0 in
    let both : FitsMore (Some more) = subst FitsMore told.1 fits in
    let isa = has_decimal more.isa both.0 in
    let discriminator = has_decimal more.discriminator both.1 in
    let fields : Fields = isa.0 ∷ discriminator.0 ∷ [] in (
      fields,
      subst (AreMoreFields IsPlainDecimal Two fields) (sym told.1) (isa.0, discriminator.0, refl, isa.1, discriminator.1),
    )

-- a span whose numbers fit, and whose answer has what the version tells, has a plain record
pub has_record : (version : Version) (span : Span) → FitsSpan span → IsOfVersion version span.answer
    → (fields : Fields) × IsPlainRecord version fields span
has_record version span fits told =
    let low = has_address span.low.address fits.low.address in
    let low_op = has_decimal span.low.op fits.low.op in
    let high = has_address span.high.address fits.high.address in
    let high_op = has_decimal span.high.op fits.high.op in
    let unit = has_decimal span.answer.unit fits.answer.unit in
    let file = has_decimal span.answer.file fits.answer.file in
    let line = has_decimal span.answer.line fits.answer.line in
    let column = has_decimal span.answer.column fits.answer.column in
    let is_stmt = has_flag span.answer.is_stmt in
    let more = has_more version span.answer fits.answer.more told in
    let said = more_said IsPlainDecimal version span.answer more.0 low.0 low_op.0 high.0 high_op.0 unit.0 file.0 line.0 column.0 is_stmt.0
    more.1 in (
      low.0 ∷ low_op.0 ∷ high.0 ∷ high_op.0 ∷ unit.0 ∷ file.0 ∷ line.0 ∷ column.0 ∷ is_stmt.0 ∷ more.0,
      record {
        count = said.0;
        low = low.1;
        low_op = low_op.1;
        high = high.1;
        high_op = high_op.1;
        unit = unit.1;
        file = file.1;
        line = line.1;
        column = column.1;
        is_stmt = is_stmt.1;
        more = said.1;
      },
    )

-- ---- a table of spans

pub has_records : (version : Version) (spans : List Span) → FitSpans spans → AllByRecursion (HasVersion version) spans
    → (records : List Fields) × AllZip (IsPlainRecord version) records spans
has_records version [] fit told = ([], tt)
has_records version (span ∷ spans) fit told =
    let first = has_record version span fit.0 told.0 in
    let rest = has_records version spans fit.1 told.1 in
    (first.0 ∷ rest.0, (first.1, rest.1))

-- spans in order whose numbers fit, each of which tells what the version does, are those of a table on plain lines
pub whole_table : (version : Version) (spans : List Span) → AreInOrder spans → FitSpans spans
    → AllByRecursion (λ (span : Span). IsOfVersion version span.answer) spans
    → (bytes : List ℕ) × IsWrittenTable version bytes spans
whole_table version spans order fit told =
    let records = has_records version spans fit told in
    let bytes : List ℕ = lines_text (column_names version ∷ records.0) in
    (bytes, plain_written version bytes spans (record { records = records.0; lines = refl; each = records.1 }) order)
