-- What the columns of a record say when taken together.
use Rattle.std.proofs.Common.{◌≡◌, ◌≤◌, ℕ, List, length, arith}
use Rattle.lnt_spans.specs.declared.answer.Answer.{Answer}
use Rattle.lnt_spans.specs.declared.answer.Version.{Version}
use Rattle.lnt_spans.specs.declared.answer.Version.TheVariants.{One, Two}
use Rattle.lnt_spans.specs.declared.position.Position.{Position}
use Rattle.lnt_records.specs.declared.record.RecordFault.{RecordFault}
use Rattle.lnt_records.specs.declared.record.RecordFault.TheVariants as fault
use Rattle.lnt_records.specs.Progress.{AreSoundBefore, IsColumnFault, IsRecordFault, SaysAnswer, SaysPosition}
use Rattle.lnt_records.specs.Table.{Fields, IsSpanRecord, Kind, column_count}

pub common_columns : (version : Version) → 9 ≤ column_count version
common_columns One = omega arith
common_columns Two = omega arith

pub none_before : (columns : List Kind) (fields : Fields) → AreSoundBefore columns fields 0
none_before columns fields k lt = absurd (omega (arith, lt))

pub says_span : (version : Version) (fields : Fields) (low high : Position) (answer : Answer) → length fields ≡ column_count version
    → SaysPosition fields 0 low → SaysPosition fields 2 high → SaysAnswer version fields answer
    → IsSpanRecord version fields (record { low = low; high = high; answer = answer })
says_span version fields low high answer count l h a = record {
  count = count;
  low = l.address;
  low_op = l.op;
  high = h.address;
  high_op = h.op;
  unit = a.unit;
  file = a.file;
  line = a.line;
  column = a.column;
  is_stmt = a.is_stmt;
  more = a.more;
}

pub column_fault : (columns : List Kind) (count : ℕ) (fields : Fields) (told : RecordFault) → length fields ≡ count
    → IsColumnFault columns fields told → IsRecordFault columns count fields told
column_fault columns count fields fault.Fields same h = absurd h
column_fault columns count fields (fault.Number i) same h = (same, h)

-- The lemmas of `record_of`.
pub ruleset record_of_lemmas = (none_before, column_fault)

-- The lemmas of `span_of`.
pub ruleset span_of_lemmas = (common_columns, none_before, says_span, column_fault)
