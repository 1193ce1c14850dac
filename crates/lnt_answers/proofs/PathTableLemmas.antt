-- Tables by path whose printing was stopped.
use Rattle.std.proofs.Common.{ℕ, List, Option, inl, inr}
use Rattle.lnt_io.specs.Prefixes.{AppendsPrefix}
use Rattle.lnt_io.proofs.PrefixLaws.{appends_known, prefix_none, prefix_since}
use Rattle.lnt_io.specs.declared.status.Status.TheVariants.{Done, No}
use Rattle.lnt_spans.specs.declared.position.Position.{Position}
use Rattle.lnt_records.specs.declared.path_records.version.PathVersion.{PathVersion}
use Rattle.lnt_records.specs.PathSpans.{PathAnswer}
use Rattle.lnt_writing.specs.Canonical.{HasOperationIndex}
use Rattle.lnt_table.specs.Written.{BeginsPaths}
use Rattle.lnt_answers.specs.PathTables.{BeginsPrintedTable, operation_line}

-- a prefix of the line that there can't be a table by path
pub line_begun : (version : PathVersion) (answers : Position → Option PathAnswer) (position : Position) (old new : Option (List ℕ))
    → HasOperationIndex answers position → AppendsPrefix old new (operation_line position) → BeginsPrintedTable version answers old new
line_begun version answers position old new none prefix = record {
  whole = operation_line position;
  ending = No;
  is_end = (position, appends_known old (operation_line position), none);
  prefix = prefix;
}

-- a prefix of a table; or nothing, where there can't be one
pub table_begun : (version : PathVersion) (answers : Position → Option PathAnswer) (old new : Option (List ℕ))
    → BeginsPaths version answers old new → BeginsPrintedTable version answers old new
table_begun version answers old new (inl table) = record {
  whole = table.whole;
  ending = Done;
  is_end = (table.whole, appends_known old table.whole, table.is_table);
  prefix = table.prefix;
}
table_begun version answers old new (inr none) =
    line_begun version answers none.0 old new none.1.1
    (prefix_since old new new (operation_line none.0) none.1.0 (prefix_none new (operation_line none.0)))
