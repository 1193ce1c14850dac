-- The verdict that C sees, of each thing that may be found.
use Rattle.std.specs.Prelude.{ℕ, false, is_some}
use Rattle.lnt_wire.specs.declared.fault.Fault.{Fault}
use Rattle.lnt_wire.specs.declared.fault.Reason.{Reason}
use Rattle.lnt_wire.specs.declared.fault.Reason.TheVariants as reason
use Rattle.lnt_header.specs.declared.header.EntryTable.{EntryTable}
use Rattle.lnt_header.specs.declared.header.EntryTable.TheVariants.{Directories, Files}
use Rattle.lnt_machine.specs.declared.fault.RunFault.{RunFault}
use Rattle.lnt_machine.specs.declared.fault.RunFault.TheVariants as run
use Rattle.lnt_lines.specs.declared.no.No.{No}
use Rattle.lnt_lines.specs.declared.no.No.TheVariants as no
use Rattle.lnt_io.specs.declared.stop.Stop.{Stop}
use Rattle.lnt_io.specs.declared.stop.Stop.TheVariants as stop
use Rattle.lnt_table.specs.declared.verdict.TableNo.TheVariants as table
use Rattle.lnt_table.specs.declared.verdict.Verdict.{Verdict}
use Rattle.lnt_table.specs.declared.verdict.Verdict.TheVariants.{Yes, No as IsNo}
use Rattle.lnt_ffi.specs.declared.verdict.FlatVerdict.{FlatVerdict}
use Rattle.lnt_ffi.specs.Flat.{flat_side, nothing}

-- a number and a detail, with no evidence
abbrev pub numbered : ℕ → ℕ → FlatVerdict
numbered number detail = record {
  number = number;
  detail = detail;
  offset = 0;
  index = 0;
  value = 0;
  other_offset = 0;
  other_index = 0;
  address = 0;
  op = 0;
  table_answers = false;
  section_answers = false;
  path_version = 0;
  by_table = nothing;
  by_section = nothing;
}

abbrev pub yes : FlatVerdict
yes = numbered 0 0

abbrev pub verdict_of_stop : Stop → FlatVerdict
verdict_of_stop stop.Memory = numbered 33 0
verdict_of_stop stop.Read = numbered 34 0
verdict_of_stop stop.TooLong = numbered 35 0

-- ---- of a section

-- the number of the reason, and the numbers in it
abbrev pub reason_numbers : Reason → ℕ × ℕ × ℕ
reason_numbers reason.Truncated = (1, 0, 0)
reason_numbers reason.ReservedLength = (2, 0, 0)
reason_numbers (reason.VersionNotFive version) = (3, version, 0)
reason_numbers (reason.AddressSize size) = (4, size, 0)
reason_numbers (reason.SegmentSelector size) = (5, size, 0)
reason_numbers reason.HeaderLength = (6, 0, 0)
reason_numbers reason.MaxOpsZero = (7, 0, 0)
reason_numbers reason.LineRangeZero = (8, 0, 0)
reason_numbers reason.OpcodeBaseZero = (9, 0, 0)
reason_numbers (reason.StandardLength opcode operands) = (10, opcode, operands)
reason_numbers (reason.UnknownForm code) = (11, code, 0)
reason_numbers reason.EmptyFormat = (12, 0, 0)
reason_numbers reason.LebTooLarge = (13, 0, 0)
reason_numbers reason.ExtendedLength = (14, 0, 0)
reason_numbers reason.Memory = (15, 0, 0)

abbrev pub of_malformed : Fault → FlatVerdict
of_malformed fault =
    record (numbered 25 (reason_numbers fault.reason).0)
    { offset = fault.place; index = (reason_numbers fault.reason).1; value = (reason_numbers fault.reason).2 }

-- the number of the fault, and the operation in it
abbrev pub run_numbers : RunFault → ℕ × ℕ
run_numbers (run.LineOutOfRange op) = (22, op)
run_numbers run.OpenSequence = (23, 0)
run_numbers run.Memory = (24, 0)

abbrev pub of_run : ℕ → RunFault → FlatVerdict
of_run unit fault = record (numbered 26 (run_numbers fault).0) { offset = unit; index = (run_numbers fault).1 }

abbrev pub which_number : EntryTable → ℕ
which_number Directories = 0
which_number Files = 1

abbrev pub verdict_of_no : No → FlatVerdict
verdict_of_no (no.Malformed fault) = of_malformed fault
verdict_of_no (no.Run unit fault) = of_run unit fault
verdict_of_no (no.EntryFormat unit which) = record (numbered 27 (which_number which)) { offset = unit }
verdict_of_no (no.StringOutside unit which entry) = record (numbered 28 (which_number which)) { offset = unit; index = entry }
verdict_of_no (no.DirectoryNumber unit file) = record (numbered 29 0) { offset = unit; index = file }
verdict_of_no (no.FileNumber unit row file) = record (numbered 30 0) { offset = unit; index = row; value = file }
verdict_of_no (no.Falls unit row) = record (numbered 31 0) { offset = unit; index = row }
verdict_of_no (no.Overlap first second position) = record (numbered 32 0) {
  offset = first.unit;
  index = first.index;
  other_offset = second.unit;
  other_index = second.index;
  address = position.address;
  op = position.op;
}

-- ---- of a table

abbrev pub verdict_of_table : Verdict → FlatVerdict
verdict_of_table Yes = yes
verdict_of_table (IsNo (table.Section found)) = verdict_of_no found
verdict_of_table (IsNo table.TableHeader) = numbered 36 0
verdict_of_table (IsNo (table.TableFields entry)) = record (numbered 37 0) { index = entry }
verdict_of_table (IsNo (table.TableNumber entry column)) = record (numbered 38 0) { index = entry; value = column }
verdict_of_table (IsNo (table.TableOrder entry)) = record (numbered 39 0) { index = entry }
verdict_of_table (IsNo (table.Differs position by_table by_section)) = record (numbered 40 0) {
  address = position.address;
  op = position.op;
  table_answers = is_some by_table;
  section_answers = is_some by_section;
  by_table = flat_side by_table;
  by_section = flat_side by_section;
}
