-- The texts of errors, as their types print them.
use Rattle.std.specs.Prelude.{ℕ, List, ◌++◌, codes, decimal, false}
use Rattle.std.specs.Fmt.{digits}
use Rattle.lnt_wire.specs.declared.fault.Fault.{Fault}
use Rattle.lnt_wire.specs.declared.fault.Reason.{Reason}
use Rattle.lnt_wire.specs.declared.fault.Reason.TheVariants.{Truncated, ReservedLength, VersionNotFive, AddressSize, SegmentSelector}
use Rattle.lnt_wire.specs.declared.fault.Reason.TheVariants.{HeaderLength, MaxOpsZero, LineRangeZero, OpcodeBaseZero, StandardLength}
use Rattle.lnt_wire.specs.declared.fault.Reason.TheVariants.{UnknownForm, EmptyFormat, LebTooLarge, ExtendedLength, Memory}
use Rattle.lnt_wire.specs.declared.put.EncodeFault.{EncodeFault}
use Rattle.lnt_wire.specs.declared.put.EncodeFault.TheVariants.{TooLarge, Memory as NoRoom}

-- a number by its hexadecimal digits, in lower case and without leading zeros
abbrev pub hexadecimal : ℕ → List ℕ
hexadecimal n = codes "0x" ++ digits 16 false n

-- what is wrong with bytes
abbrev pub reason_text : Reason → List ℕ
reason_text Truncated = codes "truncated"
reason_text ReservedLength = codes "reserved length"
reason_text (VersionNotFive version) = codes "version " ++ decimal version
reason_text (AddressSize size) = codes "address size " ++ decimal size
reason_text (SegmentSelector size) = codes "segment selector size " ++ decimal size
reason_text HeaderLength = codes "header length"
reason_text MaxOpsZero = codes "zero operations per instruction"
reason_text LineRangeZero = codes "zero line range"
reason_text OpcodeBaseZero = codes "zero opcode base"
reason_text (StandardLength opcode size) = codes "length " ++ (decimal size ++ (codes " of standard opcode " ++ decimal opcode))
reason_text (UnknownForm code) = codes "form " ++ hexadecimal code
reason_text EmptyFormat = codes "entries without a format"
reason_text LebTooLarge = codes "number too large"
reason_text ExtendedLength = codes "extended length"
reason_text Memory = codes "out of memory"

-- what is wrong, and at which offset
abbrev pub fault_text : Fault → List ℕ
fault_text fault = codes "malformed at " ++ hexadecimal fault.place ++ codes ": " ++ reason_text fault.reason

-- why a value isn't written
abbrev pub encode_fault_text : EncodeFault → List ℕ
encode_fault_text TooLarge = codes "too large for the 32-bit format"
encode_fault_text NoRoom = codes "out of memory"
