-- The texts of bytes between quotes and of positions, and the line of malformed bytes (25).
use Rattle.std.specs.Prelude.{ℕ, List, [], ◌∷◌, ◌++◌, ◌==◌, ◌||◌, ◌/◌, ◌%◌, Bool, codes, false, if◌then◌else◌, nat_lt, flat_map}
use Rattle.std.specs.Prelude.{decimal}
use Rattle.std.specs.Fmt.{digits}
use Rattle.lnt_wire.specs.declared.fault.Fault.{Fault}
use Rattle.lnt_wire.specs.FaultTexts.{fault_text, hexadecimal}
use Rattle.lnt_spans.specs.declared.position.Position.{Position}

-- ---- texts between quotes

-- whether a byte is written by its digits: it isn't printable, or it is a quote or a backslash
abbrev pub is_escaped : ℕ → Bool
is_escaped byte = nat_lt byte 32 || (nat_lt 126 byte || ((byte == 34) || (byte == 92)))

-- a byte between the quotes
abbrev pub quoted_byte : ℕ → List ℕ
quoted_byte byte = if is_escaped byte then codes "\\x" ++ (digits 16 false (byte / 16) ++ digits 16 false (byte % 16)) else byte ∷ []

-- a text with its quotes
abbrev pub quoted_text : List ℕ → List ℕ
quoted_text bytes = codes "\"" ++ (flat_map quoted_byte bytes ++ codes "\"")

-- ---- positions

-- a position
abbrev pub position_text : Position → List ℕ
position_text position = hexadecimal position.address ++ codes "," ++ decimal position.op

-- which bytes are rejected, and why
abbrev pub malformed_text : Fault → List ℕ
malformed_text fault = codes "no 25 " ++ fault_text fault
