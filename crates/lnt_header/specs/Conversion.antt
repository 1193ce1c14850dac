-- A header and a unit in another format and byte order.
use Rattle.lnt_wire.specs.declared.format.Format.{Format}
use Rattle.lnt_wire.specs.declared.format.Order.{Order}
use Rattle.lnt_header.specs.Parts.{HeaderParts}
use Rattle.lnt_header.specs.declared.numbers.NumberParts.{NumberParts}
use Rattle.lnt_header.specs.declared.unit_parts.UnitParts.{UnitParts}

-- the same numbers in this order
abbrev pub in_order : NumberParts → Order → NumberParts
in_order numbers order = record numbers { order = order }

-- the same header in this format and order: only these two change
abbrev pub in_format : HeaderParts → Format → Order → HeaderParts
in_format h format order = record h { format = format; numbers = in_order h.numbers order }

-- the same unit in this format and order: only its header changes
abbrev pub unit_in_format : UnitParts → Format → Order → UnitParts
unit_in_format unit format order = record unit { header = in_format unit.header format order }
