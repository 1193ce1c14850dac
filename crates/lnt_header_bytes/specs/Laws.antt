-- What is encoded is read back, whatever follows: no encoding is a prefix of another, and each encodes one value.
use Rattle.lnt_wire.specs.declared.format.Order.{Order}
use Rattle.lnt_wire.specs.Bytes.{IsCode}
use Rattle.lnt_header_bytes.specs.HeaderBytes.{HeaderBytesIn}

-- headers with the bytes of their programs
abbrev pub OneHeader : Type 0
OneHeader = (order : Order) → IsCode (HeaderBytesIn order)
