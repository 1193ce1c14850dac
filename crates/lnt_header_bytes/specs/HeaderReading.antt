-- What the steps of decoding a header have found. Public contracts speak of `standing` and `numbers_with` alone.
use Rattle.std.specs.Prelude.{◌≡◌, ℕ, ◌+◌, List, ◌++◌, length}
use Rattle.lnt_wire.specs.Reading.{At}
use Rattle.lnt_wire.specs.FrameBytes.{version_five, initial_length}
use Rattle.lnt_wire.specs.declared.format.Format.{Format}
use Rattle.lnt_wire.specs.declared.format.Order.{Order}
use Rattle.lnt_header.specs.Parts.{HeaderParts}
use Rattle.lnt_header.specs.declared.numbers.NumberParts.{NumberParts}
use Rattle.lnt_header_bytes.specs.declared.numbers.Singles.{Singles}
use Rattle.lnt_header_bytes.specs.HeaderBytes.{HeaderFieldsBytes}

-- a cursor by its parts
abbrev pub standing : ℕ → List ℕ → Order → At
standing place rest order = record { place = place; rest = rest; order = order }

-- A cursor is after the version of a frame, and goes to the end of its body.
pub record IsAfterVersion (order : Order) (format : Format) (offset : ℕ) (body : List ℕ) (at : At) : Type 0 where
  pub order_is : at.order ≡ order
  pub place_is : at.place ≡ offset + length (initial_length format order (length body)) + 2
  pub joined : body ≡ version_five order ++ at.rest

-- the parts of a header by the bytes that its header_length counts
pub record HasFields (format : Format) (order : Order) (address_size : ℕ) (bytes : List ℕ) (h : HeaderParts) : Type 0 where
  pub format_is : h.format ≡ format
  pub order_is : h.numbers.order ≡ order
  pub size_is : h.numbers.address_size ≡ address_size
  pub fields : HeaderFieldsBytes h bytes

-- the numbers of this order and address size that these fields are
abbrev pub numbers_with : Order → ℕ → Singles → List ℕ → NumberParts
numbers_with order address_size s lengths = record {
  order = order;
  address_size = address_size;
  minimum_instruction_length = s.minimum_instruction_length;
  max_ops = s.max_ops;
  default_is_stmt = s.default_is_stmt;
  line_base = s.line_base;
  line_range = s.line_range;
  opcode_base = s.opcode_base;
  standard_lengths = lengths;
}
