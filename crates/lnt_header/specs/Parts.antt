-- What a header is made of, as contracts see it (DWARF 5, section 6.2.4): the code has its numbers one by one, here they are together.
use Rattle.std.specs.Prelude.{ℕ, List}
use Rattle.lnt_wire.specs.declared.format.Format.{Format}
use Rattle.lnt_header.specs.declared.header.Entry.{Entry}
use Rattle.lnt_header.specs.declared.header.Pair.{Pair}
use Rattle.lnt_header.specs.declared.numbers.NumberParts.{NumberParts}

-- The format, the numbers, a format and its entries in each of the two tables, and the bytes after them.
pub record HeaderParts : Type 0 where
  pub format : Format
  pub numbers : NumberParts
  pub directory_format : List Pair
  pub directories : List Entry
  pub file_format : List Pair
  pub files : List Entry
  pub extra : List ℕ

-- the header of this format, these numbers, directories and files, each in a format, and these last bytes
abbrev pub header_of : Format → NumberParts → List Pair → List Entry → List Pair → List Entry → List ℕ → HeaderParts
header_of format numbers directory_format directories file_format files extra = record {
  format = format;
  numbers = numbers;
  directory_format = directory_format;
  directories = directories;
  file_format = file_format;
  files = files;
  extra = extra;
}
