-- The entries of a table by their content types (DWARF 5, sections 6.2.4.1 and 7.22). In an entry the first component of a
-- content type counts.
use Rattle.std.specs.Prelude.{ℕ, ◌==◌, List, Option, Some, None, position, slice_get}
use Rattle.std.specs.Option.{option_map, option_and_then, option_map_or}
use Rattle.lnt_wire.specs.declared.form.Form.{Form}
use Rattle.lnt_wire.specs.declared.form.FormValue.{FormValue}
use Rattle.lnt_wire.specs.declared.form.FormValue.TheVariants.{Udata, Data1, Data2, Data4, Data8, Data16}
use Rattle.lnt_wire.specs.FormBytes.{text_of}
use Rattle.lnt_header.specs.declared.header.Entry.{Entry}
use Rattle.lnt_header.specs.declared.header.Pair.{Pair}

-- the content types
abbrev pub content_path : ℕ
content_path = 1

abbrev pub content_directory_index : ℕ
content_directory_index = 2

abbrev pub content_md5 : ℕ
content_md5 = 5

-- the first place of a content type in a format
abbrev pub place_of : ℕ → List Pair → Option ℕ
place_of content pairs = position (λ pair. pair.content == content) pairs

-- the form that the first component of a content type has
abbrev pub form_at : ℕ → List Pair → Option Form
form_at content pairs = option_map (λ pair. pair.form) (option_and_then (slice_get pairs) (place_of content pairs))

-- the value of the first component of a content type
abbrev pub component : ℕ → List Pair → Entry → Option FormValue
component content pairs entry = option_and_then (slice_get entry.values) (place_of content pairs)

-- the text of an entry's path, where line and general are the string sections
abbrev pub path_text : List ℕ → List ℕ → List Pair → Entry → Option (List ℕ)
path_text line general pairs entry = option_and_then (text_of line general) (component content_path pairs entry)

-- a number, in the forms that directory numbers may have
abbrev pub number_of : FormValue → ℕ
number_of (Udata n) = n
number_of (Data1 n) = n
number_of (Data2 n) = n
number_of (Data4 n) = n
number_of (Data8 n) = n
number_of _ = 0

-- a file's directory number, or 0 if it has none
abbrev pub directory_number : List Pair → Entry → ℕ
directory_number pairs file = option_map_or number_of (component content_directory_index pairs file) 0

-- the 16 bytes of a sum
abbrev pub bytes_of_sum : FormValue → Option (List ℕ)
bytes_of_sum (Data16 bytes) = Some bytes
bytes_of_sum _ = None

-- a file's MD5 sum, if it lists one
abbrev pub sum_of : List Pair → Entry → Option (List ℕ)
sum_of pairs file = option_and_then bytes_of_sum (component content_md5 pairs file)
