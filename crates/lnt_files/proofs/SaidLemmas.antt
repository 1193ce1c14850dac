-- What an entry says, by its components.
use Rattle.std.proofs.Common.{◌≡◌, ◌↔◌, ℕ, List, Option, Some, None, sym, ap, ◌∙◌, arith, Bool, false, IsTrue, IsSome}
use Rattle.std.specs.Option.{option_map, option_and_then, option_map_or}
use Rattle.lnt_wire.specs.Borrowed.{value_of}
use Rattle.lnt_wire.specs.FormBytes.{text_of}
use Rattle.lnt_wire.specs.declared.view.ValueView.{ValueView}
use Rattle.lnt_header.specs.declared.header.Entry.{Entry}
use Rattle.lnt_header.specs.declared.header.Pair.{Pair}
use Rattle.lnt_files.specs.Contents.{path_text, number_of, directory_number, bytes_of_sum, sum_of}
use Rattle.lnt_files.specs.Tables.{HasPath}
use Rattle.lnt_files.specs.Walks.{Says, EntryView}
use Rattle.std.proofs.lemmas.Grind.{common_steps}

-- the path's text
said_text : (line general : List ℕ) (pairs : List Pair) (entry : Entry) (view : EntryView) (path : Option ValueView) → Says pairs entry view
    → view.path ≡ path
    → path_text line general pairs entry ≡ option_and_then (text_of line general) (option_map value_of path)
said_text line general pairs entry view path says is = grind (arith, common_steps)

pub has_text : (line general : List ℕ) (pairs : List Pair) (entry : Entry) (view : EntryView) (value : ValueView) (result : Bool)
    → view.path ≡ Some value → IsTrue result ↔ IsSome (text_of line general (value_of value))
    → Says pairs entry view → IsTrue result ↔ HasPath line general pairs entry
has_text line general pairs entry view value result is told says = grind (arith, common_steps, said_text)

pub has_none : (line general : List ℕ) (pairs : List Pair) (entry : Entry) (view : EntryView) → view.path ≡ None → Says pairs entry view
    → IsTrue false ↔ HasPath line general pairs entry
has_none line general pairs entry view is says = grind (arith, common_steps, said_text)

pub text_is : (line general : List ℕ) (pairs : List Pair) (entry : Entry) (view : EntryView) (value : ValueView) (text : Option (List ℕ))
    → view.path ≡ Some value → text ≡ text_of line general (value_of value)
    → Says pairs entry view → text ≡ path_text line general pairs entry
text_is line general pairs entry view value text is told says = told ∙ sym (said_text line general pairs entry view (Some value) says is)

pub no_text_is : (line general : List ℕ) (pairs : List Pair) (entry : Entry) (view : EntryView) → view.path ≡ None → Says pairs entry view
    → None ≡ path_text line general pairs entry
no_text_is line general pairs entry view is says = sym (said_text line general pairs entry view None says is)

-- the directory number
said_number : (pairs : List Pair) (entry : Entry) (view : EntryView) (directory : Option ValueView) → Says pairs entry view
    → view.directory ≡ directory
    → directory_number pairs entry ≡ option_map_or number_of (option_map value_of directory) 0
said_number pairs entry view directory says is = grind (arith, common_steps)

pub number_is : (pairs : List Pair) (entry : Entry) (view : EntryView) (value : ValueView) (n : ℕ) → view.directory ≡ Some value
    → n ≡ number_of (value_of value) → Says pairs entry view → n ≡ directory_number pairs entry
number_is pairs entry view value n is told says = told ∙ sym (said_number pairs entry view (Some value) says is)

pub no_number_is : (pairs : List Pair) (entry : Entry) (view : EntryView) → view.directory ≡ None → Says pairs entry view
    → 0 ≡ directory_number pairs entry
no_number_is pairs entry view is says = sym (said_number pairs entry view None says is)

-- the sum
said_sum : (pairs : List Pair) (entry : Entry) (view : EntryView) (sum : Option ValueView) → Says pairs entry view → view.sum ≡ sum
    → sum_of pairs entry ≡ option_and_then bytes_of_sum (option_map value_of sum)
said_sum pairs entry view sum says is = ap (option_and_then bytes_of_sum) (sym says.sum ∙ ap (option_map value_of) is)

pub sum_is : (pairs : List Pair) (entry : Entry) (view : EntryView) (value : ValueView) (bytes : Option (List ℕ)) → view.sum ≡ Some value
    → bytes ≡ bytes_of_sum (value_of value) → Says pairs entry view → bytes ≡ sum_of pairs entry
sum_is pairs entry view value bytes is told says = told ∙ sym (said_sum pairs entry view (Some value) says is)

pub no_sum_is : (pairs : List Pair) (entry : Entry) (view : EntryView) → view.sum ≡ None → Says pairs entry view → None ≡ sum_of pairs entry
no_sum_is pairs entry view is says = sym (said_sum pairs entry view None says is)
