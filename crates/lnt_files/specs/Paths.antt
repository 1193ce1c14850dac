-- The full paths of files (DWARF 5, section 6.2.4.1). Directory 0 is the compilation directory.
--     line, general   the bytes of .debug_line_str and of .debug_str
use Rattle.std.specs.Char.{is_ascii_alphabetic}
use Rattle.std.specs.Prelude.{ℕ, ◌-◌, ◌==◌, ◌||◌, ◌&&◌, Bool, false, cond, List, [], ◌∷◌, ◌++◌, length, Option, Some, None}
use Rattle.std.specs.Prelude.{slice_get, option_map, option_and_then}
use Rattle.lnt_header.specs.declared.header.Entry.{Entry}
use Rattle.lnt_header.specs.Parts.{HeaderParts}
use Rattle.lnt_files.specs.Contents.{path_text, directory_number, sum_of}

-- the byte `/`
abbrev pub slash : ℕ
slash = 47

-- the byte `\`
abbrev pub backslash : ℕ
backslash = 92

-- the byte `:`
abbrev pub colon : ℕ
colon = 58

abbrev pub is_byte : ℕ → Option ℕ → Bool
is_byte byte (Some at) = at == byte
is_byte byte None = false

-- an ASCII letter
abbrev pub is_letter : Option ℕ → Bool
is_letter (Some at) = is_ascii_alphabetic at
is_letter None = false

-- The byte at this index separates directories, of POSIX or of Windows.
abbrev pub is_separator : List ℕ → ℕ → Bool
is_separator path index = is_byte slash (slice_get path index) || is_byte backslash (slice_get path index)

-- A path begins with a drive: a letter, a colon and a separator.
abbrev pub begins_with_drive : List ℕ → Bool
begins_with_drive path = is_letter (slice_get path 0) && (is_byte colon (slice_get path 1) && is_separator path 2)

-- A path begins with two backslashes, as that of another machine.
abbrev pub begins_with_machine : List ℕ → Bool
begins_with_machine path = is_byte backslash (slice_get path 0) && is_byte backslash (slice_get path 1)

-- A full path name, of POSIX or of Windows
abbrev pub is_full : List ℕ → Bool
is_full path = is_byte slash (slice_get path 0) || (begins_with_drive path || begins_with_machine path)

abbrev pub ends_with_slash : List ℕ → Bool
ends_with_slash path = is_byte slash (slice_get path (length path - 1))

-- A name below a directory. A slash is between them, unless the directory is empty or ends with one.
abbrev pub join : List ℕ → List ℕ → List ℕ
join directory name = cond ((length directory == 0) || ends_with_slash directory) (directory ++ name) (directory ++ slash ∷ name)

-- the text of the directory with this number
abbrev pub directory_text : List ℕ → List ℕ → HeaderParts → ℕ → Option (List ℕ)
directory_text line general h number = option_and_then (path_text line general h.directory_format) (slice_get h.directories number)

-- a directory's text, below directory 0
abbrev pub below_first : List ℕ → List ℕ → HeaderParts → List ℕ → Option (List ℕ)
below_first line general h text = option_map (λ first. join first text) (directory_text line general h 0)

-- the path of the directory with this number: below directory 0, unless it is directory 0 or full
abbrev pub directory_path : List ℕ → List ℕ → HeaderParts → ℕ → Option (List ℕ)
directory_path line general h number =
    option_and_then (λ text. cond ((number == 0) || is_full text) (Some text) (below_first line general h text))
    (directory_text line general h number)

-- a file's text, below its directory
abbrev pub below_directory : List ℕ → List ℕ → HeaderParts → Entry → List ℕ → Option (List ℕ)
below_directory line general h file text =
    option_map (λ directory. join directory text) (directory_path line general h (directory_number h.file_format file))

-- the path of a file: below its directory, unless it is full
abbrev pub file_path : List ℕ → List ℕ → HeaderParts → Entry → Option (List ℕ)
file_path line general h file =
    option_and_then (λ text. cond (is_full text) (Some text) (below_directory line general h file text))
    (path_text line general h.file_format file)

-- the path of the file with this number
abbrev pub path_bytes : List ℕ → List ℕ → HeaderParts → ℕ → Option (List ℕ)
path_bytes line general h number = option_and_then (file_path line general h) (slice_get h.files number)

-- what is written for a path in a field of a record; empty if there is none, but each counted file has one
abbrev pub path_or_empty : Option (List ℕ) → List ℕ
path_or_empty (Some path) = path
path_or_empty None = []

-- the MD5 sum that is listed for the file with this number
abbrev pub listed_sum : HeaderParts → ℕ → Option (List ℕ)
listed_sum h number = option_and_then (sum_of h.file_format) (slice_get h.files number)
