-- Under usable tables each file has a path.
use Rattle.std.proofs.Common.{◌≡◌, ℕ, zero, suc, ◌<◌, List, [], ◌∷◌, length, get_or, Option, Some, refl, sym, subst, arith, Bool, true}
use Rattle.std.proofs.Common.{false, cond, IsSome, option_map, option_and_then}
use Rattle.std.proofs.lemmas.Option.{slice_get_within, get_or_from_slice_get}
use Rattle.std.specs.List.{AllByRecursion, slice_get}
use Rattle.lnt_header.specs.declared.header.Entry.{Entry}
use Rattle.lnt_header.specs.Parts.{HeaderParts}
use Rattle.lnt_header.proofs.FirstLaws.{all_at}
use Rattle.lnt_files.specs.Paths.{directory_text, directory_path, file_path}
use Rattle.lnt_files.specs.Tables.{HasPath, HasDirectory, AreUsableTables}
use Rattle.std.proofs.lemmas.Grind.{common_steps}

-- ---- values that are there

some_mapped : {X Y : Type 0} (f : X → Y) (o : Option X) → IsSome o → IsSome (option_map f o)
some_mapped f o h = grind (arith, common_steps)

some_then : {X Y : Type 0} (f : X → Option Y) (o : Option X) → ((x : X) → IsSome (f x)) → IsSome o → IsSome (option_and_then f o)
some_then f o h k = grind (arith, common_steps)

either_some : {X : Type 0} (b : Bool) (x : X) (o : Option X) → IsSome o → IsSome (cond b (Some x) o)
either_some true x o h = refl
either_some false x o h = h

-- the value of an element that is there
pub element_there : {X Y : Type 0} (f : X → Option Y) (xs : List X) (n : ℕ) → AllByRecursion (λ x. IsSome (f x)) xs → n < length xs
    → IsSome (option_and_then f (slice_get xs n))
element_there f [] n h lt = absurd (omega arith)
element_there f (x ∷ xs) zero h lt = h.0
element_there f (x ∷ xs) (suc n) h lt = element_there f xs n h.1 (omega arith)

-- ---- paths

record HaveTexts (line general : List ℕ) (h : HeaderParts) : Type 0 where
  texts : (number : ℕ) → number < length h.directories → IsSome (directory_text line general h number)

texts_there : (line general : List ℕ) (h : HeaderParts) → AreUsableTables line general h → HaveTexts line general h
texts_there line general h usable = grind (arith, common_steps, element_there)

directory_there : (line general : List ℕ) (h : HeaderParts) (number : ℕ) → HaveTexts line general h → number < length h.directories
    → IsSome (directory_path line general h number)
directory_there line general h number have lt = grind (arith, common_steps, some_then, either_some, some_mapped)

file_there : (line general : List ℕ) (h : HeaderParts) (file : Entry) → HaveTexts line general h → HasPath line general h.file_format file
    → HasDirectory h file → IsSome (file_path line general h file)
file_there line general h file have path lt = grind (arith, common_steps, some_then, either_some, some_mapped, directory_there)

each_there : (line general : List ℕ) (h : HeaderParts) (files : List Entry) → HaveTexts line general h
    → AllByRecursion (HasPath line general h.file_format) files → AllByRecursion (HasDirectory h) files
    → AllByRecursion (λ file. IsSome (file_path line general h file)) files
each_there line general h [] have p d = tt
each_there line general h (file ∷ files) have p d =
    (file_there line general h file have p.0 d.0, each_there line general h files have p.1 d.1)

pub files_there : (line general : List ℕ) (h : HeaderParts) → AreUsableTables line general h
    → AllByRecursion (λ file. IsSome (file_path line general h file)) h.files
files_there line general h usable = each_there line general h h.files (texts_there line general h usable) usable.files.paths usable.numbers

-- each file has a path
path_at : (line general : List ℕ) (h : HeaderParts) (number : ℕ) (file : Entry) → AreUsableTables line general h → number < length h.files
    → file ≡ get_or h.files number file → IsSome (file_path line general h file)
path_at line general h number file usable lt same =
    subst (λ (f : Entry). IsSome (file_path line general h f)) (sym same)
    (all_at (λ f. IsSome (file_path line general h f)) h.files number file lt (files_there line general h usable))

pub within : {X : Type 0} (xs : List X) (n : ℕ) (x : X) → Some x ≡ slice_get xs n → n < length xs
within xs n x e = slice_get_within xs n x (sym e)

pub path_there : (line general : List ℕ) (h : HeaderParts) (number : ℕ) (file : Entry) → AreUsableTables line general h
    → Some file ≡ slice_get h.files number → IsSome (file_path line general h file)
path_there line general h number file usable e =
    let lt = within h.files number file e in
    path_at line general h number file usable lt (sym (get_or_from_slice_get h.files number file file (sym e)))
