-- What the spans of functions answer, and that they are in order.
use Rattle.std.proofs.Common.{◌≡◌, ◌∙◌, ℕ, ◌+◌, ◌-◌, ◌^◌, ◌<◌, ◌≤◌, Bool, true, false, List, [], ◌∷◌, ◌++◌, Option, Some, None}
use Rattle.std.proofs.Common.{refl, sym, ap, arith, cond, find, option_and_then, option_map}
use Rattle.std.specs.Prelude.{nat_lt, not, ◌&&◌, ◌||◌, ◌==◌, if◌then◌else◌}
use Rattle.std.specs.List.{AllByRecursion, list_all}
use Rattle.std.specs.Option.{option_or}
use Rattle.std.proofs.lemmas.Bool.Decides.{nat_tests}
use Rattle.lnt_records.specs.declared.path_records.version.PathVersion.TheVariants.{Four}
use Rattle.lnt_records.specs.PathSpans.{PathAnswer, spans_by_path}
use Rattle.lnt_spans.specs.declared.position.Position.{Position}
use Rattle.lnt_gsym.specs.GsymAnswers.{function_at, gsym_answer, holds, is_nearest, row_answer, row_in}
use Rattle.lnt_gsym.specs.GsymFiles.{Gsym}
use Rattle.lnt_gsym.specs.GsymInfos.{Function}
use Rattle.lnt_gsym.specs.GsymSpans.{covered_after, end_of, function_spans, high_of, last_after, less, more}
use Rattle.lnt_gsym.specs.GsymSpans.{next_above, spans_from, tells}
use Rattle.lnt_gsym.specs.Walking.{named, NamesSaid}
use Rattle.lnt_gsym.proofs.PieceLemmas.{found_append, tables_found, tables_ordered}
use Rattle.lnt_gsym.proofs.RowSpanLemmas.{in_range, is_less, no, not_less, Ordered, ordered_append, Rising}
use Rattle.lnt_gsym.proofs.RowSpanLemmas.{same_both, TellsSo, yes}

-- ---- the first function that holds an address, of those with the greatest start

-- Functions start one after another.
abbrev pub Starts : List Function → Type 0
Starts [] = Unit {0}
Starts (f ∷ functions) = AllByRecursion (λ g. f.start ≤ g.start) functions × Starts functions

-- whether a function holds an address at which none of the later ones starts above it
abbrev pub is_here : ℕ → Function → List Function → Bool
is_here a f later = (not (nat_lt a f.start) && nat_lt a (next_above f.start later)) && holds a f

abbrev pub at_rec : ℕ → List Function → Option Function
at_rec a [] = None
at_rec a (f ∷ later) = cond (is_here a f later) (Some f) (at_rec a later)

above_all : (a start : ℕ) (fs : List Function) → a < 2 ^ 64 - 1 → AllByRecursion (λ g. a < g.start) fs
    → nat_lt a (next_above start fs) ≡ true
above_all a start [] below all = yes a (2 ^ 64 - 1) below
above_all a start (f ∷ fs) below all = by (above_all a start fs below all.1) (nat_lt start f.start) refl
  where
    by : nat_lt a (next_above start fs) ≡ true → (t : Bool) → nat_lt start f.start ≡ t → nat_lt a (next_above start (f ∷ fs)) ≡ true
    by rest true e = rw e (let lt : a < f.start = all.0 in grind (arith, nat_tests))
    by rest false e = rw e rest

all_above : (a n : ℕ) (fs : List Function) → a < n → AllByRecursion (λ g. n ≤ g.start) fs → AllByRecursion (λ g. a < g.start) fs
all_above a n [] lt all = tt
all_above a n (f ∷ fs) lt all = (let le : n ≤ f.start = all.0 in omega (arith, lt, le), all_above a n fs lt all.1)

none_between : (a start : ℕ) (fs : List Function) → a < 2 ^ 64 - 1 → Starts fs
    → list_all (λ other. nat_lt a other.start || not (nat_lt start other.start)) fs ≡ nat_lt a (next_above start fs)
none_between a start [] below rising = sym (yes a (2 ^ 64 - 1) below)
none_between a start (f ∷ fs) below rising =
    by (none_between a start fs below rising.1) (nat_lt start f.start) refl (nat_lt a f.start) refl
  where
    Same : Type 0
    Same = list_all (λ other. nat_lt a other.start || not (nat_lt start other.start)) fs ≡ nat_lt a (next_above start fs)

    by : Same → (s : Bool) → nat_lt start f.start ≡ s → (t : Bool) → nat_lt a f.start ≡ t
        → ((nat_lt a f.start || not (nat_lt start f.start))
        && list_all (λ other. nat_lt a other.start || not (nat_lt start other.start)) fs) ≡ nat_lt a (next_above start (f ∷ fs))
    by same false e true g = rw (e, g) same
    by same false e false g = rw (e, g) same
    by same true e true g =
        let lt : a < f.start = is_less a f.start g in
        let up : nat_lt a (less f.start (2 ^ 64 - 1)) ≡ true = grind (arith, nat_tests) in
        rw (e, g, up) (same ∙ above_all a start fs below (all_above a f.start fs lt rising.0))
    by same true e false g =
        let up : nat_lt a (less f.start (2 ^ 64 - 1)) ≡ false = grind (arith, nat_tests, g) in
        rw (e, g, up) refl

-- A function that starts at or below all others changes nothing for them.
find_same : (a : ℕ) (f : Function) (all fs : List Function) → AllByRecursion (λ g. f.start ≤ g.start) fs
    → find (λ g. is_nearest (f ∷ all) a g && holds a g) fs ≡ find (λ g. is_nearest all a g && holds a g) fs
find_same a f all [] up = refl
find_same a f all (g ∷ fs) up =
    let le : f.start ≤ g.start = up.0 in
    let never : nat_lt g.start f.start ≡ false = no g.start f.start le in
    let rest = find_same a f all fs up.1 in
    let one : (nat_lt a f.start || not (nat_lt g.start f.start)) ≡ true = rw never (or_true (nat_lt a f.start)) in
    let same : (is_nearest (f ∷ all) a g && holds a g) ≡ (is_nearest all a g && holds a g)
    = ap (λ t. (not (nat_lt a g.start) && (t && list_all
    (λ other. nat_lt a other.start || not (nat_lt g.start other.start)) all)) && holds a g)
    one in
    ap (λ t. cond t (Some g) (find (λ h. is_nearest (f ∷ all) a h && holds a h) fs)) same
    ∙ ap (λ o. cond (is_nearest all a g && holds a g) (Some g) o) rest
  where
    or_true : (t : Bool) → (t || true) ≡ true
    or_true true = refl
    or_true false = refl

function_is : (a : ℕ) (fs : List Function) → a < 2 ^ 64 - 1 → Starts fs → function_at fs a ≡ at_rec a fs
function_is a [] below rising = refl
function_is a (f ∷ fs) below rising =
    let self : nat_lt f.start f.start ≡ false = no f.start f.start (omega arith) in
    let one : (nat_lt a f.start || not (nat_lt f.start f.start)) ≡ true = rw self (or_true (nat_lt a f.start)) in
    let here : (is_nearest (f ∷ fs) a f && holds a f) ≡ is_here a f fs
    = ap (λ t. (not (nat_lt a f.start) && (t && list_all
    (λ other. nat_lt a other.start || not (nat_lt f.start other.start)) fs)) && holds a f)
    one
    ∙ ap (λ t. (not (nat_lt a f.start) && t) && holds a f) (none_between a f.start fs below rising.1) in
    ap (λ t. cond t (Some f) (find (λ g. is_nearest (f ∷ fs) a g && holds a g) fs)) here
    ∙ ap (λ o. cond (is_here a f fs) (Some f) o) (find_same a f fs fs rising.0 ∙ function_is a fs below rising.1)
  where
    or_true : (t : Bool) → (t || true) ≡ true
    or_true true = refl
    or_true false = refl

none_below : (a : ℕ) (fs : List Function) → AllByRecursion (λ g. a < g.start) fs → at_rec a fs ≡ None
none_below a [] all = refl
none_below a (f ∷ fs) all =
    let lt : a < f.start = all.0 in
    let out : is_here a f fs ≡ false = rw (yes a f.start lt) refl in
    rw out (none_below a fs all.1)

-- ---- what a function answers

abbrev pub answer_of : Gsym → ℕ → Function → Option PathAnswer
answer_of gsym a f = if f.name == 0 then None else option_and_then (row_answer gsym) (row_in a f.tables)

-- The rows of its last table are in order.
abbrev pub RowsRise : Function → Type 0
RowsRise f = Rising (last_after [] f.tables)

function_found : (gsym : Gsym) (path : ℕ → ℕ → List ℕ) (p : Position) (low high : ℕ) (f : Function) → TellsSo (row_answer gsym) path
    → RowsRise f → high ≤ 2 ^ 64 - 1
    → spans_by_path Four path (function_spans gsym low high f) p ≡ cond (in_range low high p.address) (answer_of gsym p.address f) None
function_found gsym path p low high f so rising bound = by_tests (nat_lt low high) refl (f.name == 0) refl
  where
    Here : Type 0
    Here = spans_by_path Four path (function_spans gsym low high f) p
        ≡ cond (in_range low high p.address) (answer_of gsym p.address f) None

    by_tests : (s : Bool) → nat_lt low high ≡ s → (t : Bool) → (f.name == 0) ≡ t → Here
    by_tests false e t g =
        let out : in_range low high p.address ≡ false = grind (arith, nat_tests, e) in rw (e, out) refl
    by_tests true e true g = rw (e, g) (same_both (in_range low high p.address) None)
    by_tests true e false g =
        rw (e, g) (tables_found (high - low) (row_answer gsym) path p low high f.tables so rising bound (omega arith))

-- ---- what all functions answer

map_or : {A B : Type 0} (g : A → B) (o q : Option A) → option_map g (option_or o q) ≡ option_or (option_map g o) (option_map g q)
map_or g None q = refl
map_or g (Some x) q = refl

or_none : {A : Type 0} (o : Option A) → option_or o None ≡ o
or_none None = refl
or_none (Some x) = refl

next_bound : (start : ℕ) (fs : List Function) → next_above start fs ≤ 2 ^ 64 - 1
next_bound start [] = omega arith
next_bound start (g ∷ fs) = by (next_bound start fs) (nat_lt start g.start) refl
  where
    by : next_above start fs ≤ 2 ^ 64 - 1 → (t : Bool) → nat_lt start g.start ≡ t → next_above start (g ∷ fs) ≤ 2 ^ 64 - 1
    by rest true e = rw e (grind (arith, nat_tests))
    by rest false e = rw e rest

end_bound : (f : Function) (later : List Function) → high_of f later ≤ 2 ^ 64 - 1
end_bound f later = at_most (end_of f.start f.size) (next_above f.start later) (next_bound f.start later)
  where
    at_most : (n m : ℕ) → m ≤ 2 ^ 64 - 1 → less n m ≤ 2 ^ 64 - 1
    at_most n m le = grind (arith, nat_tests)

-- whether a function holds an address below the next start, by where it ends
holds_is : (a : ℕ) (f : Function) → a < 2 ^ 64 - 1 → f.start ≤ a → holds a f ≡ nat_lt a (end_of f.start f.size)
holds_is a f below from = by (f.size == 0) refl (nat_lt (f.start + f.size) (2 ^ 64)) refl
  where
    by : (s : Bool) → (f.size == 0) ≡ s → (t : Bool) → nat_lt (f.start + f.size) (2 ^ 64) ≡ t → holds a f ≡ nat_lt a (end_of f.start f.size)
    by true e t g = rw e (sym (yes a (2 ^ 64 - 1) below))
    by false e true g = rw (e, g) (and_true (nat_lt a (f.start + f.size)))
      where
        and_true : (t : Bool) → (t && true) ≡ t
        and_true true = refl
        and_true false = refl
    by false e false g = rw (e, g) (and_false (nat_lt a (f.start + f.size)) ∙ sym (no a 0 (omega arith)))
      where
        and_false : (t : Bool) → (t && false) ≡ false
        and_false true = refl
        and_false false = refl

-- it is here exactly from its start to where it ends to answer
here_is : (a : ℕ) (f : Function) (later : List Function) → a < 2 ^ 64 - 1 → is_here a f later ≡ in_range f.start (high_of f later) a
here_is a f later below = by (nat_lt a f.start) refl
  where
    both : (n m : ℕ) → (nat_lt a m && nat_lt a n) ≡ nat_lt a (less n m)
    both n m = grind (arith, nat_tests)

    by : (t : Bool) → nat_lt a f.start ≡ t → is_here a f later ≡ in_range f.start (high_of f later) a
    by true e = rw e refl
    by false e = rw (e, holds_is a f below (not_less a f.start e)) (both (end_of f.start f.size) (next_above f.start later))

-- what a function answers, and what the later ones answer
join : {A : Type 0} (a covered start high : ℕ) (v w : Option A) → high ≤ 2 ^ 64 - 1 → (a < start → w ≡ None)
    → option_or (cond (in_range (more covered start) high a) v None)
    (cond (in_range (covered_after covered (more covered start) high) (2 ^ 64 - 1) a) w None)
    ≡ cond (in_range covered (2 ^ 64 - 1) a) (cond (in_range start high a) v w) None
join {A} a covered start high v w bound none =
    by_tests (in_range (more covered start) high a) refl (in_range covered (2 ^ 64 - 1) a) refl
    (in_range (covered_after covered (more covered start) high) (2 ^ 64 - 1) a) refl
  where
    by_tests : (x : Bool) → in_range (more covered start) high a ≡ x → (y : Bool) → in_range covered (2 ^ 64 - 1) a ≡ y
        → (z : Bool) → in_range (covered_after covered (more covered start) high) (2 ^ 64 - 1) a ≡ z
        → option_or (cond (in_range (more covered start) high a) v None)
        (cond (in_range (covered_after covered (more covered start) high) (2 ^ 64 - 1) a) w None)
        ≡ cond (in_range covered (2 ^ 64 - 1) a) (cond (in_range start high a) v w) None
    by_tests true e true f true g = absurd (grind (arith, nat_tests, e, g))
    by_tests true e true f false g =
        let here : in_range start high a ≡ true = grind (arith, nat_tests, e) in rw (e, f, g, here) (or_none v)
    by_tests true e false f z g = absurd (grind (arith, nat_tests, e, f))
    by_tests false e false f true g = absurd (grind (arith, nat_tests, f, g))
    by_tests false e false f false g = rw (e, f, g) refl
    by_tests false e true f true g =
        let here : in_range start high a ≡ false = grind (arith, nat_tests, e, f) in rw (e, f, g, here) refl
    by_tests false e true f false g =
        let here : in_range start high a ≡ false = grind (arith, nat_tests, e, f) in
        let lt : a < start = grind (arith, nat_tests, e, f, g) in
        rw (e, f, g, here) (sym (none lt))

then_cond : {A B : Type 0} (g : A → Option B) (t : Bool) (x : A) (o : Option A)
    → cond t (g x) (option_and_then g o) ≡ option_and_then g (cond t (Some x) o)
then_cond g true x o = refl
then_cond g false x o = refl

one_function : (gsym : Gsym) (a covered : ℕ) (f : Function) (fs : List Function) → AllByRecursion (λ g. f.start ≤ g.start) fs
    → option_or (cond (in_range (more covered f.start) (high_of f fs) a) (answer_of gsym a f) None)
    (cond (in_range (covered_after covered (more covered f.start) (high_of f fs)) (2 ^ 64 - 1) a)
    (option_and_then (answer_of gsym a) (at_rec a fs)) None)
    ≡ cond (in_range covered (2 ^ 64 - 1) a) (option_and_then (answer_of gsym a) (at_rec a (f ∷ fs))) None
one_function gsym a covered f fs up =
    join a covered f.start (high_of f fs) (answer_of gsym a f) (option_and_then (answer_of gsym a) (at_rec a fs)) (end_bound f fs)
    (λ lt. ap (option_and_then (answer_of gsym a)) (none_below a fs (all_above a f.start fs lt up)))
    ∙ by_test (in_range covered (2 ^ 64 - 1) a) refl
  where
    by_test : (t : Bool) → in_range covered (2 ^ 64 - 1) a ≡ t
        → cond (in_range covered (2 ^ 64 - 1) a) (cond (in_range f.start (high_of f fs) a) (answer_of gsym a f)
        (option_and_then (answer_of gsym a) (at_rec a fs))) None
        ≡ cond (in_range covered (2 ^ 64 - 1) a) (option_and_then (answer_of gsym a) (at_rec a (f ∷ fs))) None
    by_test false e = rw e refl
    by_test true e =
        let below : a < 2 ^ 64 - 1 = grind (arith, nat_tests, e) in
        rw e (ap (λ t. cond t (answer_of gsym a f) (option_and_then (answer_of gsym a) (at_rec a fs))) (sym (here_is a f fs below))
        ∙ then_cond (answer_of gsym a) (is_here a f fs) f (at_rec a fs))

pub spans_found : (gsym : Gsym) (path : ℕ → ℕ → List ℕ) (p : Position) (covered : ℕ) (fs : List Function) → TellsSo (row_answer gsym) path
    → AllByRecursion RowsRise fs → Starts fs
    → spans_by_path Four path (spans_from gsym covered fs) p
    ≡ cond (in_range covered (2 ^ 64 - 1) p.address) (option_and_then (answer_of gsym p.address) (at_rec p.address fs)) None
spans_found gsym path p covered [] so rise starts = same_both (in_range covered (2 ^ 64 - 1) p.address) None
spans_found gsym path p covered (f ∷ fs) so rise starts =
    found_append path p (function_spans gsym (more covered f.start) (high_of f fs) f)
    (spans_from gsym (covered_after covered (more covered f.start) (high_of f fs)) fs)
    ∙ (ap (λ o. option_or o (spans_by_path Four path (spans_from gsym (covered_after covered (more covered f.start) (high_of f fs)) fs) p))
    (function_found gsym path p (more covered f.start) (high_of f fs) f so rise.0 (end_bound f fs))
    ∙ (ap (option_or (cond (in_range (more covered f.start) (high_of f fs) p.address) (answer_of gsym p.address f) None))
    (spans_found gsym path p (covered_after covered (more covered f.start) (high_of f fs)) fs so rise.1 starts.1)
    ∙ one_function gsym p.address covered f fs starts.0))

abbrev whole_gsym : List Function → List (ℕ × ℕ) → List ℕ → Gsym
whole_gsym functions files strings = record { functions = functions; files = files; strings = strings }

-- the answers of a file, in a table
pub spans_answer : (names : NamesSaid) (gsym : Gsym) (path : ℕ → ℕ → List ℕ) (p : Position) → names.strings ≡ gsym.strings
    → names.files ≡ gsym.files → TellsSo (row_answer (named names)) path → AllByRecursion RowsRise gsym.functions → Starts gsym.functions
    → spans_by_path Four path (spans_from (named names) 0 gsym.functions) p
    ≡ cond (nat_lt p.address (2 ^ 64 - 1)) (gsym_answer gsym p.address) None
spans_answer names gsym path p strings files so rise starts =
    spans_found (named names) path p 0 gsym.functions so rise starts
    ∙ by_test (nat_lt p.address (2 ^ 64 - 1)) refl
  where
    same : whole_gsym gsym.functions names.files names.strings
        ≡ whole_gsym gsym.functions gsym.files gsym.strings
    same = cc

    by_name : (a : ℕ) → option_and_then (answer_of (named names) a) (function_at gsym.functions a) ≡ gsym_answer gsym a
    by_name a = ap (λ (g : Gsym). gsym_answer g a) same

    by_test : (t : Bool) → nat_lt p.address (2 ^ 64 - 1) ≡ t
        → cond (in_range 0 (2 ^ 64 - 1) p.address) (option_and_then (answer_of (named names) p.address)
        (at_rec p.address gsym.functions)) None
        ≡ cond (nat_lt p.address (2 ^ 64 - 1)) (gsym_answer gsym p.address) None
    by_test true e =
        let within : in_range 0 (2 ^ 64 - 1) p.address ≡ true = grind (arith, nat_tests, e) in
        rw (within, e) (ap (option_and_then (answer_of (named names) p.address))
        (sym (function_is p.address gsym.functions (is_less p.address (2 ^ 64 - 1) e) starts)) ∙ by_name p.address)
    by_test false e =
        let out : in_range 0 (2 ^ 64 - 1) p.address ≡ false = grind (arith, nat_tests, e) in rw (out, e) refl

-- ---- order

pub spans_ordered : (gsym : Gsym) (covered : ℕ) (fs : List Function) → AllByRecursion RowsRise fs → covered ≤ 2 ^ 64 - 1
    → Ordered covered (2 ^ 64 - 1) (spans_from gsym covered fs)
spans_ordered gsym covered [] rise le = le
spans_ordered gsym covered (f ∷ fs) rise le =
    by_test (λ next bound. spans_ordered gsym next fs rise.1 bound) (nat_lt (more covered f.start) (high_of f fs)) refl
  where
    Here : Type 0
    Here = Ordered covered (2 ^ 64 - 1) (function_spans gsym (more covered f.start) (high_of f fs) f
        ++ spans_from gsym (covered_after covered (more covered f.start) (high_of f fs)) fs)

    at_least : covered ≤ more covered f.start
    at_least = grind (arith, nat_tests)

    by_name : (t : Bool) → (f.name == 0) ≡ t → nat_lt (more covered f.start) (high_of f fs) ≡ true
        → Ordered covered (high_of f fs) (function_spans gsym (more covered f.start) (high_of f fs) f)
    by_name true g e =
        let lt : covered ≤ high_of f fs = grind (arith, nat_tests, e) in rw (e, g) lt
    by_name false g e =
        let lt : covered ≤ high_of f fs = grind (arith, nat_tests, e) in
        rw (e, g) (tables_ordered (high_of f fs - more covered f.start) (tells gsym) covered (more covered f.start) (high_of f fs) f.tables
        rise.0 (end_bound f fs) at_least lt)

    by_test : ((next : ℕ) → next ≤ 2 ^ 64 - 1 → Ordered next (2 ^ 64 - 1) (spans_from gsym next fs))
        → (t : Bool) → nat_lt (more covered f.start) (high_of f fs) ≡ t → Here
    by_test later true e =
        let next : covered_after covered (more covered f.start) (high_of f fs) ≡ high_of f fs = rw e refl in
        ordered_append covered (high_of f fs) (2 ^ 64 - 1) (function_spans gsym (more covered f.start) (high_of f fs) f)
        (spans_from gsym (covered_after covered (more covered f.start) (high_of f fs)) fs)
        (by_name (f.name == 0) refl e)
        (rw next (later (high_of f fs) (end_bound f fs)))
    by_test later false e = rw e (later covered le)
