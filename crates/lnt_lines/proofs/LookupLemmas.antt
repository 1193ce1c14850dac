-- What lookups answer, the files that they name, and what they keep.
use Rattle.std.proofs.Common.{◌≡◌, ℕ, ◌<◌, List, [], ◌∷◌, ◌++◌, length, get_or, Option, sym, ap, ◌∙◌, subst, IfSome, IsSome, All}
use Rattle.std.proofs.Common.{option_map}
use Rattle.std.proofs.lemmas.List.Elements.{All-append, All-cons, All-nil}
use Rattle.lnt_machine.specs.declared.row.Row.{Row}
use Rattle.lnt_spans.specs.declared.answer.Answer.{Answer}
use Rattle.lnt_spans.specs.declared.position.Position.{Position}
use Rattle.lnt_sequences.specs.declared.sequence.SeqId.{SeqId}
use Rattle.lnt_sequences.specs.Rules.{IsOrdered}
use Rattle.lnt_sequences.specs.Sequences.{answer_of, line_answer, row_at}
use Rattle.lnt_lines.specs.declared.lookups.Cached.{Cached}
use Rattle.lnt_lines.specs.Indexed.{Answers, IsCachedOf, file_path_in, Indexed, IsIndex, IsSequenceIn, OfUnits}
use Rattle.lnt_lines.proofs.NamedLemmas.{answer_named}

-- what is answered of some units
abbrev pub AnswersIn : Indexed → Position → Option Answer → Type 0
AnswersIn index p answer = OfUnits index (λ selection. answer ≡ line_answer selection p)

pub answered : (index : Indexed) (p : Position) (id : SeqId) (answer : Option Answer)
    → OfUnits index (λ selection. Answers selection index p id) → ((rows : List Row) → IsSequenceIn index.units index.programs id rows
    → IsOrdered rows → answer ≡ option_map (answer_of id.unit) (row_at p rows)) → AnswersIn index p answer
answered index p id answer has found selection is =
    let of = has selection is in
    found of.rows of.sequence_is of.ordered ∙ sym of.answer_is

pub named : (index : Indexed) (p : Position) (answer : Option Answer) → IsIndex index → AnswersIn index p answer
    → IfSome answer (λ (a : Answer). IsSome (file_path_in index a.unit a.file))
named index p answer is answers = answer_named index p answer is (answers is.selection is.index_is)

-- ---- what is kept

-- that of one more sequence
pub known_more : (index : Indexed) (known new : List Cached) (cached : Cached) → All (IsCachedOf index) known → IsCachedOf index cached
    → new ≡ known ++ cached ∷ [] → All (IsCachedOf index) new
known_more index known new cached all is are =
    subst (All (IsCachedOf index)) (sym are)
    (All-append (IsCachedOf index) known (cached ∷ []) all (All-cons (IsCachedOf index) cached [] is (All-nil (IsCachedOf index))))

-- that at a place, where the sequence with an id stands
pub cached_at : (index : Indexed) (known found : List Cached) (k : ℕ) (cached : Cached) (id : SeqId) → found ≡ known
    → (k < length found) × ((d : Cached) → (get_or found k d).id ≡ id) → cached ≡ get_or known k cached → All (IsCachedOf index) known
    → (cached.id ≡ id) × IsCachedOf index cached
cached_at index known found k cached id same is at all =
    let few : k < length known = subst (λ (list : List Cached). k < length list) same is.0 in
    let id_is : (get_or known k cached).id ≡ id = subst (λ (list : List Cached). (get_or list k cached).id ≡ id) same (is.1 cached) in
    (ap (λ (m : Cached). m.id) at ∙ id_is, subst (IsCachedOf index) (sym at) (all k cached few))
