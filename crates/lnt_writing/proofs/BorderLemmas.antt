-- Joined spans that begin or end inside an instruction.
use Rattle.std.proofs.Common.{◌≢◌, suc, List, [], ◌∷◌, ◌++◌, map, inl, inr, sym, subst, arith}
use Rattle.std.specs.List.{AllByRecursion, Contains}
use Rattle.lnt_spans.specs.declared.answer.Answer.{Answer}
use Rattle.lnt_spans.specs.declared.position.Position.{Position}
use Rattle.lnt_spans.specs.declared.span.Span.{Span}
use Rattle.lnt_spans.specs.Positions.{IsAtMost}
use Rattle.lnt_spans.proofs.PositionLaws.{at_most_itself, at_most_trans, below_is_at_most}
use Rattle.lnt_spans.specs.Spans.{IsOfInstructions}
use Rattle.lnt_compare.specs.PathStretches.{IsLeastOperation, path_borders}
use Rattle.lnt_compare.specs.Joining.{tell_span}
use Rattle.lnt_writing.specs.Joined.{IsFirstOperation}
use Rattle.lnt_records.specs.PathSpans.{PathAnswer, PathSpan, StandInOrder, path_spans}
use Rattle.lnt_spans.proofs.AnsweringLaws.{first_holds, rest_in_order}

-- ---- found in turn

pub past : (done rest : List Span) (p : Position) → AllByRecursion IsOfInstructions done → IsFirstOperation p rest
    → IsFirstOperation p (done ++ rest)
past [] rest p h f = f
past (s ∷ done) rest p h f = inr (inr (h.0, past done rest p h.1 f))

-- it stays the first, whatever follows
pub first_before : (first more : List Span) (p : Position) → IsFirstOperation p first → IsFirstOperation p (first ++ more)
first_before [] more p f = absurd f
first_before (s ∷ first) more p (inl f) = inl f
first_before (s ∷ first) more p (inr (inl f)) = inr (inl f)
first_before (s ∷ first) more p (inr (inr f)) = inr (inr (f.0, first_before first more p f.1))

pub none_more : (given : List Span) (span : Span) → AllByRecursion IsOfInstructions given → IsOfInstructions span
    → AllByRecursion IsOfInstructions (given ++ span ∷ [])
none_more [] span h one = (one, tt)
none_more (s ∷ given) span h one = (h.0, none_more given span h.1 one)

-- ---- the least one

abbrev IsAfter : Position → Position → Type 0
IsAfter p q = q.op ≢ 0 → IsAtMost p q

abbrev FirstIsAfter : Position → List PathSpan → Type 0
FirstIsAfter p [] = Unit {0}
FirstIsAfter p (s ∷ rest) = IsAtMost p s.low

next_after : (p : Position) (s : PathSpan) (rest : List PathSpan) → StandInOrder (s ∷ rest) → IsAtMost p s.high → FirstIsAfter p rest
next_after p s [] o h = tt
next_after p s (t ∷ rest) o h = at_most_trans h o.1

all_after : (p : Position) (list : List PathSpan) → StandInOrder list → FirstIsAfter p list
    → AllByRecursion (IsAfter p) (path_borders list)
all_after p [] o h = tt
all_after p (s ∷ rest) o h =
    let end = at_most_trans h (below_is_at_most (first_holds path_spans s rest o)) in
    (λ op. h, (λ op. end, all_after p rest (rest_in_order path_spans s rest o) (next_after p s rest o end)))

further : (xs : List Position) (x y p : Position) → Contains xs p → Contains (x ∷ y ∷ xs) p
further xs x y p (k, lt, same) = (suc (suc k), omega (arith, lt), same)

pub first_least : (tell : Answer → PathAnswer) (joined : List Span) (p : Position) → StandInOrder (map (tell_span tell) joined)
    → IsFirstOperation p joined → IsLeastOperation (map (tell_span tell) joined) p
first_least tell [] p o f = absurd f
first_least tell (s ∷ rest) p o (inl f) = record {
  border = (0, omega arith, sym f.1);
  op = subst (λ (q : Position). q.op ≢ 0) (sym f.1) f.0;
  least = subst (λ (q : Position). AllByRecursion (IsAfter q) (path_borders (map (tell_span tell) (s ∷ rest)))) (sym f.1)
      (all_after s.low (map (tell_span tell) (s ∷ rest)) o (at_most_itself s.low));
}
first_least tell (s ∷ rest) p o (inr (inl f)) =
    let list : List PathSpan = map (tell_span tell) rest in
    let back = all_after s.high list (rest_in_order path_spans (tell_span tell s) list o)
    (next_after s.high (tell_span tell s) list o (at_most_itself s.high)) in
    record {
      border = (1, omega arith, sym f.2);
      op = subst (λ (q : Position). q.op ≢ 0) (sym f.2) f.1;
      least = (
        λ op. absurd (op f.0),
        (
          λ op. subst (λ (q : Position). IsAtMost q s.high) (sym f.2) (at_most_itself s.high),
          subst (λ (q : Position). AllByRecursion (IsAfter q) (path_borders list)) (sym f.2) back,
        ),
      );
    }
first_least tell (s ∷ rest) p o (inr (inr f)) =
    let list : List PathSpan = map (tell_span tell) rest in
    let more = first_least tell rest p (rest_in_order path_spans (tell_span tell s) list o) f.1 in
    record {
      border = further (path_borders list) s.low s.high p more.border;
      op = more.op;
      least = (λ op. absurd (op f.0.0), (λ op. absurd (op f.0.1), more.least));
    }
