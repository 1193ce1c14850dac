use Rattle.std.proofs.Common.{[], ◌∷◌, ◌++◌, inl, inr, refl}
use Rattle.lnt_writing.proofs.BorderLemmas.{none_more, past}
use Rattle.lnt_compare.proofs.JoiningLemmas.{left_first, left_more}
use Rattle.lnt_writing.proofs.CanonicalLemmas.{all_given, left_any}
use Rattle.lnt_writing.proofs.border.first_operation.Goals as goal

pub loop-joined-init : goal.loop-joined-init
loop-joined-init g c = ([], tt, c.requires, λ list come order. left_first _ _ list (c.of-joined.ensures list come) order)

pub returns-then-span-ne0-clause-found : goal.returns-then-span-ne0-clause-found
returns-then-span-ne0-clause-found g c =
    let inv = c.loop-joined.invariant in
    let left = rw c.in-Some.is at c.in_ok-span.ensures.left in (
      inv.0 ++ c.in-Some.span ∷ [],
      (
        past inv.0 (c.in-Some.span ∷ []) c.in-Some.span.low inv.1 (inl (c.if-span-ne0.true, refl)),
        λ list come order. left_any _ _ list _ (left_more _ _ _ list inv.0 c.in-Some.span (inv.3 list come order) left),
      ),
    )

pub returns-then-span-ne0-2-clause-found : goal.returns-then-span-ne0-2-clause-found
returns-then-span-ne0-2-clause-found g c =
    let inv = c.loop-joined.invariant in
    let left = rw c.in-Some.is at c.in_ok-span.ensures.left in (
      inv.0 ++ c.in-Some.span ∷ [],
      (
        past inv.0 (c.in-Some.span ∷ []) c.in-Some.span.high inv.1 (inr (inl (c.if-span-ne0.false, c.if-span-ne0-2.true, refl))),
        λ list come order. left_any _ _ list _ (left_more _ _ _ list inv.0 c.in-Some.span (inv.3 list come order) left),
      ),
    )

pub loop-joined-preserved : goal.loop-joined-preserved
loop-joined-preserved g c =
    let inv = c.loop-joined.invariant in
    let left = rw c.in-Some.is at c.in_ok-span.ensures.left in (
      inv.0 ++ c.in-Some.span ∷ [],
      none_more inv.0 c.in-Some.span inv.1 (c.if-span-ne0.false, c.if-span-ne0-2.false),
      c.in_ok-span.ensures.sound,
      λ list come order. left_more _ _ _ list inv.0 c.in-Some.span (inv.3 list come order) left,
    )

pub returns-clause-found : goal.returns-clause-found
returns-clause-found g c =
    let inv = c.loop-joined.invariant in
    let left = rw c.in_default.is at c.in_ok-span.ensures.left in
    (inv.0, (inv.1, λ list come order. all_given _ _ list inv.0 (inv.3 list come order) (λ rest h. (left rest h).0)))
