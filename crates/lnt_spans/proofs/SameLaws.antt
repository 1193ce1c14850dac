-- Deciding whether two answers are the same, and whether two positions are.
use Rattle.std.proofs.Common.{◌≡◌, ◌≢◌, ℕ, Bool, true, false, ◌⊎◌, inl, inr, refl, ap, Some, None, Option, arith}
use Rattle.std.proofs.lemmas.Bool.{cases_eq}
use Rattle.std.proofs.lemmas.Option.{same_Some}
use Rattle.lnt_spans.specs.declared.answer.Answer.{Answer}
use Rattle.lnt_spans.specs.declared.answer.More.{More}
use Rattle.lnt_spans.specs.declared.position.Position.{Position}
use Rattle.std.proofs.lemmas.Grind.{common_steps}

same_bools : (a b : Bool) → (a ≡ b) ⊎ (a ≢ b)
same_bools true true = inl refl
same_bools true false = inr (λ e. cc e)
same_bools false true = inr (λ e. cc e)
same_bools false false = inl refl

pub same_options : {X : Type 0} → ((x y : X) → (x ≡ y) ⊎ (x ≢ y)) → (a b : Option X) → (a ≡ b) ⊎ (a ≢ b)
same_options same None None = inl refl
same_options same None (Some y) = inr (λ e. cc e)
same_options same (Some x) None = inr (λ e. cc e)
same_options same (Some x) (Some y) =
    elim (same x y) [ inl e ↦ inl (ap (λ z. Some z) e) | inr other ↦ inr (λ e. other (same_Some x y e)) ]

make_more : ℕ → ℕ → More
make_more isa discriminator = record { isa = isa; discriminator = discriminator }

made_more : (m : More) → make_more m.isa m.discriminator ≡ m
unfolding make_more
made_more m = refl

same_mores : (m n : More) → (m ≡ n) ⊎ (m ≢ n)
same_mores m n = grind (arith, common_steps, cases_eq, make_more, made_more)

make : ℕ → ℕ → ℕ → ℕ → Bool → Option More → Answer
make unit file line column is_stmt more =
    record { unit = unit; file = file; line = line; column = column; is_stmt = is_stmt; more = more }

made : (a : Answer) → make a.unit a.file a.line a.column a.is_stmt a.more ≡ a
unfolding make
made a = refl

pub same_answers : (a b : Answer) → (a ≡ b) ⊎ (a ≢ b)
same_answers a b = grind (arith, common_steps, cases_eq, same_bools, same_options, same_mores, make, made)

pub same_positions : (a b : Position) → (a ≡ b) ⊎ (a ≢ b)
same_positions a b = grind (arith, common_steps, cases_eq)
