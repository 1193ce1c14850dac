use Rattle.std.proofs.Common.{List, ℕ, IsNone, length, rules, subst, ◌≤◌, All, take_all}
use Rattle.std.proofs.lemmas.List.Elements.{All-get_or, All-more}
use Rattle.lnt_lines.specs.Indexed.{file_sum_in}
use Rattle.lnt_answers.proofs.sums.lists_sums.Goals as goal

pub loop-unit-preserved : goal.loop-unit-preserved
loop-unit-preserved c =
    All-more (λ unit. IsNone (file_sum_in c.args.index.now unit 0)) c.args.index.now.units c.loop-unit.unit-index 0 (search rules)
    c.loop-unit.invariant (search rules)

pub returns : goal.returns
returns c =
    let IsUnlisted : ℕ → Type 0 = λ unit. IsNone (file_sum_in c.args.index.now unit 0) in
    let past : length c.args.index.now.units ≤ c.loop-unit.unit-index = search rules in
    let none = subst (λ (units : List ℕ). All IsUnlisted units) (take_all c.loop-unit.unit-index c.args.index.now.units past)
    c.loop-unit.invariant in (
      λ never. absurd (cc),
      λ any.
          let one = subst IsUnlisted any.3 (All-get_or IsUnlisted c.args.index.now.units any.0 any.1 any.2 none) in
          absurd (cc),
    )
