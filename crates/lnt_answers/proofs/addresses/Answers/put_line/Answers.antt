use Rattle.std.proofs.Common.{◌≡◌, ◌++◌, codes, rules, Some, None, refl}
use Rattle.lnt_text.specs.Texts.{quoted_text}
use Rattle.lnt_answers.proofs.AddressLemmas.{told_one}
use Rattle.lnt_answers.proofs.addresses.Answers.put_line.Goals as goal

pub returns-in_ok-put_lookup-in-Some-clause-printed : goal.returns-in_ok-put_lookup-in-Some-clause-printed
returns-in_ok-put_lookup-in-Some-clause-printed c =
    told_one (Some c.in-Some.position) (rw c.in-Some.is at c.position_in.ensures) c.in_ok-put_lookup-in-Some.ensures.line refl

pub returns-in_ok-put_text-in-None-clause-printed : goal.returns-in_ok-put_text-in-None-clause-printed
returns-in_ok-put_text-in-None-clause-printed c =
    let bad : c.put_text.new.text.items
    ≡ c.args.self.now.lines.items ++ (codes "bad " ++ (quoted_text c.args.line.now ++ codes "\n")) = search rules in
    told_one None (rw c.in-None.is at c.position_in.ensures) (λ selection is. bad) refl
