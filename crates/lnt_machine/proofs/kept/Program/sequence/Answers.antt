use Rattle.std.proofs.Common.{◌≡◌, ◌<◌, ◌∙◌, ap, length, slice_index_or, subst, sym, List, ℕ, drop, rules}
use Rattle.lnt_machine.proofs.PlaceLaws.{kept_sequence}
use Rattle.lnt_machine.specs.Walking.{IsSequencePlace, KeepsProgram, KeptProgram}
use Rattle.lnt_machine.proofs.kept.Program.sequence.Goals as goal

pub returns-clause-rows : goal.returns-clause-rows
returns-clause-rows c unit d keeps =
    let kept : KeptProgram = record {
      header = c.self.inside.header;
      program = drop c.self.inside.start c.self.inside.bytes.items;
      places = c.self.inside.places.items;
    } in
    let numbers = c.numbers.result.now in
    let found = c.in_ok-place.ensures.lookup.3 in
    let few : c.args.index < length kept.places = subst (λ (list : List ℕ). c.args.index < length list) c.deref.ensures.value found.0 in
    let at : slice_index_or kept.places c.args.index 0 ≡ c.in_ok-place.field-0.now = ap
    (λ (list : List ℕ). slice_index_or list c.args.index 0) (sym c.deref.ensures.value) ∙ sym (found.1 0) in
    kept_sequence kept numbers unit c.args.index c.in_ok-place.field-0.now d c.at.result c.numbers.ensures.numbers
    (subst (λ (k : KeptProgram). KeepsProgram k unit) (sym c.self.view_is) keeps) few at
    (λ earlier later is. c.at.ensures.rows earlier later
    (subst (λ (program : List ℕ). IsSequencePlace numbers program earlier later c.in_ok-place.field-0.now)
    (sym (c.split_at.ensures.back ∙ ap (λ (list : List ℕ). drop c.self.inside.start list) c.deref-2.ensures.value)) is))

pub returns-clause-none : goal.returns-clause-none
returns-clause-none c = search rules
