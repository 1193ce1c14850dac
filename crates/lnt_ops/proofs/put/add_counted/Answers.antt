use Rattle.std.proofs.Common.{◌≡◌, ◌++◌, ◌∷◌, [], arith}
use Rattle.std.proofs.lemmas.Grind.{common_steps}
use Rattle.lnt_ops.proofs.OpPutLemmas.{counted_room, counted_put}
use Rattle.lnt_ops.proofs.put.add_counted.Goals as goal

pub overflow_cast-len : goal.overflow_cast-len
overflow_cast-len c =
    let three : c.extend_from_slice.new.self.items ≡ c.args.out.now.items ++ 0 ∷ 0 ∷ c.args.code ∷ [] = grind (arith, common_steps) in
    omega (
      arith,
      counted_room c.args.code c.args.n c.args.out.now.items _ c.append_uleb.new.out.items three c.in_ok-append_uleb.ensures.ok,
      c.len.ensures,
      c.len-place.ensures,
    )

pub returns-clause-ok : goal.returns-clause-ok
returns-clause-ok c =
    let three : c.extend_from_slice.new.self.items ≡ c.args.out.now.items ++ 0 ∷ 0 ∷ c.args.code ∷ [] = grind (arith, common_steps) in
    counted_put c.args.code c.args.n _ _ c.args.out.now.items _ c.append_uleb.new.out.items three c.in_ok-append_uleb.ensures.ok
    (grind (arith, common_steps)) (grind (arith, common_steps))

pub index_mut-requires : goal.index_mut-requires
index_mut-requires c = grind (arith, common_steps)

pub overflow_sub-len : goal.overflow_sub-len
overflow_sub-len c = grind (arith, common_steps)

pub overflow_sub-len-2 : goal.overflow_sub-len-2
overflow_sub-len-2 c = grind (arith, common_steps)
