-- Lists of values that have a shortest spelling.
use Rattle.std.proofs.Common.{ℕ, List, [], ◌∷◌, ◌++◌, length, refl, ap, arith, length-append}
use Rattle.std.specs.List.{AllByRecursion}
use Rattle.lnt_wire.specs.Spelled.{HasShortest}
use Rattle.lnt_header.specs.Joins.{Each}

pub each_shortest : {X : Type 0} (Spells : X → List ℕ → Type 0) (xs : List X) → AllByRecursion (HasShortest Spells) xs
    → HasShortest (Each Spells) xs
each_shortest Spells [] all = ([], record { spelled = refl; shortest = λ other p. omega arith })
each_shortest Spells (x ∷ xs) all =
    let one = all.0 in
    let rest = each_shortest Spells xs all.1 in (
      one.0 ++ rest.0,
      record {
        spelled = record { prefix = one.0; back = rest.0; first = one.1.spelled; second = rest.1.spelled; joined = refl };
        shortest = λ other p. omega (
          arith,
          length-append one.0 rest.0,
          ap length p.joined,
          length-append p.prefix p.back,
          one.1.shortest
              p.prefix p.first,
          rest.1.shortest p.back p.second,
        );
      },
    )
