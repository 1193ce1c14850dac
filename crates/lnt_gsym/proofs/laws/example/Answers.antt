use Rattle.std.proofs.Common.{refl}
use Rattle.lnt_gsym.proofs.laws.example.Goals as goal

pub returns : goal.returns
returns c = record { answers = (refl, refl, refl, refl, refl, refl, refl); refused = (refl, refl) }
