use Rattle.lnt_lines.proofs.CursorLemmas.{all_small}
use Rattle.lnt_lines.proofs.index.offsets_fit.Goals as goal

pub returns : goal.returns
returns c = all_small c.args.units.now (λ k. (c.type_inv.units k).fits)
