use Rattle.std.proofs.Common.{rules}
use Rattle.lnt_header.proofs.PutLaws.{each_done, each_more}
use Rattle.lnt_header_bytes.specs.TableBytes.{PairBytes}
use Rattle.lnt_header_bytes.proofs.encode.add_pairs.Goals as goal

pub loop-pair-preserved : goal.loop-pair-preserved
loop-pair-preserved c = each_more PairBytes c.args.pairs.now c.loop-pair.pair-index _ _ _ _ c.loop-pair-test.true c.loop-pair.invariant
    c.in_ok-add_pair.ensures.ok

pub returns : goal.returns
returns c = search (rules, each_done)
