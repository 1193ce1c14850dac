use Rattle.std.proofs.Common.{◌≡◌, take}
use Rattle.std.specs.List.{fold}
use Rattle.lnt_records.specs.KeptPaths.{more_sum}
use Rattle.lnt_records.proofs.path_records.summed.sum_of.Given as goal

abbrev pub invariant-loop-byte : goal.invariant-loop-byte
invariant-loop-byte l = l.sum ≡ fold more_sum 0 (take l.byte-index l.field)
