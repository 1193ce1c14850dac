use Rattle.std.proofs.Common.{◌++◌, codes, take, flat_map}
use Rattle.std.specs.Fmt.{HasWritten, IsPlainFormatter}
use Rattle.lnt_text.specs.Texts.{quoted_byte}
use Rattle.lnt_text.proofs.quoted.QuotedDisplay.fmt.Given as goal

abbrev pub invariant-loop-byte : goal.invariant-loop-byte
invariant-loop-byte g l =
    IsPlainFormatter l.fn.f
    → HasWritten g.W.Write.write_str_gives l.fn.f (codes "\"" ++ flat_map quoted_byte (take l.byte-index l.byte-items)) l.f
