use Rattle.std.proofs.Common.{arith, ◌≡◌, length}
use Rattle.lnt_text.specs.Digits.{IsPlainAddress}
use Rattle.lnt_records.proofs.TextLemmas.{put_before}
use Rattle.lnt_records.proofs.text.address_field_before.Goals as goal

pub returns-clause-written : goal.returns-clause-written
returns-clause-written c =
    let put = c.address_before in
    let long : length put.new.text ≡ 256 = omega (arith, put.auto.text, c.told-room) in
    put_before IsPlainAddress c.args.room.now put.new.text put.result c.args.end c.args.address 44 c.told-room long
    put.ensures.begins.0 c.requires.1 put.ensures.written put.ensures.after
