use Rattle.std.proofs.Common.{◌-◌, arith}
use Rattle.std.proofs.lemmas.Slice.{drop-put_mid}
use Rattle.lnt_records.proofs.TextLemmas.{put_text}
use Rattle.lnt_records.proofs.text.Kept.before.Goals as goal

pub returns-clause-written : goal.returns-clause-written
returns-clause-written c =
    let kept = c.args.self.now in
    rw (c.copy_from_slice.ensures.after)
    (put_text c.args.room.now kept.text kept.start c.args.end c.told-room kept.long kept.within c.requires.0 c.requires.1)

pub returns-clause-after : goal.returns-clause-after
returns-clause-after c =
    let end = c.args.end in
    rw (c.copy_from_slice.ensures.after)
    (drop-put_mid (end - 48) (end - (end - 48)) c.args.room.now c.args.self.now.text end (omega (arith, c.requires.0))
    (omega (arith, c.told-room, c.requires.1)) (omega (arith, c.args.self.now.long, c.requires.0)))
