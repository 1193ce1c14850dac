use Rattle.lnt_records.proofs.TextLemmas.{kept_text}
use Rattle.lnt_records.proofs.text.Kept.of.Goals as goal

pub returns : goal.returns
returns c =
    let is = c.requires in
    record {
      kept = kept_text c.args.room.now c.copy_from_slice.new.self c.args.start c.args.end c.told-room is.0 is.1 is.2 is.3
          c.copy_from_slice.ensures.after;
    }
