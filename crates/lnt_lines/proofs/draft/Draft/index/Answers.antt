use Rattle.lnt_sequences.specs.Sequences.{live_sequences, Selection}
use Rattle.lnt_lines.proofs.DraftLemmas.{index_of_draft, kept_numbers, named_files}
use Rattle.lnt_lines.proofs.draft.Draft.index.Goals as goal

pub entries-requires : goal.entries-requires
entries-requires c =
    let known = c.requires in (live_sequences known.dead known.units, known.draft_is.collects, known.distinct)

pub of-requires : goal.of-requires
of-requires c =
    let known = c.requires in
    let sequences = live_sequences known.dead known.units in
    let done = c.in_ok-entries.ensures in
    let selection : Selection = record { dead = known.dead; skip = c.args.skip_copies; units = known.units } in
    record {
      selection = selection;
      index_is = index_of_draft c.args.strings.now.line.now c.args.strings.now.general.now selection c.args.self
          c.in_ok-entries.entries.items c.args.live.items known.draft_is known.rising done.settled
          (done.entries sequences known.draft_is.collects) (done.apart sequences known.draft_is.collects);
      files = named_files c.args.strings.now.line.now c.args.strings.now.general.now known.dead known.units known.draft_is.sound;
      numbers = kept_numbers known.units c.args.self.programs.items known.draft_is.programs known.numbers;
    }

pub returns-clause-index : goal.returns-clause-index
returns-clause-index c dead units d =
    let done = c.in_ok-entries.ensures in
    rw c.of.ensures
    (index_of_draft c.args.strings.now.line.now c.args.strings.now.general.now
    (record { dead = dead; skip = c.args.skip_copies; units = units }) c.args.self c.in_ok-entries.entries.items c.args.live.items d
    c.requires.rising done.settled (done.entries (live_sequences dead units) d.collects)
    (done.apart (live_sequences dead units) d.collects))
