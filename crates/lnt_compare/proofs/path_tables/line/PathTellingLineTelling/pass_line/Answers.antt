use Rattle.std.proofs.Common.{◌∙◌, false, true}
use Rattle.lnt_records.specs.PathSpans.{path_answer}
use Rattle.lnt_compare.proofs.LineLemmas.{path_line}
use Rattle.lnt_compare.proofs.path_tables.line.PathTellingLineTelling.pass_line.Goals as goal

pub returns-then-not-pass_line-clause-passed : goal.returns-then-not-pass_line-clause-passed
returns-then-not-pass_line-clause-passed g c =
    let path = g.P.Paths.bytes_of c.args.self.now.paths.now in (
      c.fill.new.self,
      c.in_ok-fill.ensures.taken,
      path_line false (path_answer c.args.self.now.version path) c.args.self.now.version c.args.span.now c.fill.new.self
          c.pass_line.new.window (c.if-not-pass_line.ensures path (c.deref.ensures.value ∙ c.in_ok-field.ensures.field.1)),
    )

pub returns-clause-passed : goal.returns-clause-passed
returns-clause-passed g c =
    let path = g.P.Paths.bytes_of c.args.self.now.paths.now in (
      c.fill.new.self,
      c.in_ok-fill.ensures.taken,
      path_line true (path_answer c.args.self.now.version path) c.args.self.now.version c.args.span.now c.fill.new.self
          c.pass_line.new.window (c.if-not-pass_line.ensures path (c.deref.ensures.value ∙ c.in_ok-field.ensures.field.1)),
    )

pub returns-clause-sound : goal.returns-clause-sound
returns-clause-sound g c =
    let path = g.P.Paths.bytes_of c.args.self.now.paths.now in
    record { known = c.requires.sound.known; fields = c.keep.ensures path c.in_ok-field.ensures.kept c.in_ok-field.ensures.field.0 }
