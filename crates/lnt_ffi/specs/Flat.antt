-- Sections, answers and spans as C sees them, and what they stand for.
use Rattle.std.specs.Prelude.{if◌then◌else◌, false, is_some, None, Option, Some}
use Rattle.std.specs.Option.{option_map_or}
use Rattle.lnt_wire.specs.declared.format.Order.TheVariants.{Big, Little}
use Rattle.lnt_lines.specs.declared.options.Options.{Options}
use Rattle.lnt_spans.specs.declared.answer.Answer.{Answer}
use Rattle.lnt_spans.specs.declared.span.Span.{Span}
use Rattle.lnt_ffi.specs.declared.flat.FlatAnswer.{FlatAnswer}
pub use Rattle.lnt_ffi.specs.declared.flat.FlatSpan.{FlatSpan}
use Rattle.lnt_ffi.specs.declared.section.FlatSection.{FlatSection}

-- how a section is to be read
abbrev pub options_of : FlatSection → Options
options_of section = record {
  order = if section.is_big then Big else Little;
  dead = if section.has_dead then Some section.dead else None;
  skip_copies = section.skip_copies;
}

-- ---- what C sees, read

abbrev pub answer_of : FlatAnswer → Answer
answer_of flat = record {
  unit = flat.unit;
  file = flat.file;
  line = flat.line;
  column = flat.column;
  is_stmt = flat.is_stmt;
  more = if flat.is_wide then Some (record { isa = flat.isa; discriminator = flat.discriminator }) else None;
}

abbrev pub span_of : FlatSpan → Span
span_of flat = record {
  low = record { address = flat.low; op = flat.low_op };
  high = record { address = flat.high; op = flat.high_op };
  answer = answer_of flat.answer;
}

-- ---- what C is to see

abbrev pub nothing : FlatAnswer
nothing = record { unit = 0; file = 0; line = 0; column = 0; isa = 0; discriminator = 0; is_stmt = false; is_wide = false }

-- the instruction set and the discriminator are 0 where they aren't known
abbrev pub flat_answer : Answer → FlatAnswer
flat_answer answer = record {
  unit = answer.unit;
  file = answer.file;
  line = answer.line;
  column = answer.column;
  isa = option_map_or (λ more. more.isa) answer.more 0;
  discriminator = option_map_or (λ more. more.discriminator) answer.more 0;
  is_stmt = answer.is_stmt;
  is_wide = is_some answer.more;
}

-- what one side of a difference answers, which may be nothing
abbrev pub flat_side : Option Answer → FlatAnswer
flat_side None = nothing
flat_side (Some answer) = flat_answer answer
