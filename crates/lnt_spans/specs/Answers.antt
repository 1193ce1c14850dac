-- Answers, and which of their parts each version of the address table contains.
use Rattle.std.specs.Prelude.{None}
use Rattle.lnt_spans.specs.declared.answer.Answer.{Answer}
use Rattle.lnt_spans.specs.declared.answer.Version.{Version}
use Rattle.lnt_spans.specs.declared.answer.Version.TheVariants.{One, Two}

-- the answer without its instruction set and discriminator
abbrev pub narrowed : Answer → Answer
narrowed answer = record answer { more = None }

-- the answer, narrowed to what a version contains
abbrev pub in_version : Version → Answer → Answer
in_version One answer = narrowed answer
in_version Two answer = answer
