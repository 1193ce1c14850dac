-- What a good section answers.
use Rattle.lnt_sequences.specs.Laws as rows
use Rattle.lnt_sequences.specs.Sequences.{kept_sequences}
use Rattle.lnt_lines.specs.Good.{selected}
use Rattle.lnt_lines.specs.Laws.{AnswersAsHolder}

pub answers_as_holder : rows.AnswersAsHolder → AnswersAsHolder
answers_as_holder law = record {
  one_alone = λ line general options section units one other p good a b. law.one_alone
      (kept_sequences (selected options units)) one other p good.apart a b;
  held = λ line general options section units placed p good c. law.held (kept_sequences (selected options units)) placed p
      good.apart c;
  none = λ selection p. law.none (kept_sequences selection) p;
}
