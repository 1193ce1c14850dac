-- Answers that were stopped.
use Rattle.std.proofs.Common.{Bool, ℕ, List, ◌⊎◌, Option, IsErr, Result, Ok, Err, OnErr, inl, inr, true, false}
use Rattle.std.proofs.lemmas.Bool.{false≢true}
use Rattle.std.specs.Io.KnownBytes.{Keeps}
use Rattle.lnt_io.specs.Files.{FileState, FindsNoMore}
use Rattle.lnt_lines.specs.declared.section.JudgedIndex.{JudgedIndex}
use Rattle.lnt_lines.specs.declared.section.JudgedIndex.TheVariants.{Good, Bad}
use Rattle.lnt_lines.specs.Indexed.{Indexed}
use Rattle.lnt_words.specs.declared.request.Judging.{Judging}
use Rattle.lnt_words.specs.declared.request.Question.{Question}
use Rattle.lnt_words.specs.declared.request.Question.TheVariants.{Verify, Lookup, Files, Table, TableByPath, Md5}
use Rattle.lnt_answers.specs.Lines.{HasBegunLine}
use Rattle.lnt_answers.specs.SumLines.{listed_files}
use Rattle.lnt_answers.proofs.SumLaws.{begun_later}
use Rattle.lnt_cli.specs.Answered.{IsJudgedSo, IsTrueOf}
use Rattle.lnt_cli.specs.Questions.{BeginsGood, BeginsJudged}

-- What was written when the work stopped was written when the run did.
pub stopped_by : {R T S E : Type 0} (HasWritten Begins : Type 0) (worked : Result R E) (ended : Result T S) → OnErr ended (IsErr worked)
    → OnErr worked HasWritten → (HasWritten → Begins) → OnErr ended Begins
stopped_by HasWritten Begins worked (Ok value) is written so = tt
stopped_by HasWritten Begins (Ok value) (Err stop) is written so = absurd (false≢true is)
stopped_by HasWritten Begins (Err io_stop) (Err stop) is written so = so written

-- the same of what was written if something was
pub begun_of : {T E : Type 0} (Kept Began Begins : Type 0) (ended : Result T E) → OnErr ended (Kept ⊎ Began) → (Began → Begins)
    → OnErr ended (Kept ⊎ Begins)
begun_of Kept Began Begins (Ok value) begun so = tt
begun_of Kept Began Begins (Err stop) (inl kept) so = inl kept
begun_of Kept Began Begins (Err stop) (inr began) so = inr (so began)

-- ---- sections that are judged

-- a prefix of the line of a section that isn't good
pub begins_bad : {T E : Type 0} (any_copy : Bool) (from : Judging) (BeginsOfGood : Indexed → Option (List ℕ) → Option (List ℕ) → Type 0)
    (line general : List ℕ) (section old new : Option (List ℕ)) (ended : Result T E)
    → Keeps old new ⊎ HasBegunLine (IsTrueOf any_copy from line general section) old new
    → OnErr ended (Keeps old new ⊎ IsJudgedSo any_copy from (BeginsJudged BeginsOfGood old new) line general section)
begins_bad any_copy from BeginsOfGood line general section old new (Ok answered) begun = tt
begins_bad any_copy from BeginsOfGood line general section old new (Err stop) (inl kept) = inl kept
begins_bad any_copy from BeginsOfGood line general section old new (Err stop) (inr bad) = inr (Bad bad.reason, bad.is_so, bad.prefix)

-- ---- questions

-- a prefix of an answer stays true where more may be told of the files
good_begun_later : (finds finds' : List ℕ → FileState → Type 0) (question : Question) (index : Indexed) (old new : Option (List ℕ))
    → FindsNoMore finds finds' → BeginsGood finds' question index old new → BeginsGood finds question index old new
good_begun_later finds finds' Verify index old new later begun = begun
good_begun_later finds finds' (Lookup positions) index old new later begun = begun
good_begun_later finds finds' Files index old new later begun = begun
good_begun_later finds finds' (Table version) index old new later begun = begun
good_begun_later finds finds' (TableByPath true) index old new later begun = begun
good_begun_later finds finds' (TableByPath false) index old new later begun = begun
good_begun_later finds finds' Md5 index old new later begun = begun_later finds finds' index (listed_files index) old new later begun

pub judged_begun_later : (finds finds' : List ℕ → FileState → Type 0) (question : Question)
    (old new : Option (List ℕ)) (judged : JudgedIndex) → FindsNoMore finds finds'
    → BeginsJudged (BeginsGood finds' question) old new judged → BeginsJudged (BeginsGood finds question) old new judged
judged_begun_later finds finds' question old new (Good index) later begun = good_begun_later finds finds' question index old new later begun
judged_begun_later finds finds' question old new (Bad reason) later begun = begun
