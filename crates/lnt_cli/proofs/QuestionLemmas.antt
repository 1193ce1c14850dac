-- Questions that were answered.
use Rattle.std.proofs.Common.{ℕ, List, Option, true, false}
use Rattle.lnt_io.specs.Files.{FileState, Readable, FindsNoMore}
use Rattle.lnt_io.specs.declared.status.Status.{Status}
use Rattle.lnt_lines.specs.declared.section.JudgedIndex.{JudgedIndex}
use Rattle.lnt_lines.specs.declared.section.JudgedIndex.TheVariants.{Good, Bad}
use Rattle.lnt_lines.specs.Indexed.{Indexed}
use Rattle.lnt_words.specs.declared.request.Judging.{Judging}
use Rattle.lnt_words.specs.declared.request.Question.{Question}
use Rattle.lnt_words.specs.declared.request.Question.TheVariants.{Verify, Lookup, Files, Table, TableByPath, Md5}
use Rattle.lnt_answers.specs.SumLines.{listed_files}
use Rattle.lnt_answers.proofs.SumLaws.{sums_later}
use Rattle.lnt_cli.specs.Answered.{AreTextsOf, IsOfFile, IsOfSection}
use Rattle.lnt_cli.specs.Questions.{AnswersGood, AnswersJudged}

-- an answer stays true where more may be told of the files
good_later : (finds finds' : List ℕ → FileState → Type 0) (question : Question) (index : Indexed)
    (old new : Option (List ℕ)) (status : Status) → FindsNoMore finds finds' → AnswersGood finds' question index old new status
    → AnswersGood finds question index old new status
good_later finds finds' Verify index old new status later so = so
good_later finds finds' (Lookup positions) index old new status later so = so
good_later finds finds' Files index old new status later so = so
good_later finds finds' (Table version) index old new status later so = so
good_later finds finds' (TableByPath true) index old new status later so = so
good_later finds finds' (TableByPath false) index old new status later so = so
good_later finds finds' Md5 index old new status later so = sums_later finds finds' index (listed_files index) old new status later so

pub judged_later : (finds finds' : List ℕ → FileState → Type 0) (question : Question) (old new : Option (List ℕ)) (status : Status)
    (judged : JudgedIndex) → FindsNoMore finds finds' → AnswersJudged (AnswersGood finds' question) old new status judged
    → AnswersJudged (AnswersGood finds question) old new status judged
judged_later finds finds' question old new status (Good index) later so = good_later finds finds' question index old new status later so
judged_later finds finds' question old new status (Bad reason) later so = so

-- What is so of the bytes of the section's files is so of these files.
pub of_section : (finds : List ℕ → FileState → Type 0) (from : Judging) (IsSo : List ℕ → List ℕ → Option (List ℕ) → Type 0)
    (line general : List ℕ) (section : Option (List ℕ)) → AreTextsOf finds from line general → finds from.section.now (Readable section)
    → IsSo line general section → IsOfSection finds from IsSo
of_section finds from IsSo line general section are_texts is_found so = record {
  line = line;
  general = general;
  texts = are_texts;
  of_section = record { bytes = section; is_found = is_found; so = so };
}

-- the same of another file
pub of_file : (finds : List ℕ → FileState → Type 0) (from : Judging) (file : List ℕ)
    (IsSo : Option (List ℕ) → List ℕ → List ℕ → Option (List ℕ) → Type 0) (line general : List ℕ) (section bytes : Option (List ℕ))
    → AreTextsOf finds from line general → finds from.section.now (Readable section) → finds file (Readable bytes)
    → IsSo bytes line general section → IsOfFile finds from file IsSo
of_file finds from file IsSo line general section bytes are_texts of_its is_found so =
    record { bytes = bytes; is_found = is_found; so = of_section finds from (IsSo bytes) line general section are_texts of_its so }
