use Rattle.std.proofs.Common.{ℕ, List, None, Option, Some, subst, IfSome}
use Rattle.lnt_lines.specs.Contents.{Contents, AreContentsOf}
use Rattle.lnt_lines.specs.Judging.{AreLinesOf, IsIndexOfSection}
use Rattle.lnt_lines.specs.Good.{selected, Options}
use Rattle.lnt_lines.specs.Indexed.{Indexed, OfUnits}
use Rattle.lnt_lines.proofs.section.verify.Goals as goal

-- The lines of an index of the section are the section's.
told : (text general : List ℕ) (options : Options) (section : Option (List ℕ)) (index : Indexed) (lines : Contents)
    → IfSome section (λ bytes. IsIndexOfSection text general options bytes index)
    → OfUnits index (λ selection. AreContentsOf index.line index.general selection lines)
    → IfSome section (λ bytes. AreLinesOf text general options bytes lines)
told text general options None index lines i tells = tt
told text general options (Some bytes) index lines i tells =
    let selection = selected options i.units in
    record {
      units = i.units;
      good = i.good;
      tells = subst (λ (l : List ℕ). AreContentsOf l general selection lines) i.line_is
          (subst (λ (g : List ℕ). AreContentsOf index.line g selection lines) i.general_is (tells selection i.index_is));
    }

pub returns-in_ok-lines_of-in-Good-clause-judged : goal.returns-in_ok-lines_of-in-Good-clause-judged
returns-in_ok-lines_of-in-Good-clause-judged g c =
    told _ _ _ _ _ _ (rw c.in-Good.is at c.in_ok-index.ensures.judged) c.in_ok-lines_of-in-Good.ensures
