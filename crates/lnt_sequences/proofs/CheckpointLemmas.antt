-- The rows of a sequence walked over from a place in them, and the last of them that isn't above a position.
use Rattle.std.proofs.Common.{◌≡◌, suc, List, [], ◌∷◌, ◌++◌, cond, Option, Some, None, refl, sym, ap, ◌∙◌, subst, arith, All, append_assoc}
use Rattle.std.specs.Option.{option_or}
use Rattle.lnt_machine.specs.declared.row.Row.{Row}
use Rattle.lnt_machine.specs.Walking.{GivesFirstRow, GivesRow, SequenceWalk, WillGive}
use Rattle.lnt_spans.specs.declared.position.Position.{Position}
use Rattle.lnt_spans.specs.Positions.{IsBelow, is_at_most}
use Rattle.lnt_spans.proofs.PositionLaws.{test_at_most}
use Rattle.lnt_sequences.specs.declared.checkpoints.Checkpoint.{Checkpoint}
use Rattle.lnt_sequences.specs.Briefs.{IsCheckpointIn, IsNotAbove}
use Rattle.lnt_sequences.specs.Rules.{IsOrdered}
use Rattle.lnt_sequences.specs.Sequences.{last_row, position_of, row_at}
use Rattle.lnt_sequences.proofs.EvidenceLemmas.{last_row-push}
use Rattle.lnt_sequences.proofs.RowLemmas.{none_at, rising_from_ordered, row_at_cons}
use Rattle.lnt_sequences.proofs.WalkLaws.{last_row_is}
use Rattle.std.proofs.lemmas.Grind.{common_steps}

-- the place before all rows
pub checkpoint_before : (rows : List Row) (checkpoint : Checkpoint) → checkpoint.last ≡ None → WillGive rows checkpoint.after
    → IsCheckpointIn rows checkpoint
checkpoint_before rows checkpoint none will = record { seen = []; left = rows; rows_are = refl; last_is = none; to_come = will }

-- one more checkpoint
pub checkpoints_more : (rows : List Row) (checkpoints new : List Checkpoint) (checkpoint added : Checkpoint)
    → All (IsCheckpointIn rows) checkpoints → IsCheckpointIn rows checkpoint
    → added ≡ checkpoint → new ≡ checkpoints ++ added ∷ [] → All (IsCheckpointIn rows) new
checkpoints_more rows checkpoints new checkpoint added all is same are = grind (arith, common_steps)

-- the place after one more row
pub checkpoint_after : (rows : List Row) (old new : SequenceWalk) (last : Option Row) (row : Row)
    → IsCheckpointIn rows (record { last = last; after = old }) → GivesRow old (Some row) new
    → IsCheckpointIn rows (record { last = Some row; after = new })
checkpoint_after rows old new last row is gives = by_left is.left is.rows_are (gives is.left is.to_come)
  where
    by_left : (left : List Row) → rows ≡ is.seen ++ left → GivesFirstRow left (Some row) new
        → IsCheckpointIn rows (record { last = Some row; after = new })
    by_left [] are g = absurd g
    by_left (first ∷ others) are g = record {
      seen = is.seen ++ row ∷ [];
      left = others;
      rows_are = are ∙ ap (λ (r : Row). is.seen ++ r ∷ others) (sym g.0) ∙ sym (append_assoc is.seen (row ∷ []) others);
      last_is = sym (last_row-push is.seen row);
      to_come = g.1;
    }

-- ---- the last row that isn't above a position

-- it is the last of some rows, where none of those after them is it
pub found_before : (p : Position) (seen tail : List Row) → row_at p tail ≡ None → IsNotAbove (last_row seen) p
    → last_row seen ≡ row_at p (seen ++ tail)
found_before p [] tail none at = sym none
found_before p (row ∷ []) tail none at = sym (row_at_cons p row tail
    ∙ ap (λ (o : Option Row). option_or o (cond (is_at_most (position_of row) p) (Some row) None)) none
    ∙ rw (test_at_most (position_of row) p at) refl)
found_before p (row ∷ next ∷ more) tail none at =
    let later = found_before p (next ∷ more) tail none at in
    let some = sym (last_row_is next more) ∙ later in
    last_row_is next more ∙ sym (row_at_cons p row ((next ∷ more) ++ tail)
    ∙ ap (λ (o : Option Row). option_or o (cond (is_at_most (position_of row) p) (Some row) None)) (sym some))

pub ordered_tail : (seen rows : List Row) → IsOrdered (seen ++ rows) → IsOrdered rows
ordered_tail [] rows ordered = ordered
ordered_tail (row ∷ seen) rows ordered = ordered_tail seen rows (λ i j d l m. ordered (suc i) (suc j) d (omega arith) (omega arith))

-- no row is left
pub found_last : (p : Position) (rows : List Row) (old new : SequenceWalk) (last : Option Row)
    → IsCheckpointIn rows (record { last = last; after = old }) → IsNotAbove last p → GivesRow old None new → last ≡ row_at p rows
found_last p rows old new last is at gives = by_left is.left is.rows_are (gives is.left is.to_come)
  where
    by_left : (left : List Row) → rows ≡ is.seen ++ left → GivesFirstRow left None new → last ≡ row_at p rows
    by_left [] are g =
        is.last_is ∙ found_before p is.seen [] refl (subst (λ (o : Option Row). IsNotAbove o p) is.last_is at) ∙ ap (row_at p) (sym are)
    by_left (first ∷ others) are g = absurd g

-- the next row is above the position
pub found_above : (p : Position) (rows : List Row) (old new : SequenceWalk) (last : Option Row) (row : Row)
    → IsCheckpointIn rows (record { last = last; after = old }) → IsNotAbove last p
    → GivesRow old (Some row) new → IsBelow p (position_of row) → IsOrdered rows → last ≡ row_at p rows
found_above p rows old new last row is at gives above ordered = by_left is.left is.rows_are (gives is.left is.to_come)
  where
    by_left : (left : List Row) → rows ≡ is.seen ++ left → GivesFirstRow left (Some row) new → last ≡ row_at p rows
    by_left [] are g = absurd g
    by_left (first ∷ others) are g =
        let after = ordered_tail is.seen (first ∷ others) (subst IsOrdered are ordered) in
        let none = none_at p first others (rising_from_ordered first others after)
        (subst (λ (r : Row). IsBelow p (position_of r)) g.0 above) in
        is.last_is ∙ found_before p is.seen (first ∷ others) none (subst (λ (o : Option Row). IsNotAbove o p) is.last_is at)
        ∙ ap (row_at p) (sym are)
