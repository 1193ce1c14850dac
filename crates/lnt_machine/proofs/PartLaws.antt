-- Programs in parts, each of whole sequences.
use Rattle.std.proofs.Common.{◌≡◌, ℕ, ◌+◌, Bool, true, false, List, [], ◌∷◌, ◌++◌, length, refl, sym, ap, subst, ◌∙◌, arith, reverse, cond}
use Rattle.std.proofs.Common.{true≢false}
use Rattle.std.specs.List.{cons_option}
use Rattle.std.proofs.lemmas.List.{append-nil, reverse-append, reverse-reverse}
use Rattle.lnt_header.specs.declared.numbers.NumberParts.{NumberParts}
use Rattle.lnt_header.specs.declared.op.Op.{Op}
use Rattle.lnt_header.specs.declared.op.Op.TheVariants.{Special, Copy, EndSequence, SetAddress, FixedAdvancePc}
use Rattle.lnt_machine.proofs.RowLaws.{cons_option-append, reverse-cons, rows_after-append}
use Rattle.lnt_machine.specs.Matrix.{onto_first, row_made, rows_after, sequences_of, Row, Sequence}
use Rattle.lnt_machine.specs.Running.{AreWhole, AtStart, first_sequence, rows_of_ops, RowsOfParts}
use Rattle.lnt_machine.specs.Registers.{advance_of, advances, base, part}
use Rattle.lnt_machine.specs.State.{StandsAfter, MachineState}

-- ---- looking back

-- a machine that stands after no operation stands after any that end with an EndSequence
pub stands_at_start : (machine : MachineState) (back : List Op) → AtStart back → StandsAfter machine [] → StandsAfter machine back
stands_at_start machine [] start stands = stands
stands_at_start machine (EndSequence ∷ back) start stands = record { registers = stands.registers; line = stands.line }
stands_at_start machine (op ∷ back) start stands = absurd start

-- both lists lead to the same registers
pub record LeadAlike (h : NumberParts) (one other : List Op) : Type 0 where
  pub part_is : part one ≡ part other
  pub base_is : base h one ≡ base h other
  pub advances_is : advances h one ≡ advances h other

start_alike : (h : NumberParts) (back : List Op) → AtStart back → LeadAlike h back []
start_alike h [] start = record { part_is = refl; base_is = refl; advances_is = refl }
start_alike h (EndSequence ∷ back) start = record { part_is = refl; base_is = refl; advances_is = refl }
start_alike h (op ∷ back) start = absurd start

alike_more : (h : NumberParts) (one other : List Op) (op : Op) → LeadAlike h one other → LeadAlike h (op ∷ one) (op ∷ other)
alike_more h one other EndSequence a = record { part_is = refl; base_is = refl; advances_is = refl }
alike_more h one other (SetAddress n) a = record {
  part_is = ap (λ (list : List Op). SetAddress n ∷ list) a.part_is;
  base_is = refl;
  advances_is = refl;
}
alike_more h one other (FixedAdvancePc n) a =
    record {
      part_is = ap (λ (list : List Op). FixedAdvancePc n ∷ list) a.part_is;
      base_is = rw (a.base_is, a.advances_is) refl;
      advances_is = refl;
    }
alike_more h one other op a =
    record {
      part_is = ap (λ (list : List Op). op ∷ list) a.part_is;
      base_is = a.base_is;
      advances_is = ap (λ (n : ℕ). advance_of h op + n) a.advances_is;
    }

alike_row : (h : NumberParts) (one other : List Op) (op : Op) → LeadAlike h one other → row_made h one op ≡ row_made h other op
alike_row h one other Copy a = rw (a.part_is, a.base_is, a.advances_is) refl
alike_row h one other (Special c) a = rw (a.part_is, a.base_is, a.advances_is) refl
alike_row h one other EndSequence a = rw (a.part_is, a.base_is, a.advances_is) refl
alike_row h one other op a = refl

alike_rows : (h : NumberParts) (one other ops : List Op) → LeadAlike h one other → rows_after h one ops ≡ rows_after h other ops
alike_rows h one other [] a = refl
alike_rows h one other (op ∷ ops) a =
    rw (alike_row h one other op a, alike_rows h (op ∷ one) (op ∷ other) ops (alike_more h one other op a)) refl

-- the rows after whole sequences are those of a program of its own
pub rows_at_start : (h : NumberParts) (back ops : List Op) → AtStart back → rows_after h back ops ≡ rows_of_ops h ops
rows_at_start h back ops start = alike_rows h back [] ops (start_alike h back start)

-- ---- rows of two lists of operations

pub rows_after-joined : (h : NumberParts) (back prefix rest : List Op)
    → rows_after h back (prefix ++ rest) ≡ rows_after h back prefix ++ rows_after h (reverse prefix ++ back) rest
rows_after-joined h back [] rest = refl
rows_after-joined h back (op ∷ prefix) rest =
    ap (λ (rows : List Row). cons_option (row_made h back op) rows) (rows_after-joined h (op ∷ back) prefix rest)
    ∙ cons_option-append (row_made h back op) (rows_after h (op ∷ back) prefix) (rows_after h (reverse prefix ++ op ∷ back) rest)
    ∙ ap (λ (list : List Op). rows_after h back (op ∷ prefix) ++ rows_after h list rest) (sym (reverse-cons op prefix back))

pub rows_of_parts : (h : NumberParts) (prefix rest : List Op) → AreWhole prefix
    → rows_of_ops h (prefix ++ rest) ≡ rows_of_ops h prefix ++ rows_of_ops h rest
rows_of_parts h prefix rest whole =
    rows_after-joined h [] prefix rest
    ∙ ap (λ (list : List Op). rows_of_ops h prefix ++ rows_after h list rest) (append-nil (reverse prefix))
    ∙ ap (λ (rows : List Row). rows_of_ops h prefix ++ rows) (rows_at_start h (reverse prefix) rest whole)

-- ---- sequences of two lists of rows

-- there are no rows, or the last one is an end row
abbrev pub AreClosed : List Row → Type 0
AreClosed [] = Unit {0}
AreClosed (row ∷ []) = row.end_sequence ≡ true
AreClosed (row ∷ next ∷ rows) = AreClosed (next ∷ rows)

closed_after : (rows : List Row) (last : Row) → last.end_sequence ≡ true → AreClosed (rows ++ last ∷ [])
closed_after [] last ends = ends
closed_after (row ∷ []) last ends = ends
closed_after (row ∷ next ∷ rows) last ends = closed_after (next ∷ rows) last ends

-- some sequence is there
record IsSome (sequences : List Sequence) : Type 0 where
  first : Sequence
  others : List Sequence
  are : sequences ≡ first ∷ others

onto_some : (row : Row) (sequences : List Sequence) → IsSome sequences → IsSome (onto_first row sequences)
onto_some row sequences some = rw some.are (record { first = record { rows = row ∷ some.first.rows }; others = some.others; are = refl })

onto_joined : (row : Row) (sequences more : List Sequence) → IsSome sequences
    → onto_first row (sequences ++ more) ≡ onto_first row sequences ++ more
onto_joined row sequences more some = rw some.are refl

some_last : (row : Row) (t : Bool) → t ≡ true → IsSome (cond t (record { rows = row ∷ [] } ∷ []) [])
some_last row true e = record { first = record { rows = row ∷ [] }; others = []; are = refl }
some_last row false e = absurd (true≢false (sym e))

joined_last : (row : Row) (rest : List Sequence) (t : Bool) → t ≡ true
    → cond t (record { rows = row ∷ [] } ∷ rest) (onto_first row rest) ≡ cond t (record { rows = row ∷ [] } ∷ []) [] ++ rest
joined_last row rest true e = refl
joined_last row rest false e = absurd (true≢false (sym e))

some_closed : (row : Row) (rows : List Row) → AreClosed (row ∷ rows) → IsSome (sequences_of (row ∷ rows))
some_closed row [] closed = some_last row row.end_sequence closed
some_closed row (next ∷ rows) closed = by_end row.end_sequence (some_closed next rows closed)
  where
    by_end : (t : Bool) → IsSome (sequences_of (next ∷ rows))
        → IsSome (cond t (record { rows = row ∷ [] } ∷ sequences_of (next ∷ rows)) (onto_first row (sequences_of (next ∷ rows))))
    by_end true some = record { first = record { rows = row ∷ [] }; others = sequences_of (next ∷ rows); are = refl }
    by_end false some = onto_some row (sequences_of (next ∷ rows)) some

pub sequences_of-joined_rows : (prefix rest : List Row) → AreClosed prefix
    → sequences_of (prefix ++ rest) ≡ sequences_of prefix ++ sequences_of rest
sequences_of-joined_rows [] rest closed = refl
sequences_of-joined_rows (row ∷ []) rest closed = joined_last row (sequences_of rest) row.end_sequence closed
sequences_of-joined_rows (row ∷ next ∷ rows) rest closed =
    ap (λ (sequences : List Sequence). cond row.end_sequence (record { rows = row ∷ [] } ∷ sequences) (onto_first row sequences))
    (sequences_of-joined_rows (next ∷ rows) rest closed)
    ∙ by_end row.end_sequence
  where
    some : IsSome (sequences_of (next ∷ rows))
    some = some_closed next rows closed

    by_end : (t : Bool) → cond t (record { rows = row ∷ [] } ∷ (sequences_of (next ∷ rows) ++ sequences_of rest))
        (onto_first row (sequences_of (next ∷ rows) ++ sequences_of rest))
        ≡ cond t (record { rows = row ∷ [] } ∷ sequences_of (next ∷ rows)) (onto_first row (sequences_of (next ∷ rows))) ++ sequences_of
        rest
    by_end true = refl
    by_end false = onto_joined row (sequences_of (next ∷ rows)) (sequences_of rest) some

-- the rows of whole sequences are closed
pub whole_closed : (h : NumberParts) (ops : List Op) → AreWhole ops → AreClosed (rows_of_ops h ops)
whole_closed h ops whole = subst (λ (list : List Op). AreClosed (rows_of_ops h list)) (reverse-reverse ops) (by_back (reverse ops) whole)
  where
    by_back : (back : List Op) → AtStart back → AreClosed (rows_of_ops h (reverse back))
    by_back [] start = tt
    by_back (EndSequence ∷ back) start =
        subst (λ (list : List Op). AreClosed (rows_of_ops h list)) (sym (reverse-append (EndSequence ∷ []) back))
        (subst AreClosed (sym (rows_after-append h [] (reverse back) EndSequence)) (closed_after (rows_of_ops h (reverse back)) _ refl))
    by_back (op ∷ back) start = absurd start

pub sequences_of_parts : (h : NumberParts) (prefix rest : List Op) → AreWhole prefix
    → sequences_of (rows_of_ops h (prefix ++ rest)) ≡ sequences_of (rows_of_ops h prefix) ++ sequences_of (rows_of_ops h rest)
sequences_of_parts h prefix rest whole =
    ap sequences_of (rows_of_parts h prefix rest whole)
    ∙ sequences_of-joined_rows (rows_of_ops h prefix) (rows_of_ops h rest) (whole_closed h prefix whole)

same_head : {X : Type 0} {x y : X} {xs ys : List X} → x ∷ xs ≡ y ∷ ys → x ≡ y
same_head e = cc e

-- the first sequence of rows is that of the rows up to the first end row
pub first_of : (rows : List Row) (first : Sequence) (others : List Sequence) → sequences_of rows ≡ first ∷ others
    → first.rows ≡ first_sequence rows
first_of [] first others e = absurd (omega (arith, ap length e))
first_of (row ∷ rows) first others e = by_end row.end_sequence (sequences_of rows) (λ some more is. first_of rows some more is) e
  where
    by_end : (t : Bool) (past : List Sequence)
        → ((some : Sequence) (more : List Sequence) → past ≡ some ∷ more → some.rows ≡ first_sequence rows)
        → cond t (record { rows = row ∷ [] } ∷ past) (onto_first row past) ≡ first ∷ others
        → first.rows ≡ row ∷ cond t [] (first_sequence rows)
    by_end true past before is = ap (λ (s : Sequence). s.rows) (sym (same_head is))
    by_end false [] before is = absurd (omega (arith, ap length is))
    by_end false (some ∷ more) before is = ap (λ (s : Sequence). s.rows) (sym (same_head is))
        ∙ ap (λ (list : List Row). row ∷ list) (before some more refl)

pub rows_of_whole_parts : RowsOfParts
rows_of_whole_parts = record { rows = rows_of_parts; sequences = sequences_of_parts }
