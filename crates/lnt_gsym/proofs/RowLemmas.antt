-- The rows that are judged one after another are those of the definition, which looks back.
use Rattle.std.proofs.Common.{◌≡◌, ◌∙◌, ℕ, zero, suc, ◌%◌, ◌^◌, ◌<◌, Bool, true, false, List, [], ◌∷◌, length, Option, Some, None}
use Rattle.std.proofs.Common.{refl, sym, ap, arith, subst}
use Rattle.std.specs.Prelude.{unwrap_or, Result, Ok, Err}
use Rattle.lnt_wire.specs.Reading.{At}
use Rattle.lnt_gsym.specs.GsymFields.{fault_of, Read, then_read}
use Rattle.lnt_gsym.specs.GsymInfos.{file_after, line_numbers, LineNumbers, made, operation, Operation, Row, row_after, row_reason}
use Rattle.lnt_gsym.specs.GsymInfos.{rows_from, rows_of}
use Rattle.lnt_gsym.specs.Reading.{moved, running, then_running}
use Rattle.lnt_gsym.specs.declared.fault.GsymFault.{GsymFault}
use Rattle.lnt_gsym.specs.declared.fault.GsymReason.{GsymReason}

same_row : (r s : Row) → r.address ≡ s.address → r.file ≡ s.file → r.line ≡ s.line → r ≡ s
same_row r s address file line =
    let same : record { address = r.address; file = r.file; line = r.line }
    ≡ record { address = s.address; file = s.file; line = s.line } = cc in
    same

-- no operation yet
pub no_operation : (start first : ℕ) → record { address = start; file = 1; line = first % 2 ^ 32 } ≡ row_after start first []
no_operation start first = same_row (record { address = start; file = 1; line = first % 2 ^ 32 }) (row_after start first [])
    (omega arith) refl (ap (λ n. n % 2 ^ 32) (omega arith))

-- one more operation
pub moved_back : (start first : ℕ) (done : Operation) (back : List Operation)
    → moved (row_after start first back) done ≡ row_after start first (done ∷ back)
moved_back start first done back =
    same_row (moved (row_after start first back) done) (row_after start first (done ∷ back))
    (omega arith) (by_file done.file) (omega arith)
  where
    by_file : (file : Option ℕ) → unwrap_or file (file_after back) ≡ elim file [ None ↦ file_after back | Some number ↦ number ]
    by_file None = refl
    by_file (Some number) = refl

kept : (row : Row) (rows : Result (List Row) GsymFault) → fault_of rows ≡ fault_of (then_read rows (λ rows. Ok (row ∷ rows)))
kept row (Err fault) = refl
kept row (Ok rows) = refl

-- a row that is made
one_made : (files : ℕ) (row same : Row) → row ≡ same → (next : Row → Option GsymFault) (rows : Result (List Row) GsymFault)
    → next same ≡ fault_of rows → (at : At)
    → elim (row_reason files row) [ Some reason ↦ Some (record { place = at.place; reason = reason }) | None ↦ next row ]
    ≡ fault_of (made at (row_reason files same) same rows)
one_made files row same e next rows n at =
    subst (λ r. elim (row_reason files r) [ Some reason ↦ Some (record { place = at.place; reason = reason }) | None ↦ next r ]
    ≡ fault_of (made at (row_reason files same) same rows))
    (sym e) (by (row_reason files same))
  where
    by : (x : Option GsymReason)
        → elim x [ Some reason ↦ Some (record { place = at.place; reason = reason }) | None ↦ next same ] ≡ fault_of (made at x same rows)
    by (Some reason) = refl
    by None = n ∙ kept same rows

pub runs : (room files start : ℕ) (numbers : LineNumbers) (back : List Operation) (at : At)
    → running room files numbers (row_after start numbers.first back) at ≡ fault_of (rows_from room files start numbers back at)
runs zero files start numbers back at = refl
runs (suc room) files start numbers back at = by_read (λ done rest. runs room files start numbers (done ∷ back) rest)
    (operation numbers at) refl
  where
    Same : Type 0
    Same = running (suc room) files numbers (row_after start numbers.first back) at
        ≡ fault_of (rows_from (suc room) files start numbers back at)

    Next : Type 0
    Next = (done : Operation) (rest : At) → running room files numbers (row_after start numbers.first (done ∷ back)) rest
        ≡ fault_of (rows_from room files start numbers (done ∷ back) rest)

    by_made : Next → (makes : Bool) (done : Operation) (rest : At) → done.makes_row ≡ makes → operation numbers at ≡ Ok (Some done, rest)
        → Same
    by_made next false done rest m e =
        rw (e, m, running, rows_from)
        (ap (λ r. running room files numbers r rest) (moved_back start numbers.first done back) ∙ next done rest)
    by_made next true done rest m e =
        rw (e, m, running, rows_from) (one_made files (moved (row_after start numbers.first back) done)
        (row_after start numbers.first (done ∷ back))
        (moved_back start numbers.first done back) (λ r. running room files numbers r rest)
        (rows_from room files start numbers (done ∷ back) rest) (next done rest) at)

    by_done : Next → (read : Option Operation) (rest : At) → operation numbers at ≡ Ok (read, rest) → Same
    by_done next None rest e = rw (e, running, rows_from) refl
    by_done next (Some done) rest e = by_made next done.makes_row done rest refl e

    by_read : Next → (read : Read (Option Operation)) → operation numbers at ≡ read → Same
    by_read next (Err fault) e = rw (e, running, rows_from) refl
    by_read next (Ok read) e = by_done next read.0 read.1 e

pub head_refused : (files start : ℕ) (at : At) (fault : GsymFault) → line_numbers at ≡ Err fault
    → fault_of (rows_of files start at) ≡ Some fault
head_refused files start at fault e = rw e refl

pub judged : (files start : ℕ) (numbers : LineNumbers) (old at : At) → line_numbers old ≡ Ok (numbers, at)
    → running (suc (length at.rest)) files numbers (record { address = start; file = 1; line = numbers.first % 2 ^ 32 }) at
    ≡ fault_of (rows_of files start old)
judged files start numbers old at e =
    rw e (ap (λ r. running (suc (length at.rest)) files numbers r at) (no_operation start numbers.first)
    ∙ runs (suc (length at.rest)) files start numbers [] at)

-- ---- the loop over operations

-- The first fault from the row on is that of the whole.
pub record RunsSoFar (files : ℕ) (numbers : LineNumbers) (first : Row) (old : At) (row : Row) (at : At) : Type 0 where
  pub room : ℕ
  pub enough : length at.rest < room
  pub bound : row.address < 2 ^ 65
  pub same : running (suc (length old.rest)) files numbers first old ≡ running room files numbers row at

pub none_run : (files : ℕ) (numbers : LineNumbers) (first : Row) (old : At) → first.address < 2 ^ 65
    → RunsSoFar files numbers first old first old
none_run files numbers first old bound = record { room = suc (length old.rest); enough = omega arith; bound = bound; same = refl }

pub one_run : (files : ℕ) (numbers : LineNumbers) (first row next : Row) (old at new : At) → RunsSoFar files numbers first old row at
    → ((room : ℕ) → running (suc room) files numbers row at ≡ then_running room files numbers (Some next) new)
    → length new.rest < length at.rest → next.address < 2 ^ 65 → RunsSoFar files numbers first old next new
one_run files numbers first row next old at new so step lt bound = by_room so.room refl
  where
    by_room : (room : ℕ) → so.room ≡ room → RunsSoFar files numbers first old next new
    by_room zero e = absurd (omega (arith, so.enough, e))
    by_room (suc room) e =
        let same : running so.room files numbers row at ≡ running (suc room) files numbers row at
        = ap (λ n. running n files numbers row at) e in
        record { room = room; enough = omega (arith, so.enough, e); bound = bound; same = so.same ∙ (same ∙ step room) }

pub run_ends : (files : ℕ) (numbers : LineNumbers) (first row : Row) (old at : At) (outcome : Option GsymFault)
    → RunsSoFar files numbers first old row at → ((room : ℕ) → running (suc room) files numbers row at ≡ outcome)
    → running (suc (length old.rest)) files numbers first old ≡ outcome
run_ends files numbers first row old at outcome so step = by_room so.room refl
  where
    by_room : (room : ℕ) → so.room ≡ room → running (suc (length old.rest)) files numbers first old ≡ outcome
    by_room zero e = absurd (omega (arith, so.enough, e))
    by_room (suc room) e = so.same ∙ (ap (λ n. running n files numbers row at) e ∙ step room)

pub run_over : (files : ℕ) (numbers : LineNumbers) (first row : Row) (old at new : At) (next : Option Row)
    → RunsSoFar files numbers first old row at
    → ((room : ℕ) → running (suc room) files numbers row at ≡ then_running room files numbers next new) → next ≡ None
    → running (suc (length old.rest)) files numbers first old ≡ None
run_over files numbers first row old at new next so step e =
    run_ends files numbers first row old at None so (λ room. step room ∙ ap (λ n. then_running room files numbers n new) e)
