-- Records, read line by line.
use Rattle.std.proofs.Common.{◌≡◌, ◌∙◌, ℕ, ◌+◌, ◌-◌, Bool, true, false, ap, append_assoc, arith, subst, sym, List, [], ◌∷◌, ◌++◌, refl}
use Rattle.std.proofs.Common.{◌<◌, drop, length, Ok, Err, inl, inr, Option, Some, None, IsSomeAnd, IsTrue}
use Rattle.std.specs.Borrow.{Bor}
use Rattle.std.specs.Prelude.{Result, not, if◌then◌else◌}
use Rattle.std.proofs.lemmas.List.{length-append}
use lib.Seq.{drop-append-add}
use Rattle.lnt_symbols.specs.BreakpadLines.{record_of, RecordSaid, Said}
use Rattle.lnt_symbols.specs.Stepping.{IsEnd, joined, MayFollow}
use Rattle.lnt_symbols.specs.declared.fault.LineReason.TheVariants.{NoFunction}
use Rattle.lnt_symbols.specs.BreakpadAnswers.{is_inside, may_follow, records_from}
use Rattle.lnt_symbols.specs.declared.fault.SymbolFault.{SymbolFault}
use Rattle.lnt_symbols.specs.declared.fault.SymbolFault.TheVariants.{Line}

-- ---- what stands at the end of a text

pub end_append : (front rest : List ℕ) → IsEnd (front ++ rest) rest
end_append front rest =
    let long : length (front ++ rest) ≡ length front + length rest = length-append front rest in
    let at : length front + 0 ≡ length (front ++ rest) - length rest = omega (arith, long) in
    sym (drop-append-add front rest 0) ∙ ap (λ k. drop k (front ++ rest)) at

-- ---- what may follow

pub follows : (rest : Option (Bor (List ℕ))) (more : List ℕ) (is_last : Bool) → (IsTrue is_last → more ≡ [])
    → (is_last ≡ false → IsSomeAnd rest (λ rest. 0 < length rest.now)) → MayFollow rest more
follows None more true last some = last refl
follows (Some rest) more true last some = inr (last refl)
follows None more false last some = absurd (some refl)
follows (Some rest) more false last some = inl (some refl)

-- ---- records

one_more : (done : List RecordSaid) (said : RecordSaid) (fault : SymbolFault) (b : Bool) (r : Result (List RecordSaid) SymbolFault)
    → b ≡ true
    → joined done (if not b then Err fault else elim r [ Err fault ↦ Err fault | Ok records ↦ Ok (said ∷ records) ])
    ≡ joined (done ++ said ∷ []) r
one_more done said fault b (Err other) e = rw e refl
one_more done said fault b (Ok records) e = rw e (rw append_assoc refl)

-- the records from a line on, which says this
abbrev line_says : ℕ → Bool → List (List ℕ) → Said RecordSaid → Result (List RecordSaid) SymbolFault
line_says n inside lines (Err reason) = Err (Line n reason)
line_says n inside lines (Ok said) = if not (may_follow inside said) then Err (Line n NoFunction)
    else elim (records_from (n + 1) (is_inside inside said) lines) [ Err fault ↦ Err fault | Ok records ↦ Ok (said ∷ records) ]

pub records_step : (done : List RecordSaid) (n : ℕ) (inside : Bool) (line : List ℕ) (lines : List (List ℕ)) (said : RecordSaid)
    → record_of line ≡ Ok said → may_follow inside said ≡ true
    → joined done (records_from n inside (line ∷ lines)) ≡ joined (done ++ said ∷ []) (records_from (n + 1) (is_inside inside said) lines)
records_step done n inside line lines said e m =
    let told : joined done (line_says n inside lines (Ok said))
    ≡ joined (done ++ said ∷ []) (records_from (n + 1) (is_inside inside said) lines)
    = one_more done said (Line n NoFunction) (may_follow inside said) (records_from (n + 1) (is_inside inside said) lines) m in
    subst (λ (x : Said RecordSaid). joined done (line_says n inside lines x)
    ≡ joined (done ++ said ∷ []) (records_from (n + 1) (is_inside inside said) lines))
    (sym e) told
