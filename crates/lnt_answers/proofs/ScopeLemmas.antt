-- The lines of the stretches in a scope, among all stretches that are given.
use Rattle.std.proofs.Common.{◌≡◌, ◌∙◌, Bool, true, false, cond, ℕ, List, [], ◌∷◌, ◌++◌, append-nil, Option, None, Some, ap, arith}
use Rattle.std.proofs.Common.{is_some, map, refl, subst, sym, flat_map}
use Rattle.std.specs.List.{AllByRecursion}
use Rattle.std.specs.Io.KnownBytes.{Appends}
use Rattle.std.proofs.KnownBytes.{Appends-trans}
use Rattle.std.proofs.lemmas.List.{map-append}
use Rattle.std.proofs.lemmas.List.Folds.{flat_map-map}
use Rattle.std.proofs.lemmas.List.Concat.{flat_map-append}
use Rattle.std.proofs.lemmas.Grind.{common_steps}
use Rattle.lnt_io.specs.Prefixes.{AppendsPrefix, HasBegun}
use Rattle.lnt_io.proofs.PrefixLaws.{appends_known, prefix_after, prefix_before, prefix_same}
use Rattle.lnt_io.specs.declared.status.Status.{Status}
use Rattle.lnt_spans.specs.declared.position.Position.{Position}
use Rattle.lnt_spans.specs.AnyStretches.{AreAllStretches, EndsAt, Stretch}
use Rattle.lnt_spans.specs.Partial.{AreAllMistakes, AreCounts}
use Rattle.lnt_spans.specs.Laws.{answered_stretches, if_some}
use Rattle.lnt_spans.proofs.AmongLemmas.{mistakes_among}
use Rattle.lnt_spans.proofs.StretchLaws.{AllAfter, HasEnd}
use Rattle.lnt_table.specs.AnyCopy.{AreAllWrong, AreFirstWrong, EndsWrong}
use Rattle.lnt_table.specs.Judged.{told_right}
use Rattle.lnt_table.specs.declared.kinds.OfKind.TheVariants.{Numbered}
use Rattle.lnt_table.specs.declared.verdict.Verdict.TheVariants.{Yes}
use Rattle.lnt_spans.specs.declared.scope.Coverage.{Coverage}
use Rattle.lnt_spans.specs.declared.scope.Scope.{Scope}
use Rattle.lnt_spans.specs.declared.scope.Scope.TheVariants.{All, Answered}
use Rattle.lnt_answers.specs.declared.report.Report.{Report}
use Rattle.lnt_answers.specs.PrintedStretches.{AreAllIn, AreFirstPrinted, AreStretchesPrinted, EndsIn, HaveEnds, IsEndTold, ToldStretch}
use Rattle.lnt_answers.specs.PrintedStretches.{answer_if_none, lines_or, stretches_status, told_with}
use Rattle.lnt_answers.specs.Stepping.{AreBegun, AreEndsTold, ArePrinted, ToldDifference, coverage_of, differences_of}
use Rattle.lnt_answers.specs.Stepping.{end_status, end_text, if_none, told_in}
use Rattle.lnt_answers.specs.Verdicts.{checked_line, checked_status}
use Rattle.lnt_answers.proofs.GivenLemmas.{each_append}

-- ---- of all stretches those in a scope

abbrev pub stretches_in : {X : Type 0} → List (ToldStretch X) → List (Stretch X)
stretches_in list = map (λ told. told.stretch) list

abbrev answered_told : {X : Type 0} → List (ToldStretch X) → List (ToldStretch X)
answered_told [] = []
answered_told (told ∷ list) = if_some told.stretch.by_table told (answered_told list)

abbrev pub in_scope : {X : Type 0} → Scope → List (ToldStretch X) → List (ToldStretch X)
in_scope All list = list
in_scope Answered list = answered_told list

with_some : {X Y : Type 0} (answer : Option X) (one : Y) (list more : List Y)
    → if_some answer one (list ++ more) ≡ if_some answer one list ++ more
with_some None one list more = refl
with_some (Some told) one list more = refl

in_append : {X : Type 0} (scope : Scope) (list more : List (ToldStretch X))
    → in_scope scope (list ++ more) ≡ in_scope scope list ++ in_scope scope more
in_append All list more = refl
in_append Answered [] more = refl
in_append Answered (told ∷ list) more =
    ap (λ rest. if_some told.stretch.by_table told rest) (in_append Answered list more)
    ∙ with_some told.stretch.by_table told (answered_told list) (answered_told more)

map_some : {X Y Z : Type 0} (f : Y → Z) (answer : Option X) (one : Y) (list : List Y)
    → map f (if_some answer one list) ≡ if_some answer (f one) (map f list)
map_some f None one list = refl
map_some f (Some said) one list = refl

map_answered : {X : Type 0} (list : List (ToldStretch X)) → stretches_in (answered_told list) ≡ answered_stretches (stretches_in list)
map_answered [] = refl
map_answered (told ∷ list) =
    map_some (λ told. told.stretch) told.stretch.by_table told (answered_told list)
    ∙ ap (λ rest. if_some told.stretch.by_table told.stretch rest) (map_answered list)

each_some : {X Y : Type 0} (P : Y → Type 0) (answer : Option X) (one : Y) (list : List Y) → P one → AllByRecursion P list
    → AllByRecursion P (if_some answer one list)
each_some P None one list h each = each
each_some P (Some said) one list h each = (h, each)

each_in : {X : Type 0} (P : ToldStretch X → Type 0) (scope : Scope) (list : List (ToldStretch X)) → AllByRecursion P list
    → AllByRecursion P (in_scope scope list)
each_in P All list each = each
each_in P Answered [] each = tt
each_in P Answered (told ∷ list) each =
    each_some P told.stretch.by_table told (answered_told list) each.0 (each_in P Answered list each.1)

module _ {X : Type 0} (report : Report) (said : Position → Option X → Type 0) (f g : Position → Option X) where
  abbrev IsTold : Scope → ToldStretch X → Type 0
  IsTold scope told = IsEndTold report.ends (EndsIn report.any_copy scope said f g told.stretch) told.end

  -- those at which the two differ
  kept_in : (scope : Scope) (list : List (ToldStretch X)) → AreAllStretches f g (stretches_in list)
      → AreAllIn false scope said f g (stretches_in (in_scope scope list))
  kept_in All list all = all
  kept_in Answered list all = subst (AreAllMistakes g f) (sym (map_answered list)) (mistakes_among g f (stretches_in list) all)

  -- ---- a writer that was stopped

  prefix_of_all : (line : ToldStretch X → List ℕ) (none : List ℕ) (told more : List (ToldStretch X)) (old new : Option (List ℕ))
      → AppendsPrefix old new (flat_map line told) → AppendsPrefix old new (lines_or line none (told ++ more))
  prefix_of_all line none [] more old new prefix = prefix_before old new [] (lines_or line none more) prefix
  prefix_of_all line none (first ∷ told) more old new prefix = grind (arith, common_steps, prefix_same, flat_map-append, prefix_before)

  -- a prefix of the lines of these stretches
  begun_of : {line : ToldStretch X → List ℕ} {old new : Option (List ℕ)} (stretches : List (ToldStretch X))
      → AreAllIn report.any_copy report.scope said f g (stretches_in stretches) → HaveEnds report said f g stretches
      → AppendsPrefix old new (lines_or line (checked_line report.at_least (answer_if_none report.scope f g)) stretches)
      → HasBegun (AreStretchesPrinted line report said f g old) old new
  begun_of {line = line} {old = old} stretches all ends prefix = record {
    whole = lines_or line (checked_line report.at_least (answer_if_none report.scope f g)) stretches;
    ending = stretches_status (checked_status report.at_least (answer_if_none report.scope f g)) stretches;
    is_end = record { stretches = stretches; are_all = all; ends = ends; printed = appends_known old _; status_is = refl };
    prefix = prefix;
  }

-- Others may follow those that were given, each with an end.
abbrev pub HasMore : {D X : Type 0} → (D → Stretch X) → (Position → Option X) → (Position → Option X) → List D → Type 0
HasMore {D} {X} of f g given = (more : List (Stretch X)) × AllAfter f g (map of given) more

-- these, with their ends if those are told
with_ends : {X : Type 0} (f g : Position → Option X) (ends : Bool) (list : List (Stretch X)) → AllByRecursion (HasEnd f g) list
    → (told : List (ToldStretch X)) × (stretches_in told ≡ list)
    × AllByRecursion (λ (one : ToldStretch X). IsEndTold ends (EndsAt f g one.stretch) one.end) told
with_ends f g ends [] h = ([], refl, tt)
with_ends f g true (stretch ∷ list) h =
    let rest = with_ends f g true list h.1 in
    ((record { stretch = stretch; end = Some h.0.0 }) ∷ rest.0, ap (λ more. stretch ∷ more) rest.1, (h.0.1, rest.2))
with_ends f g false (stretch ∷ list) h =
    let rest = with_ends f g false list h.1 in
    ((record { stretch = stretch; end = None }) ∷ rest.0, ap (λ more. stretch ∷ more) rest.1, (refl, rest.2))

-- ---- differences that were given, as stretches

module _ {D X : Type 0} (of : D → Stretch X) where
  abbrev pub as_told : ToldDifference D → ToldStretch X
  as_told one = told_with (of one.difference) one.end

  -- whether the table answers there
  abbrev pub is_answered : D → Bool
  is_answered d = is_some (of d).by_table

  given_in : (scope : Scope) (told : List (ToldDifference D))
      → map as_told (told_in is_answered scope told) ≡ in_scope scope (map as_told told)
  given_in All [] = refl
  given_in All (one ∷ told) = ap (λ rest. as_told one ∷ rest) (given_in All told)
  given_in Answered [] = refl
  given_in Answered (one ∷ told) =
      by_answer (of one.difference).by_table (told_in is_answered Answered told) ∙ ap (if_some (of one.difference).by_table (as_told one))
      (given_in Answered told)
    where
      by_answer : (answer : Option X) (rest : List (ToldDifference D))
          → map as_told (cond (is_some answer) (one ∷ rest) rest) ≡ if_some answer (as_told one) (map as_told rest)
      by_answer None rest = refl
      by_answer (Some said) rest = refl

  given_stretches : (told : List (ToldDifference D)) → stretches_in (map as_told told) ≡ map of (differences_of told)
  given_stretches [] = refl
  given_stretches (one ∷ told) = ap (λ rest. of one.difference ∷ rest) (given_stretches told)

  given_ends : (ends : Bool) (IsEnd : Stretch X → Position → Type 0) (told : List (ToldDifference D))
      → AreEndsTold ends (λ d. IsEnd (of d)) told
      → AllByRecursion (λ (one : ToldStretch X). IsEndTold ends (IsEnd one.stretch) one.end) (map as_told told)
  given_ends ends IsEnd [] h = tt
  given_ends ends IsEnd (one ∷ told) h = (h.0, given_ends ends IsEnd told h.1)

  given_lines : (line : ToldStretch X → List ℕ) (scope : Scope) (told : List (ToldDifference D))
      → flat_map (λ one. line (as_told one)) (told_in is_answered scope told) ≡ flat_map line (in_scope scope (map as_told told))
  given_lines line scope told =
      sym (flat_map-map line as_told (told_in is_answered scope told)) ∙ ap (flat_map line) (given_in scope told)

  given_none : (scope : Scope) (told : List (ToldDifference D)) (coverage : Coverage)
      → if_none (told_in is_answered scope told) coverage ≡ if_none (in_scope scope (map as_told told)) coverage
  given_none scope told coverage =
      by_list (told_in is_answered scope told) ∙ ap (λ (list : List (ToldStretch X)). if_none list coverage) (given_in scope told)
    where
      by_list : (list : List (ToldDifference D)) → if_none list coverage ≡ if_none (map as_told list) coverage
      by_list [] = refl
      by_list (first ∷ list) = refl

-- These lines were appended, of all stretches in the scope. If there is none, the table answers so much.
pub record AreAllPrinted {X : Type 0} (line : ToldStretch X → List ℕ) (report : Report) (said : Position → Option X → Type 0)
    (by_section by_table : Position → Option X) (old new : Option (List ℕ)) (coverage : Option Coverage) : Type 0 where
  pub stretches : List (ToldStretch X)
  pub are_all : AreAllIn report.any_copy report.scope said by_section by_table (stretches_in stretches)
  pub ends : HaveEnds report said by_section by_table stretches
  pub text : Appends old new (flat_map line stretches)
  pub coverage_is : coverage ≡ if_none stretches (coverage_of by_section by_table)

-- how much is answered, by the two counts
covered_is : {X : Type 0} (f g : Position → Option X) (coverage : Coverage) → AreCounts g f coverage.answered coverage.all
    → coverage ≡ coverage_of f g
covered_is f g coverage counted =
    ap (λ (answered : ℕ). record { answered = answered; all = coverage.all }) counted.both
    ∙ ap (λ (all : ℕ). record { answered = (coverage_of f g).answered; all = all }) counted.section

-- the line of a difference with the end of its stretch
abbrev pub line_of : {D X : Type 0} → (D → Stretch X) → (ToldStretch X → List ℕ) → D → Option Position → List ℕ
line_of of line d end = line (told_with (of d) end)

module _ {D X : Type 0} (of : D → Stretch X) {line : ToldStretch X → List ℕ} {report : Report} (said : Position → Option X → Type 0)
    {f g : Position → Option X} {old new : Option (List ℕ)} where
  -- those at which the two differ
  pub kept_printed : {coverage : Option Coverage} → report.any_copy ≡ false
      → ArePrinted (line_of of line) (is_answered of)
      (λ given covered. AreAllStretches f g (map of given) × AreCounts g f covered.answered covered.all) (λ d. EndsAt f g (of d))
      report.ends report.scope old new coverage
      → AreAllPrinted line report said f g old new coverage
  kept_printed kept h =
      let told = map (as_told of) h.told in
      record {
        stretches = in_scope report.scope told;
        are_all = subst (λ (b : Bool). AreAllIn b report.scope said f g (stretches_in (in_scope report.scope told))) (sym kept)
            (kept_in report said f g report.scope told (subst (AreAllStretches f g) (sym (given_stretches of h.told)) h.are_all.0));
        ends = each_in _ report.scope told
            (subst (λ (b : Bool). AllByRecursion (λ (one : ToldStretch X). IsEndTold report.ends
            (EndsIn b report.scope said f g one.stretch) one.end) told) (sym kept)
            (given_ends of report.ends (EndsAt f g) h.told h.ends_told));
        text = subst (Appends old new) (given_lines of line report.scope h.told) h.text;
        coverage_is = h.found_is ∙ given_none of report.scope h.told h.coverage
            ∙ ap (λ (c : Coverage). if_none (in_scope report.scope told) c) (covered_is f g h.coverage h.are_all.1);
      }

  pub kept_begun : {G : Type 0} {HasGiven : G → List D → Type 0} → report.any_copy ≡ false
      → ((now : G) (given : List D) → HasGiven now given → HasMore of f g given)
      → AreBegun (line_of of line) (is_answered of) HasGiven (λ d. EndsAt f g (of d)) report.ends report.scope old new
      → HasBegun (AreStretchesPrinted line report said f g old) old new
  kept_begun kept later h =
      let told = map (as_told of) h.told in
      let more = later h.given (differences_of h.told) h.so in
      let rest = with_ends f g report.ends more.0 more.1.1 in
      let whole = told ++ rest.0 in
      let joined : stretches_in whole ≡ map of (differences_of h.told) ++ more.0 =
      map-append (λ (t : ToldStretch X). t.stretch) told rest.0
      ∙ ap (λ (list : List (Stretch X)). list ++ stretches_in rest.0) (given_stretches of h.told)
      ∙ ap (λ (list : List (Stretch X)). map of (differences_of h.told) ++ list) rest.1 in
      begun_of report said f g (in_scope report.scope whole)
      (subst (λ (b : Bool). AreAllIn b report.scope said f g (stretches_in (in_scope report.scope whole))) (sym kept)
      (kept_in report said f g report.scope whole (subst (AreAllStretches f g) (sym joined) more.1.0)))
      (each_in _ report.scope whole
      (subst (λ (b : Bool). AllByRecursion (λ (one : ToldStretch X). IsEndTold report.ends
      (EndsIn b report.scope said f g one.stretch) one.end) whole) (sym kept)
      (each_append (λ (one : ToldStretch X). IsEndTold report.ends (EndsAt f g one.stretch) one.end) told rest.0
      (given_ends of report.ends (EndsAt f g) h.told h.ends_told) rest.2)))
      (subst (λ (list : List (ToldStretch X)).
      AppendsPrefix old new (lines_or line (checked_line report.at_least (answer_if_none report.scope f g)) list))
      (sym (in_append report.scope told rest.0))
      (prefix_of_all report said f g line (checked_line report.at_least (answer_if_none report.scope f g)) (in_scope report.scope told)
      (in_scope report.scope rest.0) old new (subst (AppendsPrefix old new) (given_lines of line report.scope h.told) h.prefix)))

  -- those at which the table isn't right, which were given of the scope alone
  pub wrong_printed : {coverage : Option Coverage} → report.any_copy ≡ true
      → ArePrinted (line_of of line) (is_answered of)
      (λ given covered. AreAllWrong report.scope said f g (map of given) × AreCounts g f covered.answered covered.all)
      (λ d. EndsWrong report.scope said f g (of d)) report.ends All old new coverage
      → AreAllPrinted line report said f g old new coverage
  wrong_printed any h =
      let told = map (as_told of) h.told in
      record {
        stretches = told;
        are_all = subst (λ (b : Bool). AreAllIn b report.scope said f g (stretches_in told)) (sym any)
            (subst (AreAllWrong report.scope said f g) (sym (given_stretches of h.told)) h.are_all.0);
        ends = subst (λ (b : Bool). AllByRecursion (λ (one : ToldStretch X). IsEndTold report.ends
            (EndsIn b report.scope said f g one.stretch) one.end) told) (sym any)
            (given_ends of report.ends (EndsWrong report.scope said f g) h.told h.ends_told);
        text = subst (Appends old new) (given_lines of line All h.told) h.text;
        coverage_is = h.found_is ∙ given_none of All h.told h.coverage
            ∙ ap (λ (c : Coverage). if_none told c) (covered_is f g h.coverage h.are_all.1);
      }

  pub wrong_begun : {G : Type 0} {HasGiven : G → List D → Type 0} → report.any_copy ≡ true
      → ((now : G) (given : List D) → HasGiven now given → AreFirstWrong report.scope said f g (map of given))
      → AreBegun (line_of of line) (is_answered of) HasGiven (λ d. EndsWrong report.scope said f g (of d)) report.ends All old new
      → AreFirstPrinted line report said f g old new
  wrong_begun any first h =
      let told = map (as_told of) h.told in
      record {
        stretches = told;
        are_first = subst (AreFirstWrong report.scope said f g) (sym (given_stretches of h.told))
            (first h.given (differences_of h.told) h.so);
        ends = subst (λ (b : Bool). AllByRecursion (λ (one : ToldStretch X). IsEndTold report.ends
            (EndsIn b report.scope said f g one.stretch) one.end) told) (sym any)
            (given_ends of report.ends (EndsWrong report.scope said f g) h.told h.ends_told);
        prefix = subst (AppendsPrefix old new) (given_lines of line All h.told) h.prefix;
      }

-- ---- the end

-- what the table answers of all
end_answer : {X : Type 0} (scope : Scope) (f g : Position → Option X)
    → told_right scope (coverage_of f g) (Numbered Yes) ≡ answer_if_none scope f g
end_answer All f g = refl
end_answer Answered f g = refl

whole_text : {X : Type 0} (line : ToldStretch X → List ℕ) (report : Report) (f g : Position → Option X) (stretches : List (ToldStretch X))
    → flat_map line stretches ++ end_text report (if_none stretches (coverage_of f g))
    ≡ lines_or line (checked_line report.at_least (answer_if_none report.scope f g)) stretches
whole_text line report f g [] = ap (checked_line report.at_least) (end_answer report.scope f g)
whole_text line report f g (first ∷ stretches) = append-nil (flat_map line (first ∷ stretches))

module _ {X : Type 0} {line : ToldStretch X → List ℕ} {report : Report} {said : Position → Option X → Type 0}
    {f g : Position → Option X} {old now new : Option (List ℕ)} {coverage : Option Coverage} where
  pub end_told : {status : Status} → AreAllPrinted line report said f g old now coverage
      → Appends now new (end_text report coverage) → status ≡ end_status report coverage
      → AreStretchesPrinted line report said f g old new status
  end_told h text status_is =
      let end : Appends now new (end_text report (if_none h.stretches (coverage_of f g))) =
      subst (λ (c : Option Coverage). Appends now new (end_text report c)) h.coverage_is text in
      record {
        stretches = h.stretches;
        are_all = h.are_all;
        ends = h.ends;
        printed =
            subst (Appends old new) (whole_text line report f g h.stretches)
            (Appends-trans old now new (flat_map line h.stretches) (end_text report (if_none h.stretches (coverage_of f g))) h.text end);
        status_is = status_is ∙ ap (end_status report) h.coverage_is ∙ by_list h.stretches;
      }
    where
      by_list : (list : List (ToldStretch X)) → end_status report (if_none list (coverage_of f g))
          ≡ stretches_status (checked_status report.at_least (answer_if_none report.scope f g)) list
      by_list [] = ap (checked_status report.at_least) (end_answer report.scope f g)
      by_list (first ∷ list) = refl

  pub end_begun : AreAllPrinted line report said f g old now coverage
      → AppendsPrefix now new (end_text report coverage) → HasBegun (AreStretchesPrinted line report said f g old) old new
  end_begun h prefix =
      begun_of report said f g h.stretches h.are_all h.ends
      (prefix_same old new _ _ (whole_text line report f g h.stretches)
      (prefix_after old now new (flat_map line h.stretches) (end_text report (if_none h.stretches (coverage_of f g))) h.text
      (subst (λ (c : Option Coverage). AppendsPrefix now new (end_text report c)) h.coverage_is prefix)))
