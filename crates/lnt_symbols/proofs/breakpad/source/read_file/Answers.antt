use Rattle.std.proofs.Common.{◌∙◌, ◌++◌, Err, List, [], ℕ, ap, refl, subst, sym}
use Rattle.std.proofs.lemmas.Option.{same_Some}
use Rattle.lnt_compare.proofs.WindowLaws.{longer_from_start, passes_both, passes_line, passes_none}
use Rattle.lnt_symbols.specs.BreakpadLines.{lines_of}
use Rattle.lnt_symbols.specs.Stepping.{HasRead}
use Rattle.lnt_symbols.proofs.SourceLemmas.{filled, gave, if_some, known_left, rest_is, same_stop, split_at, taken_all, with_none}
use Rattle.lnt_symbols.proofs.breakpad.source.read_file.Goals as goal

pub loop-left-init : goal.loop-left-init
loop-left-init g c = record {
  base = c.new-reader.ensures.base;
  failures = refl;
  name = refl;
  passes = ([], passes_none _ _ _);
  read = λ more e later f. subst (λ (t : List ℕ). HasRead (c.args.window ++ more) c.new-reader.result (lines_of (c.args.window ++ t)))
      (same_Some more later (sym e ∙ f)) (c.new-reader.ensures.read (c.args.window ++ more));
}

pub returns-in-Err-clause-err : goal.returns-in-Err-clause-err
returns-in-Err-clause-err g c = if_some _ _ (λ more e.
    (let inv = c.loop-left.invariant in
    let left = known_left _ _ inv.passes.1.given more inv.passes.1.pulls e in
    (rw c.bytes.ensures at c.in-Err.ensures.stop) (c.args.window ++ more) left.0 (inv.read more e left.0 left.1) (λ t. cc t)))

pub loop-left-smaller : goal.loop-left-smaller
loop-left-smaller g c =
    gave _ _ _ _ _ c.in-Ok.left c.loop-left.window _ _ refl (rw c.bytes.ensures at c.in-Ok.ensures.left)
    (rw c.bytes-in-loop-left.ensures at c.pass.ensures) c.in_default.ensures.taken
    (rw c.bytes-in-loop-left-2.ensures at c.if-bytes-left.false)

pub loop-left-preserved : goal.loop-left-preserved
loop-left-preserved g c =
    let inv = c.loop-left.invariant in
    let w = c.loop-left.window in
    let passed = rw c.bytes-in-loop-left.ensures at c.pass.ensures in
    record {
      base = c.in-Ok.ensures.base ∙ inv.base;
      failures = c.in_default.ensures.failures.no_failure (λ e. cc e) ∙ inv.failures;
      name = c.in_default.ensures.failures.name ∙ inv.name;
      passes = (
        _,
        passes_both _ _ _ _ _ _ _ _ _ _ _
            (passes_line _ _ _ _ _ _ _ _ _ inv.passes.1 (split_at _ w _ passed)) c.in_default.ensures.taken,
      );
      read = λ more e later f.
          (let mid = known_left _ _ inv.passes.1.given more inv.passes.1.pulls e in
          filled _ _ _ _ _ w _ _ passed c.in_default.ensures.taken (c.args.window ++ more) c.read.new.self mid.0 later mid.1 f
          ((rw c.bytes.ensures at c.in-Ok.ensures.read) (c.args.window ++ more) mid.0 (inv.read more e mid.0 mid.1) (λ t. cc t)));
    }

pub returns-in-Err-rest_after-clause-too_long : goal.returns-in-Err-rest_after-clause-too_long
returns-in-Err-rest_after-clause-too_long g c is =
    let inv = c.loop-left.invariant in
    let passed = rw c.bytes-in-loop-left.ensures at c.pass.ensures in
    let found = c.in-Err-rest_after.ensures.too_long (ap Err (same_stop c.in-Err-rest_after.stop _ is)) in
    record {
      is_found = found.is_found;
      more = longer_from_start _ _ _ _ _ _ _ (passes_both _ _ _ _ _ _ _ _ _ _ _
          (passes_line _ _ _ _ _ _ _ _ _ inv.passes.1 (split_at _ c.loop-left.window _ passed)) c.in_default.ensures.taken) found.more;
    }

pub returns-in-Ok-read-clause-ok : goal.returns-in-Ok-read-clause-ok
returns-in-Ok-read-clause-ok g c = if_some _ _ (λ more e.
    (let inv = c.loop-left.invariant in
    let passed = rw c.bytes-in-loop-left.ensures at c.pass.ensures in
    let mid = known_left _ _ inv.passes.1.given more inv.passes.1.pulls e in
    let later = known_left _ _ c.in_default.ensures.taken.given mid.0 c.in_default.ensures.taken.pulls mid.1 in
    let whole = c.args.window ++ more in
    let read = filled _ _ _ _ _ c.loop-left.window _ _ passed c.in_default.ensures.taken whole c.read.new.self mid.0 later.0 mid.1 later.1
    ((rw c.bytes.ensures at c.in-Ok.ensures.read) whole mid.0 (inv.read more e mid.0 mid.1) (λ t. cc t)) in
    let rest = c.deref.ensures.value ∙ rest_is _ _ _ _ later.0 c.in-Ok-rest_after.ensures.ok later.1 in
    taken_all c.args.base whole c.read-2.new.self (c.in-Ok-read.ensures.base ∙ c.in-Ok.ensures.base ∙ inv.base)
    (c.in-Ok-read.ensures.counts refl)
    (c.in-Ok-read.ensures.read whole [] (with_none whole c.deref.result.now c.read.new.self
    (subst (λ (t : List ℕ). HasRead whole c.read.new.self (lines_of t)) (sym rest) read)) (λ t. refl))))

pub returns-in-Err-read-clause-err : goal.returns-in-Err-read-clause-err
returns-in-Err-read-clause-err g c = if_some _ _ (λ more e.
    (let inv = c.loop-left.invariant in
    let passed = rw c.bytes-in-loop-left.ensures at c.pass.ensures in
    let mid = known_left _ _ inv.passes.1.given more inv.passes.1.pulls e in
    let later = known_left _ _ c.in_default.ensures.taken.given mid.0 c.in_default.ensures.taken.pulls mid.1 in
    let whole = c.args.window ++ more in
    let read = filled _ _ _ _ _ c.loop-left.window _ _ passed c.in_default.ensures.taken whole c.read.new.self mid.0 later.0 mid.1 later.1
    ((rw c.bytes.ensures at c.in-Ok.ensures.read) whole mid.0 (inv.read more e mid.0 mid.1) (λ t. cc t)) in
    let rest = c.deref.ensures.value ∙ rest_is _ _ _ _ later.0 c.in-Ok-rest_after.ensures.ok later.1 in
    c.in-Err-read.ensures.stop whole [] (with_none whole c.deref.result.now c.read.new.self
    (subst (λ (t : List ℕ). HasRead whole c.read.new.self (lines_of t)) (sym rest) read)) (λ t. refl)))
