use Rattle.std.proofs.Common.{◌∷◌, [], refl}
use Rattle.lnt_records.specs.PathTables.{path_column_names}
use Rattle.lnt_compare.proofs.HeldLemmas.{held_none, table_in_order}
use Rattle.lnt_records.proofs.PathLaws.{pathed}
use Rattle.lnt_compare.proofs.path_tables.held.hold_table.Goals as goal

pub returns-in-Some-2-clause-held : goal.returns-in-Some-2-clause-held
returns-in-Some-2-clause-held c =
    let version = c.in-Some.version in
    let names = path_column_names version in
    rw c.in-Some-2.is at c.in_ok-fault.ensures names [] (names ∷ []) c.args.table.now (pathed.narrow version)
    (rw c.in-Some.is at c.in_ok-version.ensures) (λ more after rest r. r) (held_none version _ c.new-spans.ensures.items) refl

pub returns-in-None-clause-held : goal.returns-in-None-clause-held
returns-in-None-clause-held c =
    let version = c.in-Some.version in
    let names = path_column_names version in
    let now = rw c.in-None.is at c.in_ok-fault.ensures names [] (names ∷ []) c.args.table.now (pathed.narrow version)
    (rw c.in-Some.is at c.in_ok-version.ensures) (λ more after rest r. r) (held_none version _ c.new-spans.ensures.items) refl in
    (names ∷ now.0, now.1, now.2)

pub returns-in-None-clause-in_order : goal.returns-in-None-clause-in_order
returns-in-None-clause-in_order c =
    let version = c.in-Some.version in
    let names = path_column_names version in
    let now = rw c.in-None.is at c.in_ok-fault.ensures names [] (names ∷ []) c.args.table.now (pathed.narrow version)
    (rw c.in-Some.is at c.in_ok-version.ensures) (λ more after rest r. r) (held_none version _ c.new-spans.ensures.items) refl in
    table_in_order version (names ∷ now.0) _ now.2
