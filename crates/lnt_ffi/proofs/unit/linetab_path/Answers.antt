use Rattle.std.proofs.Common.{refl, sym}
use Rattle.lnt_ffi.specs.Returns.{ReturnsPath}
use Rattle.lnt_ffi.proofs.unit.linetab_path.Goals as goal

pub returns-in-None-clause-returned : goal.returns-in-None-clause-returned
returns-in-None-clause-returned c = ReturnsPath.refused c.in-None.ensures.refused refl refl refl

pub returns-in-Ok-None-clause-returned : goal.returns-in-Ok-None-clause-returned
returns-in-Ok-None-clause-returned c =
    let found = rw c.in-Ok-None.is at c.path_of-found.ensures.path in
    ReturnsPath.nowhere c.in-Some.index c.in-Some.ensures.good (sym (rw c.in-Ok-None.field-0-is at found)) refl refl refl
    c.in-Some.ensures.yes

pub returns-in-Ok-Some-clause-returned : goal.returns-in-Ok-Some-clause-returned
returns-in-Ok-Some-clause-returned c =
    let found = rw c.in-Ok-Some.is at c.path_of-found.ensures.path in
    let put = rw c.deref.ensures.value at c.put_bytes.ensures in
    ReturnsPath.found c.in-Some.index c.in-Some.ensures.good c.in-Ok-Some.whole.items (sym (rw c.in-Ok-Some.field-0-is at found)) refl
    put.count put.there c.in-Some.ensures.yes
