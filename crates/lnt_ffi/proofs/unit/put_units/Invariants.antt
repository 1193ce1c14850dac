use Rattle.std.proofs.Common.{◌-◌, ◌≤◌, ◌≡◌, drop, length, map, take}
use Rattle.lnt_ffi.specs.Returns.{unit_in}
use Rattle.lnt_ffi.proofs.unit.put_units.Given as goal

abbrev pub invariant-loop-i : goal.invariant-loop-i
invariant-loop-i l = record {
  upto : l.i ≤ l.count;
  size : length l.room ≡ length l.fn.room;
  done : take l.i l.room ≡ map (unit_in l.index) (take l.i l.offsets);
  behind : drop l.i l.room ≡ drop l.i l.fn.room;
}

abbrev pub decreases-loop-i : goal.decreases-loop-i
decreases-loop-i l = l.count - l.i
