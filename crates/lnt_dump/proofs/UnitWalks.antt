-- Walks over the operations of a valid unit: the lines of its operations, its rows, and whether its program runs.
use Rattle.std.proofs.Common.{◌≡◌, ◌∙◌, ℕ, ◌+◌, ◌^◌, ◌<◌, ◌≤◌, List, [], ◌∷◌, ◌++◌, length, take, drop, get_or, refl, sym, ap, subst, arith}
use Rattle.std.proofs.Common.{false, take_all, Option}
use Rattle.std.proofs.lemmas.List.{drop_more, length-drop}
use Rattle.lnt_io.specs.Prefixes.{AppendsPrefix}
use Rattle.lnt_header.specs.HeaderRules.{IsHeader}
use Rattle.lnt_header.specs.Joins.{Each}
use Rattle.lnt_header.specs.OpRules.{StandsFor}
use Rattle.lnt_header.specs.declared.op.Op.{Op}
use Rattle.lnt_header.specs.declared.op.OpView.{OpView}
use Rattle.lnt_header_bytes.proofs.HeaderLaws.{same_header}
use Rattle.lnt_ops.proofs.LeftLaws.{left_ends, left_fails, left_next}
use Rattle.lnt_ops.specs.Walks.{OperationsAreLeft, Ends, Fails, GivesOperation, Walk}
use Rattle.lnt_ops.specs.OpBytes.{OpBytes}
use Rattle.lnt_unit.proofs.UnitLaws.{header_of}
use Rattle.lnt_unit.specs.Views.{IsUnitView, View, with_ops}
use Rattle.lnt_wire.specs.declared.fault.Fault.{Fault}
use Rattle.lnt_dump.specs.Units.{numbered}
use Rattle.lnt_dump.specs.Operations.{op_line}
use Rattle.lnt_dump.specs.Stepping.{IsPaged, IsUnitOf}
use Rattle.lnt_dump.proofs.Pages.{paged_none, told_next, told_next_cut}

-- The walk is after the first k operations of the unit, each of a byte or more of the program.
pub record StandsAt (view : View) (ops : List Op) (k : ℕ) (walk : Walk) : Type 0 where
  pub within : k ≤ length ops
  pub left : OperationsAreLeft view.header.numbers (drop k ops) walk
  pub few : k + length walk.at.rest ≤ length view.program

-- the program encodes the operations
program_of : (view : View) (ops : List Op) → IsUnitView view → IsUnitOf view ops
    → Each (OpBytes view.header.numbers) ops view.program
program_of view ops is p =
    let whole = header_of view.unit.order (with_ops view ops) view.unit.bytes p in
    let found = same_header view.header view.header p.spelled.program view.program view.unit.bytes view.unit.bytes [] [] refl
    whole.spelled is.spelled.spelled refl in
    subst (Each (OpBytes view.header.numbers) ops) found.program p.spelled.operations

pub stands_first : (view : View) (ops : List Op) (walk : Walk) → IsUnitView view → IsUnitOf view ops
    → walk.numbers ≡ view.header.numbers → walk.at.rest ≡ view.program → walk.failed ≡ false → StandsAt view ops 0 walk
stands_first view ops walk is p header rest going = record {
  within = omega arith;
  left = record {
    header_is = header;
    going = going;
    spelled = subst (Each (OpBytes view.header.numbers) ops) (sym rest) (program_of view ops is p);
  };
  few = omega (arith, ap length rest);
}

-- the next operation
pub record IsNextAt (view : View) (ops : List Op) (k : ℕ) (item : OpView) (new : Walk) : Type 0 where
  pub op : Op
  pub more : k < length ops
  pub is : op ≡ get_or ops k op
  pub stands : StandsFor item op
  pub at : StandsAt view ops (k + 1) new

head_is : {X : Type 0} (x y : X) (xs ys : List X) → x ∷ xs ≡ y ∷ ys → (x ≡ y) × (xs ≡ ys)
head_is x y xs ys e = (cc e, cc e)

pub stands_next : {view : View} {ops : List Op} {k : ℕ} {item : OpView} {old new : Walk} → IsHeader view.header → StandsAt view ops k old
    → GivesOperation item old new → IsNextAt view ops k item new
stands_next {view} {ops} {k} {item} {old} {new} header s step =
    let h = view.header.numbers in
    let n = left_next h (drop k ops) item old new header.numbers s.left step in
    let more : k < length ops = omega (arith, ap length n.later_is, length-drop k ops, s.within) in
    let both = head_is n.op (get_or ops k n.op) n.others (drop (k + 1) ops) (sym n.later_is ∙ drop_more ops k n.op more) in
    record {
      op = n.op;
      more = more;
      is = both.0;
      stands = n.stands;
      at = record {
        within = omega (arith, more);
        left = subst (λ (list : List Op). OperationsAreLeft h list new) both.1 n.left;
        few = omega (arith, s.few, step.shorter);
      };
    }

-- its number, and that of the one after it
pub stands_room : {view : View} {ops : List Op} {k : ℕ} {item : OpView} {old new : Walk} → IsUnitView view → StandsAt view ops k old
    → GivesOperation item old new → k + 1 < 2 ^ 64
stands_room {view} {ops} {k} {item} {old} {new} is s step = omega (arith, is.room, s.few, step.shorter)

-- none is refused
pub stands_fails : {view : View} {ops : List Op} {k : ℕ} {fault : Fault} {old new : Walk} → StandsAt view ops k old
    → Fails fault old new → ⊥
stands_fails {view} {ops} {k} {fault} {old} {new} s fails = left_fails view.header.numbers (drop k ops) fault old new s.left fails

-- all were given
pub stands_last : {view : View} {ops : List Op} {k : ℕ} {old new : Walk} → StandsAt view ops k old → Ends old new → length ops ≤ k
stands_last {view} {ops} {k} {old} {new} s ends =
    omega (arith, ap length (left_ends view.header.numbers (drop k ops) old new s.left ends), length-drop k ops)

-- ---- the lines of operations

-- The lines of the first k operations were printed, after the text before them.
pub record OpsPrinted (view : View) (ops : List Op) (k : ℕ) (walk : Walk) (before page : List ℕ) (old now : Option (List ℕ)) : Type 0 where
  pub at : StandsAt view ops k walk
  pub paged : IsPaged (before ++ numbered op_line 0 (take k ops)) old now page

pub ops_none : {view : View} {ops : List Op} {walk : Walk} (page : List ℕ) (out : Option (List ℕ)) → StandsAt view ops 0 walk
    → OpsPrinted view ops 0 walk page page out out
ops_none {view} {ops} {walk} page out s = record {
  at = s;
  paged = paged_none page out;
}

module _ {view : View} {ops : List Op} {k : ℕ} {item : OpView} {walk walk' : Walk} {before page : List ℕ} {old now new : Option (List ℕ)}
    (header : IsHeader view.header) (t : OpsPrinted view ops k walk before page old now) (step : GivesOperation item walk walk') where
  pub ops_more : {page' : List ℕ} → ((done : Op) → StandsFor item done → IsPaged (page ++ op_line k done) now new page')
      → OpsPrinted view ops (k + 1) walk' before page' old new
  ops_more line =
      let n = stands_next header t.at step in
      record { at = n.at; paged = told_next op_line before ops k n.op n.more n.is t.paged (line n.op n.stands) }

  -- of the next line a prefix was written
  pub ops_cut : ((done : Op) → StandsFor item done → AppendsPrefix now new (page ++ op_line k done))
      → AppendsPrefix old new (before ++ numbered op_line 0 ops)
  ops_cut line =
      let n = stands_next header t.at step in
      told_next_cut op_line before ops k n.op n.more n.is t.paged (line n.op n.stands)

pub ops_all : {view : View} {ops : List Op} {k : ℕ} {walk walk' : Walk} {before page : List ℕ} {old now : Option (List ℕ)}
    → OpsPrinted view ops k walk before page old now → Ends walk walk' → IsPaged (before ++ numbered op_line 0 ops) old now page
ops_all {ops = ops} {k = k} {before = before} {page = page} {old = old} {now = now} t ends =
    subst (λ (list : List Op). IsPaged (before ++ numbered op_line 0 list) old now page) (take_all k ops (stands_last t.at ends)) t.paged
