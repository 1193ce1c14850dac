-- The units of a section, printed one after another.
use Rattle.std.proofs.Common.{◌≡◌, ◌≢◌, ◌∙◌, ℕ, ◌<◌, List, [], ◌∷◌, ◌++◌, length, Option, Some, None, IfSome, Result, Ok, Err, IfOk, OnErr}
use Rattle.std.proofs.Common.{OnOk, refl, sym, ap, subst, append-nil, arith, inl, inr, ◌⊎◌, codes, IsTrue, map}
use Rattle.std.specs.List.{AllByRecursion, flat_map}
use Rattle.std.specs.Io.KnownBytes.{Appends, Keeps}
use Rattle.std.proofs.KnownBytes.{Appends-nil, Appends-trans}
use Rattle.std.proofs.lemmas.List.{length-append, map-append}
use Rattle.lnt_io.specs.Prefixes.{AppendsPrefix}
use Rattle.lnt_io.proofs.PrefixLaws.{prefix_after, prefix_before, prefix_none, prefix_same, prefix_since}
use Rattle.lnt_io.specs.Pulling.{Pulls}
use Rattle.lnt_header.specs.declared.op.Op.{Op}
use Rattle.lnt_header.specs.declared.unit_parts.UnitParts.{UnitParts}
use Rattle.lnt_machine.specs.declared.fault.RowFault.{RowFault}
use Rattle.lnt_machine.specs.declared.fault.RowFault.TheVariants.{Malformed, Run}
use Rattle.lnt_machine.proofs.SequenceLaws.{all-append}
use Rattle.lnt_machine.specs.Matrix.{Runs}
use Rattle.lnt_io.specs.declared.io_stop.IoStop.{IoStop}
use Rattle.lnt_io.specs.declared.status.Status.{Status}
use Rattle.lnt_io.specs.declared.status.Status.TheVariants.{Done, No}
use Rattle.lnt_unit.specs.Units.{BufferedUnit, IsWholeUnit, SectionEndsBy}
use Rattle.lnt_text.specs.Texts.{malformed_text}
use Rattle.lnt_unit.proofs.FrameLaws.{broken_more}
use Rattle.lnt_unit.proofs.WholeWalks.{fault_of_section}
use Rattle.lnt_unit.specs.BrokenUnits.{BrokenUnit}
use Rattle.lnt_unit.specs.UnitBytes.{UnitBytesIn}
use Rattle.lnt_unit.specs.Views.{View, with_ops}
use Rattle.lnt_wire.proofs.LengthLaws.{length-initial}
use Rattle.lnt_wire.specs.FrameBytes.{frame_bytes, initial_length}
use Rattle.lnt_wire.specs.declared.fault.Fault.{Fault}
use Rattle.lnt_wire.specs.declared.fault.Reason.TheVariants.{Memory}
use Rattle.lnt_wire.specs.declared.format.Order.{Order}
use Rattle.lnt_wire.specs.declared.frame.Frame.{Frame}
use Rattle.lnt_dump.specs.declared.dump.DumpParts.{DumpParts}
use Rattle.lnt_dump.specs.Dumps.{BeginsWithUnits, DoesNotRun, FramedUnit, IsDumpBegun, IsDumped, IsDumpedUnit, IsDumpFault}
use Rattle.lnt_dump.specs.Dumps.{fault_line, unit_lines}
use Rattle.lnt_dump.specs.Units.{fault_status}
use Rattle.lnt_dump.specs.Stepping.{IsFaultOf, IsUnitOf, UnitBegun, UnitEnds, UnitEndsSo, IsUnitPrinted}
use Rattle.lnt_dump.proofs.Frames.{flat_push, FramesRead, IsNextFramed, read_more, read_none}

-- ---- one unit

abbrev ends_with_fault : {shown : DumpParts} {frame : Frame} {unit : BufferedUnit} {IsSo : List ℕ → Type 0} (offset : ℕ) (fault : RowFault)
    → offset ≡ unit.offset → IsFaultOf unit shown.rows fault → IsSo (fault_line offset (Some fault)) → UnitEndsSo shown frame unit IsSo
ends_with_fault offset fault at is so = record {
  fault = Some fault;
  text = fault_line offset (Some fault);
  ends = (is, ap (λ (n : ℕ). fault_line n (Some fault)) at);
  so = so;
}

module _ (shown : DumpParts) (frame : Frame) (unit : BufferedUnit) (old new : Option (List ℕ)) where
  -- the line of any fault
  pub faulty_told : {offset : ℕ} (fault : RowFault) (printed : Result Status IoStop) → offset ≡ unit.offset
      → IsFaultOf unit shown.rows fault
      → IfOk printed (λ status. status ≡ No) → OnOk printed (Appends old new (fault_line offset (Some fault)))
      → IfOk printed (IsUnitPrinted shown frame unit old new)
  faulty_told {offset} fault (Ok status) at is is_no line = (ends_with_fault offset fault at is line, is_no)
  faulty_told fault (Err io_stop) at is is_no line = tt

  pub faulty_begun : {offset : ℕ} (fault : RowFault) (printed : Result Status IoStop) → offset ≡ unit.offset
      → IsFaultOf unit shown.rows fault
      → OnErr printed (AppendsPrefix old new (fault_line offset (Some fault)))
      → OnErr printed (Keeps old new ⊎ UnitBegun shown frame unit old new)
  faulty_begun fault (Ok status) at is line = tt
  faulty_begun {offset} fault (Err io_stop) at is line = inr (ends_with_fault offset fault at is line)

  -- the line of bytes that are no unit
  module _ (fault : Fault) (broken : fault.reason ≢ Memory → BrokenUnit unit.order fault unit.offset unit.bytes) where
    pub broken_told : (printed : Result Status IoStop) → OnOk printed (fault.reason ≢ Memory) → IfOk printed (λ status. status ≡ No)
        → OnOk printed (Appends old new (malformed_text fault ++ codes "\n")) → IfOk printed (IsUnitPrinted shown frame unit old new)
    broken_told (Ok status) other is_no line = faulty_told (Malformed fault) (Ok status) refl (broken other) is_no line
    broken_told (Err io_stop) other is_no line = tt

    pub broken_begun : (printed : Result Status IoStop) → OnErr printed (Keeps old new ⊎ (fault.reason ≢ Memory))
        → OnErr printed (AppendsPrefix old new (malformed_text fault ++ codes "\n"))
        → OnErr printed (Keeps old new ⊎ UnitBegun shown frame unit old new)
    broken_begun (Ok status) other line = tt
    broken_begun (Err io_stop) (inl kept) line = inl kept
    broken_begun (Err io_stop) (inr other) line = faulty_begun (Malformed fault) (Err io_stop) refl (broken other) line

-- of the lines of a unit
abbrev pub ends_without_fault : {shown : DumpParts} {frame : Frame} {IsSo : List ℕ → Type 0} (view : View)
    → (sound : (ops : List Op) × IsUnitOf view ops × (IsTrue shown.rows → Runs (with_ops view ops)))
    → ((ops : List Op) → IsUnitOf view ops → IsSo (unit_lines shown (frame, with_ops view ops))) → UnitEndsSo shown frame view.unit IsSo
ends_without_fault {shown} {frame} view (ops, is, runs) so = record {
  fault = None;
  text = unit_lines shown (frame, with_ops view ops);
  ends = (with_ops view ops, is, runs, refl);
  so = so ops is;
}

-- ---- the units so far

-- The source gave the bytes of some units, and their lines were printed.
pub record UnitsPrinted (order : Order) (shown : DumpParts) (start now old new : Option (List ℕ)) (of_reader : Order) (offset : ℕ) : Type 0
  where
    pub units : List FramedUnit
    pub read : FramesRead order start now (map (λ unit. unit.0) units) of_reader offset
    pub each : AllByRecursion (IsDumpedUnit order shown) units
    pub printed : Appends old new (flat_map (unit_lines shown) units)

pub units_none : {order : Order} {shown : DumpParts} {start now old : Option (List ℕ)} {of_reader : Order} {offset : ℕ} → of_reader ≡ order
    → offset ≡ 0 → now ≡ start → UnitsPrinted order shown start now old old of_reader offset
units_none {old = old} ordered at same =
    record { units = []; read = read_none ordered at same; each = tt; printed = Appends-nil old }

-- the section begins with them
begins : (order : Order) (shown : DumpParts) (start now : Option (List ℕ)) (units : List FramedUnit) (of_reader : Order) (offset : ℕ)
    (Ends : List ℕ → Type 0) → FramesRead order start now (map (λ unit. unit.0) units) of_reader offset
    → AllByRecursion (IsDumpedUnit order shown) units → IfSome now Ends
    → IfSome start (λ bytes. (rest : List ℕ) × BeginsWithUnits order shown bytes units offset rest × Ends rest)
begins order shown None now units of_reader offset Ends read each ends = tt
begins order shown (Some bytes) None units of_reader offset Ends read each ends = absurd read.pulls
begins order shown (Some bytes) (Some rest) units of_reader offset Ends read each ends = (
  rest,
  record {
    prefix = read.so_far.prefix;
    whole = read.pulls ∙ ap (λ (z : List ℕ). z ++ rest) (read.so_far.whole ∙ append-nil read.so_far.prefix);
    offset_is = read.so_far.place;
    frames = read.so_far.joined;
    each = each;
  },
  ends,
)

-- one more unit
module _ {order : Order} {start mid now : Option (List ℕ)} {of_reader next_order : Order} {offset after : ℕ} {unit : BufferedUnit}
    {frame : Frame} (units : List FramedUnit) (ordered : next_order ≡ of_reader)
    (read : FramesRead order start mid (map (λ unit. unit.0) units) of_reader offset)
    (n : IsNextFramed of_reader offset after mid now unit frame) where
  -- was read
  read_unit : (parts : UnitParts) → FramesRead order start now (map (λ unit. unit.0) (units ++ (frame, parts) ∷ [])) next_order after
  read_unit parts =
      subst (λ (frames : List Frame). FramesRead order start now frames next_order after)
      (sym (map-append (λ (unit : FramedUnit). unit.0) units ((frame, parts) ∷ [])))
      (read_more ordered read n)

  -- and is the unit of its frame
  dumped_one : {shown : DumpParts} {parts : UnitParts} → UnitBytesIn unit.order parts unit.bytes → (IsTrue shown.rows → Runs parts)
      → IsDumpedUnit order shown (frame, parts)
  dumped_one {parts = parts} spelled runs =
      let same : unit.order ≡ order = n.next.order_is ∙ read.so_far.order_is in
      record {
        spelled = subst (λ (o : Order). UnitBytesIn o parts (frame_bytes o frame.format frame.body.now)) same
            (subst (UnitBytesIn unit.order parts) (sym n.bytes_are) spelled);
        runs = runs;
      }

-- ---- the end of the section

-- no frame follows, and so no unit
no_frame : {order : Order} {start : Option (List ℕ)} {frames : List Frame} {of_reader : Order} {offset : ℕ} (shown : DumpParts)
    (now : Option (List ℕ)) (fault : Fault) → FramesRead order start now frames of_reader offset
    → SectionEndsBy offset of_reader now (Some fault) → IfSome now (λ rest. IsDumpFault order shown offset rest (Malformed fault))
no_frame shown None fault read ends = tt
no_frame {of_reader = of_reader} {offset = offset} shown (Some rest) fault read ends =
    let broken = fault_of_section.alone of_reader offset rest fault ends in
    (ends.0, subst (λ (o : Order). BrokenUnit o fault offset rest) read.so_far.order_is broken)

-- nothing is asked of what is left
any_rest : (known : Option (List ℕ)) → IfSome known (λ rest. Unit {0})
any_rest None = tt
any_rest (Some rest) = tt

keeps_same : (known : Option (List ℕ)) → Keeps known known
keeps_same None = tt
keeps_same (Some bytes) = refl

module _ {order : Order} {shown : DumpParts} {start now old then : Option (List ℕ)} {of_reader : Order} {offset : ℕ}
    (done : UnitsPrinted order shown start now old then of_reader offset) where
  begins_with_units : (Ends : List ℕ → Type 0) → IfSome now Ends
      → IfSome start (λ bytes. (rest : List ℕ) × BeginsWithUnits order shown bytes done.units offset rest × Ends rest)
  begins_with_units Ends ends = begins order shown start now done.units of_reader offset Ends done.read done.each ends

  -- nothing is left
  pub units_end : SectionEndsBy offset of_reader now None → IsDumped order shown start old then Done
  units_end ends = record {
    units = done.units;
    offset = offset;
    fault = None;
    so = begins_with_units (λ rest. rest ≡ []) ends;
    printed = subst (Appends old then) (sym (append-nil (flat_map (unit_lines shown) done.units))) done.printed;
    status_is = refl;
  }

  -- a fault follows them
  ends_faulty : {new : Option (List ℕ)} (fault : RowFault) → IfSome now (λ rest. IsDumpFault order shown offset rest fault)
      → Appends then new (fault_line offset (Some fault)) → IsDumped order shown start old new No
  ends_faulty {new} fault is line = record {
    units = done.units;
    offset = offset;
    fault = Some fault;
    so = begins_with_units (λ rest. IsDumpFault order shown offset rest fault) is;
    printed = Appends-trans old then new (flat_map (unit_lines shown) done.units) (fault_line offset (Some fault)) done.printed line;
    status_is = refl;
  }

  begun_faulty : {new : Option (List ℕ)} (fault : RowFault) → IfSome now (λ rest. IsDumpFault order shown offset rest fault)
      → AppendsPrefix then new (fault_line offset (Some fault)) → IsDumpBegun order shown start old new
  begun_faulty {new} fault is line = record {
    units = done.units;
    offset = offset;
    fault = Some fault;
    so = begins_with_units (λ rest. IsDumpFault order shown offset rest fault) is;
    begun = prefix_after old then new (flat_map (unit_lines shown) done.units) (fault_line offset (Some fault)) done.printed line;
  }

  pub units_faulty : (new : Option (List ℕ)) (fault : Fault) (printed : Result Status IoStop)
      → SectionEndsBy offset of_reader now (Some fault) → IfOk printed (λ status. status ≡ No)
      → OnOk printed (Appends then new (malformed_text fault ++ codes "\n")) → IfOk printed (IsDumped order shown start old new)
  units_faulty new fault (Ok status) ends is_no line =
      subst (IsDumped order shown start old new) (sym is_no)
      (ends_faulty (Malformed fault) (no_frame shown now fault done.read ends) line)
  units_faulty new fault (Err io_stop) ends is_no line = tt

  pub units_fault_cut : (new : Option (List ℕ)) (fault : Fault) (printed : Result Status IoStop)
      → SectionEndsBy offset of_reader now (Some fault) → OnErr printed (AppendsPrefix then new (malformed_text fault ++ codes "\n"))
      → OnErr printed (IsDumpBegun order shown start old new)
  units_fault_cut new fault (Ok status) ends line = tt
  units_fault_cut new fault (Err io_stop) ends line = begun_faulty (Malformed fault) (no_frame shown now fault done.read ends) line

  -- nothing more is written
  pub units_stopped : {new : Option (List ℕ)} → Keeps then new → IsDumpBegun order shown start old new
  units_stopped {new} kept = record {
    units = done.units;
    offset = offset;
    fault = None;
    so = begins_with_units (λ rest. Unit {0}) (any_rest now);
    begun = prefix_after old then new (flat_map (unit_lines shown) done.units) [] done.printed
        (prefix_since then new new [] kept (prefix_none new []));
  }

  pub units_stay : IsDumpBegun order shown start old then
  units_stay = units_stopped (keeps_same then)

-- a whole unit has some byte
frame_some : {unit : BufferedUnit} → (is : IsWholeUnit unit) → 0 < length unit.bytes
frame_some {unit} is =
    omega (
      arith,
      ap length is.spelled.joined,
      length-append (initial_length is.format unit.order (length is.body)) is.body,
      length-initial is.format unit.order (length is.body),
    )

-- the fault of a unit, with whatever follows it
fault_here : {order : Order} {offset : ℕ} {unit : BufferedUnit} (shown : DumpParts) (more : List ℕ) (fault : RowFault) → IsWholeUnit unit
    → unit.offset ≡ offset → unit.order ≡ order → IsFaultOf unit shown.rows fault
    → IsDumpFault order shown offset (unit.bytes ++ more) fault
fault_here {order} {offset} {unit} shown more (Malformed fault) is at ordered b = (
  omega (arith, length-append unit.bytes more, frame_some is),
  subst (λ (o : Order). BrokenUnit o fault offset (unit.bytes ++ more)) ordered
      (subst (λ (n : ℕ). BrokenUnit unit.order fault n (unit.bytes ++ more)) at
      (broken_more unit.order fault unit.offset (is.format, is.body) unit.bytes more is.spelled b)),
)
fault_here {unit = unit} shown more (Run fault) is at ordered (shows, not_run) =
    (shows, unit.bytes, more, refl, subst (λ (o : Order). DoesNotRun o unit.bytes fault) ordered not_run)

faulty_unit : {order : Order} {offset : ℕ} {unit : BufferedUnit} (shown : DumpParts) (mid now : Option (List ℕ)) (fault : RowFault)
    → IsWholeUnit unit → unit.offset ≡ offset → unit.order ≡ order → Pulls mid now unit.bytes → IsFaultOf unit shown.rows fault
    → IfSome mid (λ rest. IsDumpFault order shown offset rest fault)
faulty_unit shown None now fault is at ordered pulls b = tt
faulty_unit shown (Some rest) None fault is at ordered pulls b = absurd pulls
faulty_unit {order} {offset} shown (Some rest) (Some more) fault is at ordered pulls b =
    subst (λ (z : List ℕ). IsDumpFault order shown offset z fault) (sym pulls)
    (fault_here shown more fault is at ordered b)

-- ---- the next unit

module _ {order : Order} {shown : DumpParts} {start mid now old then : Option (List ℕ)} {of_reader next_order : Order}
    {offset after : ℕ} {unit : BufferedUnit} {frame : Frame} (ordered : next_order ≡ of_reader)
    (done : UnitsPrinted order shown start mid old then of_reader offset) (n : IsNextFramed of_reader offset after mid now unit frame) where
  faulty : (fault : RowFault) → IsFaultOf unit shown.rows fault → IfSome mid (λ rest. IsDumpFault order shown offset rest fault)
  faulty fault is =
      faulty_unit shown mid now fault n.next.whole n.next.offset_is (n.next.order_is ∙ done.read.so_far.order_is) n.next.pulls is

  dumped : {parts : UnitParts} → UnitBytesIn unit.order parts unit.bytes → (IsTrue shown.rows → Runs parts)
      → AllByRecursion (IsDumpedUnit order shown) (done.units ++ (frame, parts) ∷ [])
  dumped {parts} spelled runs =
      all-append (IsDumpedUnit order shown) done.units (frame, parts) done.each (dumped_one done.units ordered done.read n spelled runs)

  -- it was printed
  pub units_more : {new : Option (List ℕ)} {status : Status} → IsUnitPrinted shown frame unit then new status → (status ≡ No → ⊥)
      → UnitsPrinted order shown start now old new next_order after
  units_more {new} {status} (one, status_is) goes_on = by_fault one.fault one.ends status_is
    where
      by_fault : (fault : Option RowFault) → UnitEnds shown frame unit fault one.text → status ≡ fault_status fault
          → UnitsPrinted order shown start now old new next_order after
      by_fault (Some fault) ends is = absurd (goes_on is)
      by_fault None (parts, spelled, runs, text_is) is = record {
        units = done.units ++ (frame, parts) ∷ [];
        read = read_unit done.units ordered done.read n parts;
        each = dumped spelled runs;
        printed = subst (Appends old new) (flat_push (unit_lines shown) done.units (frame, parts))
            (Appends-trans old then new (flat_map (unit_lines shown) done.units) (unit_lines shown (frame, parts)) done.printed
            (subst (Appends then new) text_is one.so));
      }

  -- it is faulty, and so the last one
  pub units_broken : {new : Option (List ℕ)} {status : Status} → IsUnitPrinted shown frame unit then new status → status ≡ No
      → IsDumped order shown start old new No
  units_broken {new} {status} (one, status_is) is_no = by_fault one.fault one.ends status_is
    where
      by_fault : (fault : Option RowFault) → UnitEnds shown frame unit fault one.text → status ≡ fault_status fault
          → IsDumped order shown start old new No
      by_fault None ends is = absurd (cc (is_no, is))
      by_fault (Some fault) ends is =
          ends_faulty done fault (faulty fault ends.0)
          (subst (λ (at : ℕ). Appends then new (fault_line at (Some fault))) n.next.offset_is
          (subst (Appends then new) ends.1 one.so))

  -- a prefix of it is written
  pub units_cut : {new : Option (List ℕ)} → Keeps then new ⊎ UnitBegun shown frame unit then new → IsDumpBegun order shown start old new
  units_cut (inl kept) = units_stopped done kept
  units_cut {new} (inr one) = by_fault one.fault one.ends
    where
      by_fault : (fault : Option RowFault) → UnitEnds shown frame unit fault one.text → IsDumpBegun order shown start old new
      by_fault (Some fault) ends =
          begun_faulty done fault (faulty fault ends.0)
          (subst (λ (at : ℕ). AppendsPrefix then new (fault_line at (Some fault))) n.next.offset_is
          (prefix_same then new one.text (fault_line unit.offset (Some fault)) ends.1 one.so))
      by_fault None (parts, spelled, runs, text_is) =
          let units = done.units ++ (frame, parts) ∷ [] in
          let before = flat_map (unit_lines shown) done.units in
          let lines = flat_map (unit_lines shown) units in
          record {
            units = units;
            offset = after;
            fault = None;
            so = begins order shown start now units next_order after (λ rest. Unit {0})
                (read_unit done.units ordered done.read n parts) (dumped spelled runs) (any_rest now);
            begun = prefix_before old new lines []
                (prefix_same old new (before ++ unit_lines shown (frame, parts)) lines
                (flat_push (unit_lines shown) done.units (frame, parts))
                (prefix_after old then new before (unit_lines shown (frame, parts)) done.printed
                (prefix_same then new one.text (unit_lines shown (frame, parts)) text_is one.so)));
          }
