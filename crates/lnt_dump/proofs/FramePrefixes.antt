-- Prefixes of the lines of a section's frames, of which some weren't read.
use Rattle.std.proofs.Common.{◌≡◌, ℕ, ◌+◌, List, [], ◌∷◌, ◌++◌, length, Option, Some, None, IfSome, Result, Ok, Err, OnErr, refl, sym, ap}
use Rattle.std.proofs.Common.{subst, ◌∙◌, append_assoc, append-nil, arith, length-append, flat_map}
use Rattle.std.proofs.lemmas.List.Concat.{flat_map-append}
use Rattle.lnt_io.specs.Prefixes.{AppendsPrefix, HasBegun}
use Rattle.lnt_io.proofs.PrefixLaws.{appends_known, prefix_after, prefix_all, prefix_before, prefix_same}
use Rattle.lnt_wire.specs.Reading.{At}
use Rattle.lnt_wire.specs.FrameBytes.{FramesFrom}
use Rattle.lnt_wire.specs.Frames.{AreFrames, EndsBy}
use Rattle.lnt_wire.specs.declared.fault.Fault.{Fault}
use Rattle.lnt_wire.specs.declared.format.Order.{Order}
use Rattle.lnt_wire.specs.declared.frame.Frame.{Frame}
use Rattle.lnt_unit.specs.Units.{SectionEndsBy, BufferedUnit}
use Rattle.lnt_io.specs.declared.io_stop.IoStop.{IoStop}
use Rattle.lnt_io.specs.declared.status.Status.{Status}
use Rattle.lnt_dump.specs.Units.{AreBytes, AreUnitsPrinted, end_line, fault_status, unit_line}
use Rattle.lnt_dump.proofs.Frames.{flat_push, FramesRead, FramesPrinted, frames_end, IsNextFramed, read_more}
use Rattle.lnt_dump.proofs.FramesAhead.{bytes_after, frames_ahead, frames_join}

-- How a section ends after these frames.
record RestOf (order : Order) (section : Option (List ℕ)) (frames : List Frame) : Type 0 where
  more : List Frame
  fault : Option Fault
  so : IfSome section (λ bytes. AreFrames order bytes (frames ++ more) fault)

rest_of : {order : Order} {frames : List Frame} {of_reader : Order} {offset : ℕ} (start now : Option (List ℕ))
    → FramesRead order start now frames of_reader offset → IfSome start AreBytes → RestOf order start frames
rest_of None now read are = record { more = []; fault = None; so = tt }
rest_of (Some bytes) None read are = absurd read.pulls
rest_of {order} {frames} {of_reader} {offset} (Some bytes) (Some rest) read are =
    let at : At = record { place = offset; rest = rest; order = of_reader } in
    let later = frames_ahead at (bytes_after read.prefix rest bytes read.pulls are) in
    let before = read.so_far in
    let place : offset + length later.prefix ≡ length (before.prefix ++ later.prefix) =
    omega (arith, before.place, length-append before.prefix later.prefix) in
    let Joined : Order → ℕ → Type 0 = λ (o : Order) (n : ℕ). FramesFrom o n later.frames later.prefix in
    let Ends : Order → ℕ → Type 0 = λ (o : Order) (n : ℕ). EndsBy (record { place = n; rest = later.rest; order = o }) later.fault in
    let start : offset ≡ 0 + length before.prefix = omega (arith, before.place) in
    let joined : Joined order (0 + length before.prefix) =
    subst (λ (o : Order). Joined o (0 + length before.prefix)) before.order_is
    (subst (λ (n : ℕ). Joined of_reader n) start later.joined) in
    record {
      more = later.frames;
      fault = later.fault;
      so = record {
        prefix = before.prefix ++ later.prefix;
        rest = later.rest;
        whole = read.pulls ∙ ap (λ (z : List ℕ). z ++ rest) (before.whole ∙ append-nil before.prefix)
            ∙ ap (λ (z : List ℕ). before.prefix ++ z) later.whole ∙ sym (append_assoc before.prefix later.prefix later.rest);
        joined = frames_join order 0 frames later.frames before.prefix later.prefix before.joined joined;
        ends = subst (λ (o : Order). Ends o (length (before.prefix ++ later.prefix))) before.order_is
            (subst (λ (n : ℕ). Ends of_reader n) place later.ends);
      };
    }

-- a prefix of the lines of these frames, where the section goes on so
lines_begun : {order : Order} {section old new : Option (List ℕ)} {frames : List Frame} → RestOf order section frames
    → AppendsPrefix old new (flat_map unit_line frames) → HasBegun (AreUnitsPrinted order section old) old new
lines_begun {order} {section} {old} {new} {frames} rest f =
    let before = flat_map unit_line frames in
    let later = flat_map unit_line rest.more in
    let end = end_line rest.fault in
    let text = flat_map unit_line (frames ++ rest.more) ++ end in
    let joined : before ++ (later ++ end) ≡ text =
    sym (append_assoc before later end) ∙ ap (λ (z : List ℕ). z ++ end) (sym (flat_map-append unit_line frames rest.more)) in
    record {
      whole = text;
      ending = fault_status rest.fault;
      is_end = record {
        frames = frames ++ rest.more;
        fault = rest.fault;
        so = rest.so;
        printed = appends_known old text;
        status_is = refl;
      };
      prefix = prefix_same old new (before ++ (later ++ end)) text joined (prefix_before old new before (later ++ end) f);
    }

-- nothing more is written
pub units_stopped : {order : Order} {start now old new : Option (List ℕ)} {of_reader : Order} {offset : ℕ}
    → FramesPrinted order start now old new of_reader offset → IfSome start AreBytes → HasBegun (AreUnitsPrinted order start old) old new
units_stopped {order} {start} {now} {old} {new} done are =
    lines_begun (rest_of start now done.read are)
    (prefix_all old new (flat_map unit_line done.frames) done.printed)

-- of the line of a unit a prefix is written
pub units_cut : {order : Order} {start mid now old then new : Option (List ℕ)} {of_reader next_order : Order} {offset after : ℕ}
    {unit : BufferedUnit} {frame : Frame} → next_order ≡ of_reader → FramesPrinted order start mid old then of_reader offset
    → IsNextFramed of_reader offset after mid now unit frame → AppendsPrefix then new (unit_line frame) → IfSome start AreBytes
    → HasBegun (AreUnitsPrinted order start old) old new
units_cut {start = start} {now = now} {old = old} {then = then} {new = new} {frame = frame} ordered done n f are =
    let before = flat_map unit_line done.frames in
    lines_begun (rest_of start now (read_more ordered done.read n) are)
    (prefix_same old new (before ++ unit_line frame) (flat_map unit_line (done.frames ++ frame ∷ []))
    (flat_push unit_line done.frames frame) (prefix_after old then new before (unit_line frame) done.printed f))

-- of the line of the fault
pub fault_cut : {order : Order} {start now old then : Option (List ℕ)} {of_reader : Order} {offset : ℕ} (new : Option (List ℕ))
    (fault : Fault) (printed : Result Status IoStop) → FramesPrinted order start now old then of_reader offset
    → SectionEndsBy offset of_reader now (Some fault) → OnErr printed (AppendsPrefix then new (end_line (Some fault)))
    → OnErr printed (IfSome start AreBytes → HasBegun (AreUnitsPrinted order start old) old new)
fault_cut new fault (Ok status) done ends f = tt
fault_cut {order} {start} {now} {old} {then} new fault (Err io_stop) done ends f =
    let before = flat_map unit_line done.frames in
    let end = end_line (Some fault) in
    λ are. record {
      whole = before ++ end;
      ending = fault_status (Some fault);
      is_end = record {
        frames = done.frames;
        fault = Some fault;
        so = frames_end start now (Some fault) done.read ends;
        printed = appends_known old (before ++ end);
        status_is = refl;
      };
      prefix = prefix_after old then new before end done.printed f;
    }
