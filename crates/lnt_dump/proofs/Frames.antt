-- The frames of a section, one after another, and their lines.
use Rattle.std.proofs.Common.{◌≡◌, ℕ, ◌+◌, List, [], ◌∷◌, ◌++◌, length, Option, Some, None, IfSome, Result, Ok, Err, IfOk, OnOk, refl, sym}
use Rattle.std.proofs.Common.{ap, subst, ◌∙◌, append-nil, flat_map, Bool, length-append, arith}
use Rattle.std.proofs.KnownBytes.{Appends-nil, Appends-trans}
use Rattle.std.proofs.lemmas.List.Concat.{flat_map-append}
use Rattle.std.specs.Io.KnownBytes.{Appends}
use Rattle.lnt_wire.specs.Reading.{At}
use Rattle.lnt_wire.specs.FrameBytes.{IsFrame, IsPlacedFrame, frame_bytes}
use Rattle.lnt_wire.specs.Frames.{AreFrames, EndsBy}
use Rattle.lnt_io.specs.Pulling.{Pulls}
use Rattle.lnt_wire.specs.declared.fault.Fault.{Fault}
use Rattle.lnt_wire.specs.declared.format.Order.{Order}
use Rattle.lnt_wire.specs.declared.frame.Frame.{Frame}
use Rattle.lnt_wire.proofs.FrameListLaws.{FramesSoFar, no_frames, one_more_frame}
use Rattle.lnt_io.specs.Stopping.{IsFoundTooLong}
use Rattle.lnt_io.proofs.PullLaws.{more_from_start, pulls_none, pulls_append}
use Rattle.lnt_unit.specs.Units.{IsNextUnit, SectionEndsBy, BufferedUnit}
use Rattle.lnt_io.specs.declared.io_stop.IoStop.{IoStop}
use Rattle.lnt_io.specs.declared.status.Status.{Status}
use Rattle.lnt_io.specs.declared.status.Status.TheVariants.{No}
use Rattle.lnt_dump.specs.Stepping.{IsNext}
use Rattle.lnt_dump.specs.declared.units.Next.{Next}
use Rattle.lnt_dump.specs.declared.units.Next.TheVariants.{Unit as NextUnit}
use Rattle.lnt_dump.specs.Units.{AreUnitsPrinted, end_line, fault_status, unit_line}

-- The source gave the bytes of these frames, and the next byte stands at the offset.
pub record FramesRead (order : Order) (start now : Option (List ℕ)) (frames : List Frame) (of_reader : Order) (offset : ℕ) : Type 0 where
  pub prefix : List ℕ
  pub so_far : FramesSoFar order prefix frames (record { place = offset; rest = []; order = of_reader })
  pub pulls : Pulls start now prefix

-- It gave those of some frames, and the frames' lines were printed.
pub record FramesPrinted (order : Order) (start now old new : Option (List ℕ)) (of_reader : Order) (offset : ℕ) : Type 0 where
  pub frames : List Frame
  pub read : FramesRead order start now frames of_reader offset
  pub printed : Appends old new (flat_map unit_line frames)

pub read_none : {order : Order} {start now : Option (List ℕ)} {of_reader : Order} {offset : ℕ} → of_reader ≡ order → offset ≡ 0
    → now ≡ start → FramesRead order start now [] of_reader offset
read_none {order} {start} {now} {of_reader} {offset} ordered at same = record {
  prefix = [];
  so_far = no_frames order [] (record { place = offset; rest = []; order = of_reader }) refl at ordered;
  pulls = subst (λ (o : Option (List ℕ)). Pulls start o []) (sym same) (pulls_none start);
}

pub frames_none : {order : Order} {start now old : Option (List ℕ)} {of_reader : Order} {offset : ℕ} → of_reader ≡ order → offset ≡ 0
    → now ≡ start → FramesPrinted order start now old old of_reader offset
frames_none {old = old} ordered at same = record { frames = []; read = read_none ordered at same; printed = Appends-nil old }

-- A source that is found too long after these frames has more bytes from the start than it may give.
pub long_since : {order : Order} {start now : Option (List ℕ)} {frames : List Frame} {of_reader : Order} {offset : ℕ} (found : Bool)
    (left before : ℕ) → FramesRead order start now frames of_reader offset → left + offset ≡ before → IsFoundTooLong found now left
    → IsFoundTooLong found start before
long_since {start = start} {now = now} {offset = offset} found left before read same long =
    let place : left + length read.prefix ≡ before =
    omega (arith, ap length read.so_far.whole, length-append read.so_far.prefix [], read.so_far.place, same) in
    record { is_found = long.is_found; more = more_from_start start now read.prefix before left read.pulls place long.more }

-- the frames of the bytes with one frame more
frames_push : {order : Order} {frames : List Frame} {frame : Frame} {prefix more : List ℕ} {of_reader : Order} {offset after : ℕ}
    → FramesSoFar order prefix frames (record { place = offset; rest = []; order = of_reader }) → frame.offset ≡ offset
    → IsFrame of_reader frame more → after ≡ offset + length more
    → FramesSoFar order (prefix ++ more) (frames ++ frame ∷ []) (record { place = after; rest = []; order = of_reader })
frames_push {order} {frames} {frame} {prefix} {more} {of_reader} {offset} {after} so_far here is at =
    let old : At = record { place = offset; rest = more; order = of_reader } in
    let new : At = record { place = after; rest = []; order = of_reader } in
    let whole : prefix ≡ so_far.prefix = so_far.whole ∙ append-nil so_far.prefix in
    one_more_frame order (prefix ++ more) frames frame old new
    (record {
      prefix = so_far.prefix;
      whole = ap (λ (z : List ℕ). z ++ more) whole;
      joined = so_far.joined;
      place = so_far.place;
      order_is = so_far.order_is;
    })
    (record { spelling = more; spelled = is; whole = sym (append-nil more); place = at; order = refl }) here

-- the lines with those of one item more
pub flat_push : {X : Type 0} (lines : X → List ℕ) (xs : List X) (x : X) → flat_map lines xs ++ lines x ≡ flat_map lines (xs ++ x ∷ [])
flat_push lines xs x =
    sym (flat_map-append lines xs (x ∷ []) ∙ ap (λ (z : List ℕ). flat_map lines xs ++ z) (append-nil (lines x)))

-- A unit that comes next, and its frame.
pub record IsNextFramed (of_reader : Order) (offset after : ℕ) (mid now : Option (List ℕ)) (unit : BufferedUnit) (frame : Frame) : Type 0
  where
    pub next : IsNextUnit offset of_reader mid now unit
    pub after_is : after ≡ offset + length unit.bytes
    pub offset_is : frame.offset ≡ unit.offset
    pub bytes_are : frame_bytes unit.order frame.format frame.body.now ≡ unit.bytes
    pub placed : IsPlacedFrame unit.order frame

pub next_framed : {of_reader : Order} {offset after : ℕ} {mid now : Option (List ℕ)} {comes : Next} {unit : BufferedUnit} {frame : Frame}
    → comes ≡ NextUnit unit → IsNext offset after of_reader mid now comes → frame.offset ≡ unit.offset
    → frame_bytes unit.order frame.format frame.body.now ≡ unit.bytes → IsPlacedFrame unit.order frame
    → IsNextFramed of_reader offset after mid now unit frame
next_framed {of_reader} {offset} {after} {mid} {now} is comes at bytes placed =
    let next = subst (IsNext offset after of_reader mid now) is comes in
    record { next = next.0; after_is = next.1; offset_is = at; bytes_are = bytes; placed = placed }

-- the frame of a unit that the source gave
pub read_more : {order : Order} {start mid now : Option (List ℕ)} {frames : List Frame} {of_reader next_order : Order} {offset after : ℕ}
    {unit : BufferedUnit} {frame : Frame} → next_order ≡ of_reader → FramesRead order start mid frames of_reader offset
    → IsNextFramed of_reader offset after mid now unit frame → FramesRead order start now (frames ++ frame ∷ []) next_order after
read_more {order} {start} {mid} {now} {frames} {of_reader} {next_order} {offset} {after} {unit} {frame} ordered read n =
    let is : IsFrame of_reader frame unit.bytes = subst (λ (o : Order). IsFrame o frame unit.bytes) n.next.order_is
    (subst (λ (z : List ℕ). IsFrame unit.order frame z) n.bytes_are n.placed.is) in
    subst (λ (o : Order). FramesRead order start now (frames ++ frame ∷ []) o after) (sym ordered) (record {
      prefix = read.prefix ++ unit.bytes;
      so_far = frames_push read.so_far (n.offset_is ∙ n.next.offset_is) is n.after_is;
      pulls = pulls_append start mid now read.prefix unit.bytes read.pulls n.next.pulls;
    })

-- and its line was printed
pub frames_more : {order : Order} {start mid now old then new : Option (List ℕ)} {of_reader next_order : Order} {offset after : ℕ}
    {unit : BufferedUnit} {frame : Frame} → next_order ≡ of_reader → FramesPrinted order start mid old then of_reader offset
    → IsNextFramed of_reader offset after mid now unit frame → Appends then new (unit_line frame)
    → FramesPrinted order start now old new next_order after
frames_more {old = old} {then = then} {new = new} {frame = frame} ordered done n printed = record {
  frames = done.frames ++ frame ∷ [];
  read = read_more ordered done.read n;
  printed = subst (Appends old new) (flat_push unit_line done.frames frame)
      (Appends-trans old then new (flat_map unit_line done.frames) (unit_line frame) done.printed printed);
}

pub frames_end : {order : Order} {frames : List Frame} {of_reader : Order} {offset : ℕ} (start now : Option (List ℕ)) (fault : Option Fault)
    → FramesRead order start now frames of_reader offset → SectionEndsBy offset of_reader now fault
    → IfSome start (λ bytes. AreFrames order bytes frames fault)
frames_end None now fault read ends = tt
frames_end (Some bytes) None fault read ends = absurd read.pulls
frames_end {of_reader = of_reader} (Some bytes) (Some rest) fault read ends =
    let so_far = read.so_far in
    record {
      prefix = so_far.prefix;
      rest = rest;
      whole = read.pulls ∙ ap (λ (z : List ℕ). z ++ rest) (so_far.whole ∙ append-nil so_far.prefix);
      joined = so_far.joined;
      ends =
          subst (λ (o : Order). EndsBy (record { place = length so_far.prefix; rest = rest; order = o }) fault) so_far.order_is
          (subst (λ (n : ℕ). EndsBy (record { place = n; rest = rest; order = of_reader }) fault) so_far.place ends);
    }

-- the section ends
pub frames_all : {order : Order} {start now old then new : Option (List ℕ)} {of_reader : Order} {offset : ℕ} {status : Status}
    (fault : Option Fault) → FramesPrinted order start now old then of_reader offset → SectionEndsBy offset of_reader now fault
    → Appends then new (end_line fault) → status ≡ fault_status fault → AreUnitsPrinted order start old new status
frames_all {order} {start} {now} {old} {then} {new} fault done ends printed ended = record {
  frames = done.frames;
  fault = fault;
  so = frames_end start now fault done.read ends;
  printed = Appends-trans old then new (flat_map unit_line done.frames) (end_line fault) done.printed printed;
  status_is = ended;
}

-- by the line of a fault, if it could be printed
pub frames_faulty : {order : Order} {start now old then : Option (List ℕ)} {of_reader : Order} {offset : ℕ} (new : Option (List ℕ))
    (fault : Fault) (printed : Result Status IoStop) → FramesPrinted order start now old then of_reader offset
    → SectionEndsBy offset of_reader now (Some fault) → IfOk printed (λ status. status ≡ No)
    → OnOk printed (Appends then new (end_line (Some fault))) → IfOk printed (λ status. AreUnitsPrinted order start old new status)
frames_faulty new fault (Ok status) done ends refused line =
    frames_all (Some fault) done ends line refused
frames_faulty new fault (Err io_stop) done ends refused line = line
