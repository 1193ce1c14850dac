-- The frames of bytes that nobody has read. Any bytes begin with a frame, or have a fault for which none begins them; so they are
-- frames up to their end or up to a fault.
use Rattle.std.proofs.lemmas.Grind.{common_steps}
use Rattle.std.proofs.Common.{◌≡◌, ◌⊎◌, ℕ, zero, suc, ◌+◌, ◌^◌, ◌<◌, ◌≤◌, List, [], ◌∷◌, ◌++◌, length, take, drop, Option, Some, None, refl}
use Rattle.std.proofs.Common.{sym, ap, subst, ◌∙◌, append_assoc, take-append-drop, arith, inl, inr, Bor}
use Rattle.std.proofs.lemmas.Bool.{cases_eq, cases_lt}
use Rattle.std.proofs.lemmas.List.{length-append, length-take-le, nil_from_length}
use Rattle.std.proofs.lemmas.List.Elements.{All-head, All-tail, All-take}
use Rattle.lnt_wire.specs.Reading.{At, Reads, Refuses}
use Rattle.lnt_wire.specs.Bytes.{TakenBytes}
use Rattle.lnt_wire.specs.FrameBytes.{FrameBytes, FramesFrom, IsFrame, initial_length, InitialBytes, ReadsPrefix}
use Rattle.lnt_wire.specs.FrameFaults.{IsFrameFault, IsInitialFault}
use Rattle.lnt_wire.specs.FrameFaults.IsCutFrame.{no_length, no_wide_length, too_long}
use Rattle.lnt_wire.specs.Frames.{EndsBy}
use Rattle.lnt_wire.specs.Numbers.{NumberBytes, number_bytes}
use Rattle.lnt_wire.specs.declared.fault.Fault.{Fault}
use Rattle.lnt_wire.specs.declared.fault.Reason.{Reason}
use Rattle.lnt_wire.specs.declared.fault.Reason.TheVariants.{ReservedLength, Truncated, VersionNotFive}
use Rattle.lnt_wire.specs.declared.format.Format.{Format}
use Rattle.lnt_wire.specs.declared.format.Format.TheVariants.{D32, D64}
use Rattle.lnt_wire.specs.declared.format.Order.{Order}
use Rattle.lnt_wire.specs.declared.frame.Frame.{Frame}
use Rattle.lnt_wire.specs.declared.prefix.Prefix.{Prefix}
use Rattle.lnt_wire.proofs.FrameReadingLaws.{prefix_initial, prefix_read, prefix_short, reads_frame, refuses_frame, refuses_version}
use Rattle.lnt_wire.proofs.FrameListLaws.{frame_long}
use Rattle.lnt_wire.proofs.NumberLaws.{AreBytes as AreItems, number_in, number_read_2, number_read_4, number_read_8}
use Rattle.lnt_dump.specs.Units.{AreBytes}

-- ---- bytes

items : (bytes : List ℕ) → AreBytes bytes → AreItems bytes
items [] are i = omega arith
items (b ∷ bytes) are zero = All-head (λ (x : ℕ). x < 256) b bytes are
items (b ∷ bytes) are (suc i) = items bytes (All-tail (λ (x : ℕ). x < 256) b bytes are) i

first_items : (count : ℕ) (bytes : List ℕ) → AreBytes bytes → AreItems (take count bytes)
first_items count bytes are = items (take count bytes) (All-take (λ (x : ℕ). x < 256) count bytes are)

-- the bytes after others
pub bytes_after : (prefix rest bytes : List ℕ) → bytes ≡ prefix ++ rest → AreBytes bytes → AreBytes rest
bytes_after [] rest bytes same are = subst AreBytes same are
bytes_after (b ∷ prefix) rest bytes same are =
    bytes_after prefix rest (prefix ++ rest) refl (All-tail (λ (x : ℕ). x < 256) b (prefix ++ rest) (subst AreBytes same are))

-- ---- reads

-- past so many bytes
past : ℕ → At → At
past count at = record { place = at.place + count; rest = drop count at.rest; order = at.order }

reads_prefix : {X : Type 0} (Spells : X → List ℕ → Type 0) (v : X) (count : ℕ) (at : At) → count ≤ length at.rest
    → Spells v (take count at.rest) → Reads Spells v at (past count at)
unfolding past
reads_prefix Spells v count at le spelled = record {
  spelling = take count at.rest;
  spelled = spelled;
  whole = sym (take-append-drop count at.rest);
  place = ap (λ (n : ℕ). at.place + n) (sym (length-take-le count at.rest le));
  order = refl;
}

-- A number of this width stands there.
record NumberAhead (size : ℕ) (at : At) : Type 0 where
  number : ℕ
  read : Reads (NumberBytes at.order size) number at (past size at)

number_ahead : (size : ℕ) (at : At)
    → ((order : Order) (n : ℕ) (bytes : List ℕ) → length bytes ≡ size → AreItems bytes → n ≡ number_in order size bytes
    → NumberBytes order size n bytes) → AreBytes at.rest → size ≤ length at.rest → NumberAhead size at
number_ahead size at spells are le =
    let bytes = take size at.rest in
    let n = number_in at.order size bytes in
    let spelled = spells at.order n bytes (length-take-le size at.rest le) (first_items size at.rest are) refl in
    record { number = n; read = reads_prefix (NumberBytes at.order size) n size at le spelled }

-- ---- the initial length

record InitialAhead (at : At) : Type 0 where
  initial : Format × ℕ
  ahead : At
  read : Reads (InitialBytes at.order) initial at ahead

abbrev NoInitial : At → Type 0
NoInitial at = (reason : Reason) × IsInitialFault at.order reason at.rest

narrow : (at : At) → (n : NumberAhead 4 at) → n.number < 0xfffffff0 → InitialAhead at
narrow at n low = record {
  initial = (D32, n.number);
  ahead = past 4 at;
  read = record {
    spelling = n.read.spelling;
    spelled = record { fits = low; spelled = n.read.spelled.spelled };
    whole = n.read.whole;
    place = n.read.place;
    order = n.read.order;
  };
}

reserved : (at : At) → (n : NumberAhead 4 at) → 0xfffffff0 ≤ n.number → n.number < 0xffffffff → NoInitial at
reserved at n low high =
    let joined = n.read.whole ∙ ap (λ (z : List ℕ). z ++ (past 4 at).rest) n.read.spelled.spelled in
    (ReservedLength, record { n = n.number; rest = (past 4 at).rest; low = low; high = high; joined = joined })

wide : (at ahead new : At) (first second : ℕ) → Reads (NumberBytes at.order 4) first at ahead → 0xffffffff ≤ first
    → Reads (NumberBytes ahead.order 8) second ahead new → InitialAhead at
wide at ahead new first second r high q =
    let is : first ≡ 0xffffffff = omega (arith, r.spelled.fits) in
    let start : r.spelling ≡ number_bytes at.order 4 0xffffffff = r.spelled.spelled ∙ ap (number_bytes at.order 4) is in
    let end : q.spelling ≡ number_bytes at.order 8 second =
    q.spelled.spelled ∙ ap (λ (o : Order). number_bytes o 8 second) r.order in
    record {
      initial = (D64, second);
      ahead = new;
      read = record {
        spelling = r.spelling ++ q.spelling;
        spelled = record {
          fits = omega (arith, q.spelled.fits);
          spelled = ap (λ (z : List ℕ). z ++ q.spelling) start ∙ ap (λ (z : List ℕ). number_bytes at.order 4 0xffffffff ++ z) end;
        };
        whole = r.whole ∙ ap (λ (z : List ℕ). r.spelling ++ z) q.whole ∙ sym (append_assoc r.spelling q.spelling new.rest);
        place = omega (arith, q.place, r.place, length-append r.spelling q.spelling);
        order = q.order ∙ r.order;
      };
    }

cut : (at ahead : At) (first : ℕ) → Reads (NumberBytes at.order 4) first at ahead → 0xffffffff ≤ first → length ahead.rest < 8
    → NoInitial at
cut at ahead first r high short =
    let is : first ≡ 0xffffffff = omega (arith, r.spelled.fits) in
    let whole : at.rest ≡ number_bytes at.order 4 0xffffffff ++ ahead.rest =
    r.whole ∙ ap (λ (z : List ℕ). z ++ ahead.rest) (r.spelled.spelled ∙ ap (number_bytes at.order 4) is) in
    (Truncated, no_wide_length ahead.rest whole short)

wide_ahead : (at : At) → (n : NumberAhead 4 at) → 0xffffffff ≤ n.number → AreBytes (past 4 at).rest → InitialAhead at ⊎ NoInitial at
wide_ahead at n high are = elim (cases_lt (length (past 4 at).rest) 8) [
  | inl short ↦ inr (cut at (past 4 at) n.number n.read high short)
  | inr le ↦ let m = number_ahead 8 (past 4 at) number_read_8 are le in
      inl (wide at (past 4 at) (past 8 (past 4 at)) n.number m.number n.read high m.read)
]

long_ahead : (at : At) → (n : NumberAhead 4 at) → AreBytes (past 4 at).rest → InitialAhead at ⊎ NoInitial at
long_ahead at n are = elim (cases_lt n.number 0xfffffff0) [
  | inl low ↦ inl (narrow at n low)
  | inr low ↦ elim (cases_lt n.number 0xffffffff) [
    | inl high ↦ inr (reserved at n low high)
    | inr high ↦ wide_ahead at n high are
  ]
]

initial_ahead : (at : At) → AreBytes at.rest → InitialAhead at ⊎ NoInitial at
initial_ahead at are = elim (cases_lt (length at.rest) 4) [
  | inl short ↦ inr (Truncated, no_length short)
  | inr le ↦ let n = number_ahead 4 at number_read_4 are le in
      long_ahead at n (bytes_after n.read.spelling (past 4 at).rest at.rest n.read.whole are)
]

-- ---- the version

-- A version stands there.
record VersionAhead (order : Order) (body : List ℕ) : Type 0 where
  version : ℕ
  past : List ℕ
  small : version < 2 ^ 16
  joined : body ≡ number_bytes order 2 version ++ past

version_ahead : (order : Order) (body : List ℕ) → AreBytes body → 2 ≤ length body → VersionAhead order body
version_ahead order body are le =
    let bytes = take 2 body in
    let n = number_in order 2 bytes in
    let is = number_read_2 order n bytes (length-take-le 2 body le) (first_items 2 body are) refl in
    record {
      version = n;
      past = drop 2 body;
      small = omega (arith, is.fits);
      joined = sym (take-append-drop 2 body) ∙ ap (λ (z : List ℕ). z ++ drop 2 body) is.spelled;
    }

-- ---- a frame

record FrameAhead (at : At) : Type 0 where
  frame : Frame
  next : At
  offset_is : frame.offset ≡ at.place
  read : Reads (IsFrame at.order) frame at next

record NoFrame (at : At) : Type 0 where
  fault : Fault
  refused : Refuses (IsFrameFault at.order) (FrameBytes at.order) at fault

-- no initial length is there
no_initial : (at : At) → NoInitial at → NoFrame at
no_initial at (reason, so) =
    let fault : Fault = record { place = at.place; reason = reason } in
    record { fault = fault; refused = refuses_frame at fault (prefix_initial at fault refl so) }

-- it counts more bytes than are left
long_initial : (at : At) → (i : InitialAhead at) → length i.ahead.rest < i.initial.1 → NoFrame at
long_initial at i short =
    let whole : at.rest ≡ initial_length i.initial.0 at.order i.initial.1 ++ i.ahead.rest =
    i.read.whole ∙ ap (λ (z : List ℕ). z ++ i.ahead.rest) i.read.spelled.spelled in
    no_initial at (Truncated, too_long i.initial.0 i.initial.1 i.ahead.rest i.read.spelled.fits whole short)

body_read : (at : At) (count : ℕ) → count ≤ length at.rest → Reads (TakenBytes count) (take count at.rest) at (past count at)
body_read at count le =
    reads_prefix (TakenBytes count) (take count at.rest) count at le
    (record { count_is = length-take-le count at.rest le; taken_is = refl })

frame_of : ℕ → Format × ℕ → List ℕ → Frame
frame_of place initial body =
    let bytes : Bor (List ℕ) = record { ref_ptr = (0, 0); now = body } in
    record { offset = place; format = initial.0; length = initial.1; body = bytes }

prefix_of : Format → ℕ → (order : Order) (body : List ℕ) → VersionAhead order body → Prefix
prefix_of format place order body v =
    let all : Bor (List ℕ) = record { ref_ptr = (0, 0); now = body } in
    let later : Bor (List ℕ) = record { ref_ptr = (0, 0); now = v.past } in
    record { format = format; version = v.version; place = place; body = all; past = later }

short_body : (at : At) → (i : InitialAhead at) → i.initial.1 ≤ length i.ahead.rest → length (take i.initial.1 i.ahead.rest) < 2
    → NoFrame at
short_body at i le short =
    let count = i.initial.1 in
    let fault : Fault = record { place = i.ahead.place; reason = Truncated } in
    record {
      fault = fault;
      refused = refuses_frame at fault (prefix_short at i.ahead (past count i.ahead) i.initial (take count i.ahead.rest) fault i.read
          (body_read i.ahead count le) refl refl short);
    }

whole_body : (at : At) → (i : InitialAhead at) → i.initial.1 ≤ length i.ahead.rest
    → VersionAhead at.order (take i.initial.1 i.ahead.rest) → FrameAhead at ⊎ NoFrame at
unfolding frame_of prefix_of
whole_body at i le v =
    let count = i.initial.1 in
    let body = take count i.ahead.rest in
    let next = past count i.ahead in
    let prefix = prefix_of i.initial.0 i.ahead.place at.order body v in
    let r : ReadsPrefix prefix at next = prefix_read at i.ahead next i.initial body prefix i.read (body_read i.ahead count le)
    refl refl refl v.small v.joined in
    elim (cases_eq v.version 5) [
      | inl five ↦
          let frame = frame_of at.place i.initial body in
          let size : frame.length ≡ length body = sym (length-take-le count i.ahead.rest le) in
          inl (record {
            frame = frame;
            next = next;
            offset_is = refl;
            read = reads_frame at next prefix frame r five refl refl size;
          })
      | inr other ↦
          let fault : Fault = record { place = i.ahead.place; reason = VersionNotFive v.version } in
          inr (record { fault = fault; refused = refuses_version at next prefix fault r other refl refl })
    ]

frame_ahead : (at : At) → AreBytes at.rest → FrameAhead at ⊎ NoFrame at
frame_ahead at are = elim (initial_ahead at are) [
  | inl i ↦ elim (cases_lt (length i.ahead.rest) i.initial.1) [
    | inl short ↦ inr (long_initial at i short)
    | inr le ↦
        let later = bytes_after i.read.spelling i.ahead.rest at.rest i.read.whole are in
        let body = All-take (λ (x : ℕ). x < 256) i.initial.1 i.ahead.rest later in
        elim (cases_lt (length (take i.initial.1 i.ahead.rest)) 2) [
          | inl short ↦ inr (short_body at i le short)
          | inr some ↦ whole_body at i le (version_ahead at.order (take i.initial.1 i.ahead.rest) body some)
        ]
  ]
  | inr n ↦ inr (no_initial at n)
]

-- ---- all frames

-- The frames from a cursor on, and how they end.
pub record FramesAhead (at : At) : Type 0 where
  pub frames : List Frame
  pub fault : Option Fault
  pub prefix : List ℕ
  pub rest : List ℕ
  pub whole : at.rest ≡ prefix ++ rest
  pub joined : FramesFrom at.order at.place frames prefix
  pub ends : EndsBy (record { place = at.place + length prefix; rest = rest; order = at.order }) fault

none_ahead : (at : At) → at.rest ≡ [] → FramesAhead at
none_ahead at empty = record { frames = []; fault = None; prefix = []; rest = at.rest; whole = refl; joined = refl; ends = empty }

fault_ahead : (at : At) → 0 < length at.rest → NoFrame at → FramesAhead at
fault_ahead at some n =
    let here : at.place ≡ at.place + length {A = ℕ} [] = omega arith in
    record {
      frames = [];
      fault = Some n.fault;
      prefix = [];
      rest = at.rest;
      whole = refl;
      joined = refl;
      ends = subst (λ (p : ℕ). EndsBy (record { place = p; rest = at.rest; order = at.order }) (Some n.fault)) here (some, n.refused);
    }

one_ahead : (at : At) → (f : FrameAhead at) → FramesAhead f.next → FramesAhead at
one_ahead at f later =
    let r = f.read in
    let IsJoined : Order → ℕ → Type 0 = λ (o : Order) (p : ℕ). FramesFrom o p later.frames later.prefix in
    let Ends : Order → ℕ → Type 0 = λ (o : Order) (p : ℕ). EndsBy (record { place = p; rest = later.rest; order = o }) later.fault in
    let place : f.next.place + length later.prefix ≡ at.place + length (r.spelling ++ later.prefix) =
    omega (arith, r.place, length-append r.spelling later.prefix) in
    let joined : IsJoined at.order (at.place + length r.spelling) =
    subst (λ (o : Order). IsJoined o (at.place + length r.spelling)) r.order
    (subst (λ (p : ℕ). IsJoined f.next.order p) r.place later.joined) in
    record {
      frames = f.frame ∷ later.frames;
      fault = later.fault;
      prefix = r.spelling ++ later.prefix;
      rest = later.rest;
      whole = r.whole ∙ ap (λ (z : List ℕ). r.spelling ++ z) later.whole ∙ sym (append_assoc r.spelling later.prefix later.rest);
      joined = (r.spelling, later.prefix, refl, f.offset_is, r.spelled, joined);
      ends = subst (λ (o : Order). Ends o (at.place + length (r.spelling ++ later.prefix))) r.order
          (subst (λ (p : ℕ). Ends f.next.order p) place later.ends);
    }

frames_within : (most : ℕ) (at : At) → length at.rest ≤ most → AreBytes at.rest → FramesAhead at
frames_within zero at le are = none_ahead at (nil_from_length at.rest (omega arith))
frames_within (suc most) at le are = elim (cases_lt 0 (length at.rest)) [
  | inr none ↦ none_ahead at (nil_from_length at.rest (omega arith))
  | inl some ↦ elim (frame_ahead at are) [
    | inr n ↦ fault_ahead at some n
    | inl f ↦
        let r = f.read in
        let fewer : length f.next.rest ≤ most = omega (arith, frame_long at.order f.frame at f.next r) in
        one_ahead at f (frames_within most f.next fewer (bytes_after r.spelling f.next.rest at.rest r.whole are))
  ]
]

pub frames_ahead : (at : At) → AreBytes at.rest → FramesAhead at
frames_ahead at are = frames_within (length at.rest) at (omega arith) are

-- frames, and frames after them
pub frames_join : (order : Order) (offset : ℕ) (frames more : List Frame) (prefix back : List ℕ) → FramesFrom order offset frames prefix
    → FramesFrom order (offset + length prefix) more back → FramesFrom order offset (frames ++ more) (prefix ++ back)
frames_join order offset [] more prefix back p q = grind (arith, common_steps)
frames_join order offset (frame ∷ frames) more prefix back (a, b, whole, at, spelled, later) q =
    grind (arith, common_steps, length-append, append_assoc, frames_join order (offset + length a) frames more b back later)
