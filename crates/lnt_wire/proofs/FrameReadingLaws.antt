-- The exits of the readers of a prefix and of a frame: a unit at the start of the bytes, and each reason why none is there.
use Rattle.std.proofs.Common.{◌≡◌, ◌≢◌, ◌^◌, ℕ, ◌+◌, ◌<◌, ◌≤◌, List, [], ◌++◌, length, refl, sym, ap, subst, ◌∙◌, append_assoc, arith}
use Rattle.std.proofs.lemmas.List.{length-append, append-nil}
use Rattle.lnt_wire.specs.Reading.{At, Refuses, RefusesField, Reads, IsCutShort, Fault, Reason}
use Rattle.lnt_wire.specs.Bytes.{TakenBytes}
use Rattle.lnt_wire.specs.declared.fault.Reason.TheVariants.{Truncated, VersionNotFive}
use Rattle.lnt_wire.specs.Numbers.{NumberBytes, number_bytes, Order, Format}
use Rattle.lnt_wire.specs.FrameBytes.{initial_length, InitialBytes, PrefixBytes, Prefix, ReadsPrefix, FrameBytes, IsFrame, Frame}
use Rattle.lnt_wire.specs.FrameFaults.{InFrame, IsCutFrame, IsFrameFault, IsInitialFault, IsPrefixFault}
use Rattle.lnt_wire.specs.FrameFaults.IsCutFrame.{no_wide_length, too_long}
use Rattle.lnt_wire.proofs.FrameLaws.{frame_prefix, no_frame, no_prefix}
use Rattle.lnt_wire.proofs.LengthLaws.{length-initial}
use Rattle.std.proofs.lemmas.Grind.{common_steps}

-- ---- a prefix

refuses_prefix : (old : At) (fault : Fault) (before from : List ℕ) → old.rest ≡ before ++ from → fault.place ≡ old.place + length before
    → IsPrefixFault old.order fault.reason before from → Refuses (IsPrefixFault old.order) (PrefixBytes old.order) old fault
refuses_prefix old fault before from split place h = grind (arith, common_steps, no_prefix)

initial_fault : (order : Order) (reason : Reason) (bytes : List ℕ) → IsInitialFault order reason bytes → IsPrefixFault order reason [] bytes
initial_fault order reason bytes h = grind (arith, common_steps)

-- no initial length is read
pub prefix_initial : (old : At) (fault : Fault) → fault.place ≡ old.place → IsInitialFault old.order fault.reason old.rest
    → Refuses (IsPrefixFault old.order) (PrefixBytes old.order) old fault
prefix_initial old fault place h =
    refuses_prefix old fault [] old.rest refl (place ∙ sym (omega arith)) (initial_fault old.order fault.reason old.rest h)

-- what was read of a unit up to its body
after_initial : (old ahead : At) (initial : Format × ℕ) → Reads (InitialBytes old.order) initial old ahead
    → old.rest ≡ initial_length initial.0 old.order initial.1 ++ ahead.rest
after_initial old ahead initial r = r.whole ∙ ap (λ (z : List ℕ). z ++ ahead.rest) r.spelled.spelled

-- the initial length counts more bytes than are left
pub prefix_long : (old ahead : At) (initial : Format × ℕ) (fault later : Fault) → Reads (InitialBytes old.order) initial old ahead
    → RefusesField (IsCutShort initial.1) (TakenBytes initial.1) ahead later
    → fault.place ≡ old.place → fault.reason ≡ Truncated → Refuses (IsPrefixFault old.order) (PrefixBytes old.order) old fault
prefix_long old ahead initial fault later r q place reason =
    let cut : IsCutFrame old.order old.rest =
    too_long initial.0 initial.1 ahead.rest r.spelled.fits (after_initial old ahead initial r) q.reason.short in
    prefix_initial old fault place (subst (λ (z : Reason). IsInitialFault old.order z old.rest) (sym reason) cut)

cut_version : (order : Order) (format : Format) (reason : Reason) (body before from : List ℕ) → 0 < length before → reason ≡ Truncated
    → length body < 2 → InFrame order format [] body before from → IsPrefixFault order reason before from
cut_version order format reason body before from some is short h = grind (arith, common_steps)

-- the unit, up to its body
in_frame : (old ahead new : At) (initial : Format × ℕ) (body : List ℕ) → Reads (InitialBytes old.order) initial old ahead
    → Reads (TakenBytes initial.1) body ahead new
    → InFrame old.order initial.0 [] body (initial_length initial.0 old.order initial.1) ahead.rest
in_frame old ahead new initial body r q = grind (arith, common_steps, append-nil)

-- the body has no version
pub prefix_short : (old ahead new : At) (initial : Format × ℕ) (body : List ℕ) (fault : Fault)
    → Reads (InitialBytes old.order) initial old ahead → Reads (TakenBytes initial.1) body ahead new
    → fault.place ≡ ahead.place → fault.reason ≡ Truncated → length body < 2
    → Refuses (IsPrefixFault old.order) (PrefixBytes old.order) old fault
prefix_short old ahead new initial body fault r q place reason short =
    let head = initial_length initial.0 old.order initial.1 in
    let some : 0 < length head = omega (arith, length-initial initial.0 old.order initial.1) in
    refuses_prefix old fault head ahead.rest (after_initial old ahead initial r)
    (place ∙ r.place ∙ ap (λ (z : List ℕ). old.place + length z) r.spelled.spelled)
    (cut_version old.order initial.0 fault.reason body head ahead.rest some reason short (in_frame old ahead new initial body r q))

-- a version is there
pub prefix_read : (old ahead new : At) (initial : Format × ℕ) (body : List ℕ) (prefix : Prefix)
    → Reads (InitialBytes old.order) initial old ahead → Reads (TakenBytes initial.1) body ahead new
    → prefix.format ≡ initial.0 → prefix.place ≡ ahead.place → prefix.body.now ≡ body → prefix.version < 2 ^ 16
    → body ≡ number_bytes old.order 2 prefix.version ++ prefix.past.now → ReadsPrefix prefix old new
prefix_read old ahead new initial body prefix r q format_is place body_is small joined =
    grind (arith, common_steps, append_assoc, length-append)

-- each exit of the reader
pub ruleset prefix_exits = (prefix_initial, prefix_long, prefix_short, prefix_read)

-- ---- a frame

-- where no unit stands, no frame does
pub refuses_frame : (old : At) (fault : Fault) → Refuses (IsPrefixFault old.order) (PrefixBytes old.order) old fault
    → Refuses (IsFrameFault old.order) (FrameBytes old.order) old fault
refuses_frame old fault r = grind (arith, common_steps, frame_prefix)

refuses_at : (old : At) (fault : Fault) (before from : List ℕ) → old.rest ≡ before ++ from → fault.place ≡ old.place + length before
    → IsFrameFault old.order fault.reason before from → Refuses (IsFrameFault old.order) (FrameBytes old.order) old fault
refuses_at old fault before from split place h = grind (arith, common_steps, no_frame)

-- the version isn't 5
pub refuses_version : (old new : At) (prefix : Prefix) (fault : Fault) → ReadsPrefix prefix old new → prefix.version ≢ 5
    → fault.place ≡ prefix.place → fault.reason ≡ VersionNotFive prefix.version
    → Refuses (IsFrameFault old.order) (FrameBytes old.order) old fault
refuses_version old new prefix fault r other there reason =
    let body = number_bytes old.order 2 prefix.version ++ prefix.past.now in
    let head = initial_length prefix.format old.order (length body) in
    refuses_at old fault head (body ++ new.rest)
    (r.read.whole ∙ ap (λ (z : List ℕ). z ++ new.rest) r.read.spelled.joined ∙ append_assoc head body new.rest)
    (omega (arith, there, r.end_is, r.read.place, ap length r.read.spelled.joined, ap length r.body_is, length-append head body))
    (rw reason (
      prefix.format,
      prefix.past.now,
      r.read.spelled.small,
      other,
      record {
        more = new.rest;
        fits = r.read.spelled.fits;
        before_is = sym (append-nil head);
        from_is = refl;
      },
    ))

-- it is 5
pub reads_frame : (old new : At) (prefix : Prefix) (frame : Frame) → ReadsPrefix prefix old new → prefix.version ≡ 5
    → frame.format ≡ prefix.format → frame.body.now ≡ prefix.body.now → frame.length ≡ length prefix.body.now
    → Reads (IsFrame old.order) frame old new
reads_frame old new prefix frame r five format_is body_is count = grind (arith, common_steps)

-- each exit of the reader
pub ruleset frame_exits = (refuses_frame, refuses_version, reads_frame)

-- ---- an initial length

-- an initial length of the 64-bit format that is cut after 0xffffffff
pub cut_wide : (old ahead : At) (first : ℕ) (later : Fault) → Reads (NumberBytes old.order 4) first old ahead → 0xffffffff ≤ first
    → RefusesField (IsCutShort 8) (NumberBytes ahead.order 8) ahead later
    → IsCutFrame old.order old.rest
cut_wide old ahead first later r high q =
    let is : first ≡ 0xffffffff = omega (arith, r.spelled.fits) in
    no_wide_length ahead.rest (r.whole
    ∙ ap (λ (z : List ℕ). z ++ ahead.rest) (r.spelled.spelled ∙ ap (number_bytes old.order 4) is)) q.reason.short
