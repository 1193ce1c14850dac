-- The bytes of a buffer are one frame, and all of it.
use Rattle.std.proofs.Common.{◌≡◌, ℕ, ◌+◌, ◌^◌, ◌<◌, List, [], ◌++◌, length, drop, sym, ap, subst, ◌∙◌, arith}
use Rattle.std.proofs.Math.Seq.{drop-append_seam}
use Rattle.std.proofs.lemmas.List.{length-append, append-nil, nil_from_length}
use Rattle.lnt_wire.specs.Reading.{At, Reads}
use Rattle.lnt_wire.specs.declared.format.Order.{Order}
use Rattle.lnt_wire.specs.declared.format.Format.{Format}
use Rattle.lnt_wire.specs.declared.format.Format.TheVariants.{D32, D64}
use Rattle.lnt_wire.specs.declared.frame.Frame.{Frame}
use Rattle.lnt_wire.specs.Numbers.{number_bytes}
use Rattle.lnt_wire.specs.FrameBytes.{initial_length, FrameBytes, IsFrame}
use Rattle.lnt_wire.proofs.LengthLaws.{length-number_bytes}
use Rattle.lnt_unit.specs.Spelled.{IsLeastSize}
use Rattle.lnt_unit.specs.Units.{IsSpelled, initial_size}

-- what follows an initial length
after_initial : (order : Order) (format : Format) (n : ℕ) (body : List ℕ)
    → drop (initial_size format) (initial_length format order n ++ body) ≡ body
after_initial order D32 n body = ap (λ (k : ℕ). drop k (number_bytes order 4 n ++ body)) (sym (length-number_bytes order 4 n))
    ∙ drop-append_seam (number_bytes order 4 n) body
after_initial order D64 n body =
    let head = number_bytes order 4 0xffffffff ++ number_bytes order 8 n in
    let size : 12 ≡ length head =
    omega (
      arith,
      length-append (number_bytes order 4 0xffffffff) (number_bytes order 8 n),
      length-number_bytes order 4 0xffffffff,
      length-number_bytes order 8 n,
    ) in
    ap (λ (k : ℕ). drop k (head ++ body)) size ∙ drop-append_seam head body

-- where no frame that begins with the bytes is shorter than they are, the frame that was read is all of them
whole_read : (order : Order) (frame : Frame) (old new : At) → Reads (IsFrame order) frame old new
    → IsLeastSize order old.rest (length old.rest) → FrameBytes order (frame.format, frame.body.now) old.rest
whole_read order frame old new r h =
    let least = h.least (frame.format, frame.body.now) r.spelling new.rest [] r.spelled.spelled (sym r.whole ∙ sym (append-nil old.rest)) in
    let none : new.rest ≡ [] = nil_from_length new.rest (omega (arith, least, ap length r.whole, length-append r.spelling new.rest)) in
    let all : old.rest ≡ r.spelling = r.whole ∙ ap (λ (z : List ℕ). r.spelling ++ z) none ∙ append-nil r.spelling in
    subst (λ (z : List ℕ). FrameBytes order (frame.format, frame.body.now) z) (sym all) r.spelled.spelled

pub spelled_whole : (order : Order) (frame : Frame) (old new : At) → Reads (IsFrame order) frame old new
    → IsLeastSize order old.rest (length old.rest) → old.place + length old.rest < 2 ^ 64 → IsSpelled old.place order frame.format old.rest
spelled_whole order frame old new r h room =
    let p = whole_read order frame old new r h in
    let body : frame.body.now ≡ drop (initial_size frame.format) old.rest =
    sym (after_initial order frame.format (length frame.body.now) frame.body.now) ∙ ap (drop (initial_size frame.format)) (sym p.joined) in
    record { spelled = subst (λ (z : List ℕ). FrameBytes order (frame.format, z) old.rest) body p; room = room }
