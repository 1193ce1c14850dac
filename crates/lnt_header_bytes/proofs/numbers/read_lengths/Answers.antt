use Rattle.std.proofs.Common.{◌≡◌, ◌-◌, ◌+◌, ◌<◌, ℕ, List, length, get_or, refl, arith, ap, subst, sym, ◌∙◌, rules}
use Rattle.lnt_header.specs.OpRules.{last_known}
use Rattle.lnt_header_bytes.proofs.HeaderReaders.{Agrees, refuses_length, cut_lengths, reads_lengths}
use Rattle.lnt_header_bytes.proofs.numbers.read_lengths.Goals as goal

pub returns-then-bytes-i-clause-err : goal.returns-then-bytes-i-clause-err
returns-then-bytes-i-clause-err c =
    let same = c.rest-bytes.ensures in
    let i = c.loop-opcode.opcode - 1 in
    let agrees : Agrees i c.args.cursor.now.rest = subst (λ (z : List ℕ). Agrees i z) same c.loop-opcode.invariant.1 in
    let low = c.loop-opcode.invariant.0 in
    refuses_length c.args.opcode_base i c.loop-opcode.opcode (get_or c.rest-bytes.result.now i 0) c.args.cursor.now _ agrees
    (omega (arith, low, c.loop-opcode-test.true, c.known_end-known.ensures.low))
    (omega (arith, low, c.loop-opcode-test.true, c.known_end-known.ensures.high)) (omega (arith, c.if-i-bytes.true, ap length same))
    (ap (λ (z : List ℕ). get_or z i 0) same) (λ e. c.if-bytes-i.true (e ∙ sym c.known_length.ensures))
    (omega (arith, low)) (ap (λ (p : ℕ). p + i) c.place-place.ensures.value) refl

pub returns-in-Err-clause-err : goal.returns-in-Err-clause-err
returns-in-Err-clause-err c =
    let same = c.rest-bytes.ensures in
    let i = c.loop-opcode.opcode - 1 in
    let agrees : Agrees i c.args.cursor.now.rest = subst (λ (z : List ℕ). Agrees i z) same c.loop-opcode.invariant.1 in
    let low = c.loop-opcode.invariant.0 in
    let all : i < last_known → c.args.opcode_base ≡ i + 1 = λ lt.
    let whole = c.known_end-known.ensures.whole (omega (arith, low, lt, c.loop-opcode-test.false)) in
    omega (arith, low, whole, c.loop-opcode-test.false, c.loop-opcode.auto.opcode-end) in
    cut_lengths c.args.opcode_base i c.args.cursor.now _ c.requires c.in-Err.ensures.err.reason.short agrees all
    (omega (arith, c.place-place.ensures.value, ap length same)) refl

pub returns-in-Ok-clause-ok : goal.returns-in-Ok-clause-ok
returns-in-Ok-clause-ok c = search (rules, refuses_length, cut_lengths, reads_lengths)
