-- The operands of an unknown standard operation, read one by one where they lie.
use Rattle.std.proofs.lemmas.Grind.{common_steps}
use Rattle.std.proofs.Common.{◌≡◌, ◌∙◌, ℕ, ◌<◌, List, [], ◌∷◌, ◌++◌, append-nil, append_assoc, ap, arith, length, refl, subst, sym, Result}
use Rattle.std.proofs.Common.{Ok, Err, OnOk, codes, decimal, false, is_err, true≢false, flat_map, length-append}
use Rattle.lnt_wire.specs.Reading.{At, Reads}
use Rattle.lnt_wire.specs.Bytes.{NoneSpelled}
use Rattle.lnt_wire.specs.Leb128.{UnsignedLeb}
use Rattle.lnt_wire.proofs.CodeLaws.{unsigned_code}
use Rattle.lnt_wire.proofs.LengthLaws.{same_rest}
use Rattle.lnt_header.specs.Joins.{Each}
use Rattle.lnt_header.specs.OpRules.{StandsFor, op_of}
use Rattle.lnt_header.specs.declared.op.Op.{Op}
use Rattle.lnt_header.specs.declared.op.Op.TheVariants as ops
use Rattle.lnt_header.specs.declared.op.OpView.{OpView}
use Rattle.lnt_header.specs.declared.op.OpView.TheVariants as views
use Rattle.lnt_ops.proofs.ViewLaws.{is_op_of, leb_is_some, operands_of}
use Rattle.hex.specs.Hex.{encode_lower}
use Rattle.lnt_dump.specs.Operations.{bytes_text, op_line, op_text, operand_text}
use Rattle.lnt_dump.specs.Stepping.{HasOperands}

has_those : (view : OpView) (done : Op) → StandsFor view done → HasOperands view (operands_of done)
has_those (views.UnknownStandard k operands) (ops.UnknownStandard j numbers) p = p.1
has_those (views.UnknownStandard k operands) op p = absurd p
has_those view op p = tt

-- what the view of an operation has
pub has_operands : (view : OpView) → ((done : Op) × StandsFor view done) → (numbers : List ℕ) × HasOperands view numbers
has_operands view (done, stands) = (operands_of done, has_those view done stands)

-- The text has some of the numbers that the bytes encode, each after a space, and the rest encodes the others.
abbrev pub AreLeft : List ℕ → List ℕ → List ℕ → List ℕ → Type 0
AreLeft bytes rest old text =
    (numbers : List ℕ) → Each UnsignedLeb numbers bytes → (left : List ℕ) × Each UnsignedLeb left rest
    × (old ++ flat_map operand_text numbers ≡ text ++ flat_map operand_text left)

pub left_none : (bytes rest text : List ℕ) → rest ≡ bytes → AreLeft bytes rest text text
left_none bytes rest text same numbers spelled = (numbers, subst (Each UnsignedLeb numbers) (sym same) spelled, refl)

one_there : (bytes left : List ℕ) → 0 < length bytes → Each UnsignedLeb left bytes → NoneSpelled UnsignedLeb bytes → ⊥
one_there bytes [] some none refused = omega (arith, some, ap length none)
one_there bytes (n ∷ numbers) some spelled refused = refused n spelled.prefix spelled.back spelled.first (sym spelled.joined)

-- where bytes are left, a number begins them
pub left_there : (bytes rest old text : List ℕ) → AreLeft bytes rest old text → ((numbers : List ℕ) × Each UnsignedLeb numbers bytes)
    → 0 < length rest → NoneSpelled UnsignedLeb rest → ⊥
left_there bytes rest old text are numbers some refused = grind (arith, common_steps, one_there)

one_less : (n : ℕ) (at new : At) (left old text text' numbers : List ℕ) → Each UnsignedLeb left at.rest → Reads UnsignedLeb n at new
    → text' ≡ text ++ operand_text n → old ++ flat_map operand_text numbers ≡ text ++ flat_map operand_text left
    → (others : List ℕ) × Each UnsignedLeb others new.rest
    × (old ++ flat_map operand_text numbers ≡ text' ++ flat_map operand_text others)
one_less n at new [] old text text' numbers none read here same =
    absurd (omega (
      arith,
      leb_is_some n read.spelling read.spelled,
      ap length (sym none ∙ read.whole),
      length-append read.spelling new.rest,
    ))
one_less n at new (m ∷ others) old text text' numbers spelled read here same =
    let both = sym spelled.joined ∙ read.whole in
    let found = unsigned_code.one m n spelled.prefix read.spelling spelled.back new.rest spelled.first read.spelled both in (
      others,
      subst (Each UnsignedLeb others) (same_rest spelled.prefix read.spelling spelled.back new.rest found.1 both) spelled.second,
      same ∙ ap (λ (k : ℕ). text ++ (operand_text k ++ flat_map operand_text others)) found.0
          ∙ sym (append_assoc text (operand_text n) (flat_map operand_text others))
          ∙ ap (λ (z : List ℕ). z ++ flat_map operand_text others) (sym here),
    )

-- a number that was read, and added
pub left_more : (bytes : List ℕ) (n : ℕ) (at new : At) (old text text' : List ℕ) → AreLeft bytes at.rest old text
    → Reads UnsignedLeb n at new → text' ≡ text ++ operand_text n → AreLeft bytes new.rest old text'
left_more bytes n at new old text text' are read here numbers spelled =
    let left = are numbers spelled in one_less n at new left.0 old text text' numbers left.1 read here left.2

-- and fewer of them
pub rest_shorter : (n : ℕ) (at new : At) → Reads UnsignedLeb n at new → length new.rest < length at.rest
rest_shorter n at new read = grind (arith, common_steps, leb_is_some, length-append)

none_left : (left rest old text numbers : List ℕ) → length rest ≡ 0 → Each UnsignedLeb left rest
    → old ++ flat_map operand_text numbers ≡ text ++ flat_map operand_text left → text ≡ old ++ flat_map operand_text numbers
none_left [] rest old text numbers empty spelled same = sym (same ∙ append-nil text)
none_left (n ∷ left) rest old text numbers empty spelled same = grind (arith, common_steps, length-append, leb_is_some)

-- all were added
pub left_all : (bytes rest old text : List ℕ) → AreLeft bytes rest old text → length rest ≡ 0
    → (numbers : List ℕ) → Each UnsignedLeb numbers bytes → text ≡ old ++ flat_map operand_text numbers
left_all bytes rest old text are empty numbers spelled = grind (arith, common_steps, none_left)

-- the line of an operation, in its parts
pub line_told : (view : OpView) (index : ℕ) (old named start middle new : List ℕ)
    → named ≡ old ++ (codes "op " ++ decimal index) → start ≡ named ++ (32 ∷ [])
    → ((numbers : List ℕ) → HasOperands view numbers → middle ≡ start ++ op_text (op_of view numbers))
    → new ≡ middle ++ (10 ∷ []) → (done : Op) → StandsFor view done → new ≡ old ++ op_line index done
line_told view index old named start middle new name space text last done stands =
    let here : middle ≡ start ++ op_text done =
    text (operands_of done) (has_those view done stands) ∙ ap (λ (op : Op). start ++ op_text op) (sym (is_op_of view done stands)) in
    grind (arith, common_steps, append_assoc)

-- ---- operands after what was added before them

-- the operands of an unknown standard operation
pub listed_told : {A E : Type 0} (result : Result A E) (listed : List ℕ) (opcode : ℕ) (old middle new : List ℕ)
    → middle ≡ old ++ (codes "unknown_standard " ++ decimal opcode) → OnOk result (new ≡ middle ++ flat_map operand_text listed)
    → OnOk result ((numbers : List ℕ) → listed ≡ numbers
    → new ≡ old ++ ((codes "unknown_standard " ++ decimal opcode) ++ flat_map operand_text numbers))
listed_told (Ok value) listed opcode old middle new before here = grind (arith, common_steps, append_assoc)
listed_told (Err error) listed opcode old middle new before here = here

pub spelled_told : {A E : Type 0} (result : Result A E) (bytes : List ℕ) (opcode : ℕ) (old middle new : List ℕ)
    → middle ≡ old ++ (codes "unknown_standard " ++ decimal opcode)
    → OnOk result ((numbers : List ℕ) → Each UnsignedLeb numbers bytes → new ≡ middle ++ flat_map operand_text numbers)
    → OnOk result ((numbers : List ℕ) → Each UnsignedLeb numbers bytes
    → new ≡ old ++ ((codes "unknown_standard " ++ decimal opcode) ++ flat_map operand_text numbers))
spelled_told (Ok value) bytes opcode old middle new before here = grind (arith, common_steps, append_assoc)
spelled_told (Err error) bytes opcode old middle new before here = here

-- the bytes of an unknown extended one
pub no_bytes_told : (bytes prefix old new : List ℕ) → length bytes ≡ 0 → new ≡ old ++ prefix → new ≡ old ++ (prefix ++ bytes_text bytes)
no_bytes_told [] prefix old new empty here = here ∙ ap (λ (z : List ℕ). old ++ z) (sym (append-nil prefix))
no_bytes_told (byte ∷ bytes) prefix old new empty here = absurd (omega (arith, empty))

pub bytes_told : (bytes prefix old middle spaced new : List ℕ) → 0 < length bytes → middle ≡ old ++ prefix → spaced ≡ middle ++ (32 ∷ [])
    → new ≡ spaced ++ encode_lower bytes → new ≡ old ++ (prefix ++ bytes_text bytes)
bytes_told [] prefix old middle spaced new some before space here = absurd (omega (arith, some))
bytes_told (byte ∷ bytes) prefix old middle spaced new some before space here = grind (arith, common_steps, append_assoc)

-- what holds where a call has no error
pub not_err : {A E : Type 0} (result : Result A E) (IsSo : Type 0) → is_err result ≡ false → OnOk result IsSo → IsSo
not_err (Ok value) IsSo fine so = so
not_err (Err error) IsSo fine so = absurd (true≢false fine)

-- The lemmas of `put_spelled`.
pub ruleset put_spelled_lemmas = (left_none, left_more, left_all, rest_shorter)
