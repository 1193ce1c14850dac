-- Whether a part is less than so many hundredths of a whole, by the quotient of the part and their number.
use Rattle.std.proofs.Common.{◌≡◌, ℕ, ◌+◌, ◌*◌, ◌/◌, ◌%◌, ◌<◌, ◌≤◌, Bool, true, false, nat_lt, MatchBool, sym, arith}
use Rattle.std.proofs.Math.Nat.{mod-lt, mul-le-mul_left, mul-le-mul_right}
use Rattle.std.proofs.lemmas.Bool.{le-ltb, lt-ltb}
use Rattle.std.proofs.lemmas.Nat.{div-add-mod'}

-- the least whole of which so many hundredths aren't more than the part
abbrev pub least_whole : ℕ → ℕ → ℕ
least_whole part hundredths = part / hundredths * 100 + part % hundredths * 100 / hundredths

pub less_than : (part whole hundredths : ℕ) → 0 < hundredths → least_whole part hundredths < whole → part * 100 < hundredths * whole
less_than part whole hundredths some lt =
    let one = div-add-mod' part hundredths in
    let other = div-add-mod' (part % hundredths * 100) hundredths in
    let below = mod-lt (part % hundredths * 100) some in
    let most = mul-le-mul_left hundredths lt in
    omega (arith, one, other, below, most)

pub not_less : (part whole hundredths : ℕ) → 0 < hundredths → whole ≤ least_whole part hundredths → hundredths * whole ≤ part * 100
not_less part whole hundredths some le =
    let one = div-add-mod' part hundredths in
    let other = div-add-mod' (part % hundredths * 100) hundredths in
    let most = mul-le-mul_left hundredths le in
    omega (arith, one, other, most)

-- as a test
pub few_is : (result : Bool) (part whole : ℕ) → MatchBool result (part < whole) (whole ≤ part) → result ≡ nat_lt part whole
few_is true part whole lt = sym (lt-ltb part whole lt)
few_is false part whole le = sym (le-ltb part whole le)

-- ---- laws

pub whole_is_enough : (at_least all : ℕ) → at_least ≤ 100 → nat_lt (all * 100) (at_least * all) ≡ false
whole_is_enough at_least all most =
    let le = mul-le-mul_right all most in
    le-ltb (all * 100) (at_least * all) (omega (arith, le))

pub nothing_is_enough : (answered all : ℕ) → nat_lt (answered * 100) (0 * all) ≡ false
nothing_is_enough answered all = le-ltb (answered * 100) (0 * all) (omega arith)
