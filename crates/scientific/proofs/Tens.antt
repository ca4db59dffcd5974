-- Powers of ten.
use Rattle.std.proofs.Common.{◌≡◌, ℕ, suc, ◌+◌, ◌-◌, ◌*◌, ◌^◌, ◌<◌, ◌≤◌, sym, ap, ◌∙◌, lt_of_lt_of_le, lt_irrefl, mul_assoc, arith, lit<, lit≤, pow-add}
use native.Mathlib.Nat.{pow-le-pow_right}
use native.Mathlib.Decide.{dec_le}
use Rattle.integers.proofs.Naturals.{some_power}
use Rattle.scientific.specs.Forms.{size_of}

-- the radix
pub ten : 2 ≤ 10
ten = lit≤ tt

pub tens : (i j : ℕ) → i ≤ j → 10 ^ i ≤ 10 ^ j
tens i j h = pow-le-pow_right (lit< tt) h

pub some_ten : (k : ℕ) → 0 < 10 ^ k
some_ten k = some_power 10 k (lit< tt)

-- powers in order have exponents in order
pub below : (i j : ℕ) → 10 ^ i < 10 ^ j → i < j
below i j h = go (dec_le (suc i) j)
  where
    go : Dec (suc i ≤ j) → i < j
    go (yes l) = l
    go (no l) = absurd (lt_irrefl (10 ^ i) (lt_of_lt_of_le h (tens j i (omega arith))))

pub joined : (i j k : ℕ) → i + j ≡ k → 10 ^ i * 10 ^ j ≡ 10 ^ k
joined i j k e = sym (pow-add 10 i j) ∙ ap (λ (x : ℕ). 10 ^ x) e

-- s · 10^x with z more zeros, where x and z make zeros
pub moved : (n x z zeros : ℕ) → x + z ≡ zeros → size_of (n * 10 ^ x) z ≡ size_of n zeros
moved n x z zeros e = mul_assoc n (10 ^ x) (10 ^ z) ∙ ap (λ (y : ℕ). n * y) (joined x z zeros e)

-- with four to eight digits
pub at_least_1000 : (d : ℕ) → 4 ≤ d → 1000 ≤ 10 ^ (d - 1)
at_least_1000 d h = tens 3 (d - 1) (omega arith)

pub at_most_10000000 : (d : ℕ) → d ≤ 8 → 10 ^ (d - 1) ≤ 10000000
at_most_10000000 d h = tens (d - 1) 7 (omega arith)

pub at_most_eight : (d : ℕ) → d ≤ 8 → 10 ^ d ≤ 100000000
at_most_eight d h = tens d 8 h
