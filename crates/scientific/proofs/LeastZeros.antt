-- The zeros that a number is written with: the least k for which its size is below 10^d · 10^k, and no other number is that.
use Rattle.std.proofs.Common.{◌≡◌, ℕ, suc, ◌*◌, ◌^◌, ◌<◌, ◌≤◌, ℤ, nat_abs, mul-le-mul_right, mul-le-mul_left, arith, lit≤}
use native.Mathlib.Decide.{dec_le}
use Rattle.integers.proofs.Naturals.{before}
use Rattle.rounding.proofs.Rounded.{exponent_is, below_power}
use Rattle.scientific.specs.Patterns.{zeros}
use Rattle.scientific.proofs.Tens.{tens, some_ten}

pub record Least (d n k : ℕ) : Type 0 where
  pub under : n < 10 ^ d * 10 ^ k
  pub least : (j : ℕ) → k ≡ suc j → 10 ^ d * 10 ^ j ≤ n

pub zeros_least : (d : ℕ) (z : ℤ) → Least d (nat_abs z) (zeros d z)
unfolding zeros
zeros_least d z = let x = exponent_is 10 (nat_abs z) (nat_abs z) (10 ^ d) (enough (10 ^ d) (10 ^ nat_abs z) (some_ten d) (below_power 10 (nat_abs z) (lit≤ tt))) in
    record { under = x.0; least = x.1 }
  where
    enough : (l b : ℕ) → 0 < l → nat_abs z < b → nat_abs z < l * b
    enough l b k q = omega (arith, mul-le-mul_right b k)

pub no_more : (d n k k' : ℕ) → Least d n k → n < 10 ^ d * 10 ^ k' → k ≤ k'
no_more d n k k' a h = go (dec_le k k')
  where
    go : Dec (k ≤ k') → k ≤ k'
    go (yes l) = l
    go (no l) = let j = before k (omega arith) in absurd (clash n _ _ (a.least j.0 j.1) h (mul-le-mul_left (10 ^ d) (tens k' j.0 (omega (arith, j.1)))))
      where
        clash : (n x y : ℕ) → x ≤ n → n < y → y ≤ x → ⊥
        clash n x y p q r = omega arith

least_one : (d n k k' : ℕ) → Least d n k → Least d n k' → k ≡ k'
least_one d n k k' a b = omega (arith, no_more d n k k' a b.under, no_more d n k' k b a.under)

pub zeros_is : (d : ℕ) (z : ℤ) (k : ℕ) → Least d (nat_abs z) k → zeros d z ≡ k
zeros_is d z k h = least_one d (nat_abs z) (zeros d z) k (zeros_least d z) h
