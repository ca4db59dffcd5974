-- An even significand at the exponent e of the exact value is an even M in the one form. With k zeros in the one form: where k is
-- at most e, M is that significand with e − k zeros behind it. Otherwise the rounding reaches 10^d · 10^e, which it cannot pass,
-- and M is 10^(d−1).
use Rattle.std.proofs.Common.{◌≡◌, ℕ, suc, ◌+◌, ◌-◌, ◌*◌, ◌/◌, ◌%◌, ◌^◌, ◌<◌, ◌≤◌, ℤ, pos, nat_abs, sym, refl, ap, ◌∙◌, le_trans, le_refl, le_of_lt, mul-le-mul_right, le_antisymm, mul-le-mul_left, arith, lit≤}
use native.Mathlib.Decide.{dec_le}
use Rattle.integers.proofs.Integers.{abs_mul}
use Rattle.integers.proofs.Naturals.{cancel, before}
use Rattle.rounding.specs.Radix.{rounding, rounded}
use Rattle.rounding.specs.Laws.{EvenSignificand, NearestEven}
use Rattle.rounding.proofs.Rounded.{rounds, rounds_mono, stays}
use Rattle.rounding.proofs.Signs.{abs_rounding}
use Rattle.scientific.specs.Patterns.{zeros, written, meaning}
use Rattle.scientific.specs.Ties.{TiesToEvenM}
use Rattle.scientific.proofs.Tens.{tens, some_ten, joined}
use Rattle.scientific.proofs.LeastZeros.{zeros_least}
use Rattle.scientific.proofs.NumberOf.{law}
use Rattle.scientific.proofs.OneWritten.{shape}

-- what is below 10^d · 10^e rounds to no more
no_more : (d N n e : ℕ) → 1 ≤ d → 0 < n → N < n * 10 ^ d * 10 ^ e → rounded 10 d N n ≤ 10 ^ d * 10 ^ e
no_more d N n e h l k = rw (stays 10 d (lit≤ tt) h (10 ^ d) e n l (le_refl (10 ^ d))) at (rounds_mono 10 d (lit≤ tt) h (10 ^ d * 10 ^ e * n) n N n _ _ l l (wide N n (10 ^ d) (10 ^ e) k) (rounds 10 d (lit≤ tt) h (10 ^ d * 10 ^ e * n) n l) (rounds 10 d (lit≤ tt) h N n l))
  where
    wide : (N n x y : ℕ) → N < n * x * y → N * n ≤ x * y * n * n
    wide N n x y k = omega (arith, mul-le-mul_right n (le_of_lt k))

even_times : (m x : ℕ) → m % 2 ≡ 0 → (m * x) % 2 ≡ 0
even_times m x h = rw half (twice (m / 2) x)
  where
    half : m ≡ 2 * (m / 2)
    half = omega arith

    twice : (q x : ℕ) → (2 * q * x) % 2 ≡ 0
    twice q x = omega arith

-- M is even, where M · 10^k is a rounding with an even significand
even_M : (d M k a : ℕ) (N n : ℕ) → 2 ≤ d → M * 10 ^ k ≡ a → ((j : ℕ) → k ≡ suc j → 10 ^ d * 10 ^ j ≤ a) → (E : EvenSignificand 10 d N n a) → a ≤ 10 ^ d * 10 ^ E.e → M % 2 ≡ 0
even_M d M k a N n h is least E top = go (dec_le k E.e)
  where
    go : Dec (k ≤ E.e) → M % 2 ≡ 0
    go (yes l) = rw same (even_times E.m (10 ^ (E.e - k)) E.even)
      where
        regroup : (m x y : ℕ) → m * (x * y) ≡ m * x * y
        regroup m x y = omega arith

        same : M ≡ E.m * 10 ^ (E.e - k)
        same = cancel M (E.m * 10 ^ (E.e - k)) (10 ^ k) (some_ten k) (is ∙ E.is ∙ ap (λ x. E.m * x) (sym (joined (E.e - k) k E.e (omega arith))) ∙ regroup E.m (10 ^ (E.e - k)) (10 ^ k))
    go (no l) = rw (same, ← joined 1 (d - 2) (d - 1) (omega arith)) (even_times 10 (10 ^ (d - 2)) refl)
      where
        j : (j : ℕ) × (k ≡ suc j)
        j = before k (omega arith)

        a_is : a ≡ 10 ^ d * 10 ^ j.0
        a_is = le_antisymm (le_trans top (mul-le-mul_left (10 ^ d) (tens E.e j.0 (omega (arith, j.1))))) (least j.0 j.1)

        same : M ≡ 10 ^ (d - 1)
        same = cancel M (10 ^ (d - 1)) (10 ^ k) (some_ten k) (is ∙ a_is ∙ joined d j.0 (d + j.0) refl ∙ sym (joined (d - 1) k (d + j.0) (omega (arith, j.1))))

pub ties_to_even_M : TiesToEvenM
unfolding meaning
ties_to_even_M d h l z n p y t = even_M d (nat_abs (written d a).m) (zeros d a) (nat_abs a) (nat_abs z * 10 ^ 70) n (omega arith) whole (zeros_least d a).least E (rw (abs_rounding 10 d (10 ^ 70) (lit≤ tt) one (lit≤ tt) z n) (no_more d (nat_abs z * 10 ^ 70) n E.e one p E.enough))
  where
    one : 1 ≤ d
    one = omega arith

    a : ℤ
    a = rounding 10 d (10 ^ 70) z n

    N : NearestEven 10 d (10 ^ 70) z n a
    N = (law d one).nearest_even z n p

    E : EvenSignificand 10 d (nat_abs z * 10 ^ 70) n (nat_abs a)
    E = N.even_at_tie y t.is_number t.another t.as_near

    whole : nat_abs (written d a).m * 10 ^ zeros d a ≡ nat_abs a
    whole = sym (abs_mul (written d a).m (pos (10 ^ zeros d a))) ∙ ap nat_abs (shape d a one N.is_number).is
