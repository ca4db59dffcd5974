-- The error part of a whole number n that is rounded to d digits: how large it is, against n and against the rounded one, and
-- that the zeros behind n stand behind both parts.
use Rattle.std.proofs.Common.{◌≡◌, ℕ, ◌+◌, ◌-◌, ◌*◌, ◌^◌, ◌<◌, ◌≤◌, ℤ, pos, ◌-ℤ◌, ◌*ℤ◌, neg_ℤ, nat_abs, sym, ap, ◌∙◌, subst, inl, le_trans, lt_of_lt_of_le, mul-le-mul_right, mul_assoc, mul-le-mul_left, mul-one, arith, lit≤}
use native.Mathlib.Nat.{le_of_mul-le-mul_left}
use native.Mathlib.Decide.{dec_le}
use Rattle.integers.proofs.Integers.{abs_neg}
use Rattle.integers.proofs.Naturals.{dist, cancel}
use Rattle.integers.proofs.Ring.{ring, at, num, ◌⊕◌, ◌⊗◌, ⊖◌}
use Rattle.rounding.specs.Digits.{Digits, Number}
use Rattle.rounding.specs.Radix.{rounded}
use Rattle.rounding.proofs.Numbers.{digits_from, digits_zero}
use Rattle.rounding.proofs.Closest.{closest}
use Rattle.rounding.proofs.Rounded.{Rounds, rounds, tight, exact_out}
use Rattle.rounding.proofs.Signs.{abs_rounding, off_rounding}
use Rattle.scientific.specs.Forms.{size_of, with_zeros}
use Rattle.scientific.specs.Splits.{rounded_to, error}
use Rattle.scientific.proofs.Tens.{ten, tens, some_ten, joined}
use Rattle.scientific.proofs.Values.{size_with, with_difference}
use Rattle.scientific.proofs.Shifted.{whole_behind}

-- ---- digits
-- a significand of at most 10^d is a number of eight digits
pub short_digits : (d m : ℕ) → d ≤ 8 → m ≤ 10 ^ d → Digits 10 8 m
short_digits d m h l = digits_from 10 8 ten (lit≤ tt) m 0 (record { times = m; is = sym (mul-one m) }) (le_trans l (tens d 8 h))

pub more_digits : (d x : ℕ) → d ≤ 8 → Digits 10 d x → Digits 10 8 x
more_digits d x h k = record { m = k.m; e = k.e; is = k.is; few = lt_of_lt_of_le k.few (tens d 8 h) }

-- without the zeros behind it
pub digits_off : (d x k : ℕ) → Digits 10 d (size_of x k) → Digits 10 d x
digits_off d x k h = go (dec_le k h.e)
  where
    go : Dec (k ≤ h.e) → Digits 10 d x
    go (yes l) = record { m = h.m; e = h.e - k; is = cancel x (h.m * 10 ^ (h.e - k)) (10 ^ k) (some_ten k) (h.is ∙ shape); few = h.few }
      where
        shape : h.m * 10 ^ h.e ≡ h.m * 10 ^ (h.e - k) * 10 ^ k
        shape = sym (mul_assoc h.m (10 ^ (h.e - k)) (10 ^ k) ∙ ap (λ (y : ℕ). h.m * y) (joined (h.e - k) k h.e (omega arith)))
    go (no l) = record { m = x; e = 0; is = sym (mul-one x); few = less (10 ^ (k - h.e)) (some_ten (k - h.e)) own }
      where
        own : x * 10 ^ (k - h.e) ≡ h.m
        own = cancel (x * 10 ^ (k - h.e)) h.m (10 ^ h.e) (some_ten h.e) (mul_assoc x (10 ^ (k - h.e)) (10 ^ h.e) ∙ ap (λ (y : ℕ). x * y) (joined (k - h.e) h.e k (omega arith)) ∙ h.is)

        less : (y : ℕ) → 0 < y → x * y ≡ h.m → x < 10 ^ d
        less y p e = omega (arith, mul-le-mul_left x p, h.few)

-- ---- sizes
module _ (d n : ℕ) (P : 1 ≤ d) where
  abbrev v : ℕ
  v = rounded 10 d n 1

  a : Rounds 10 d n 1 (rounded 10 d n 1)
  a = rounds 10 d ten P n 1 (lit≤ tt)

  -- 0 is a number, and nothing is nearer than what is rounded
  at_most_own : dist n v ≤ n
  at_most_own = plain n v (closest 10 d ten P n 1 v 0 (lit≤ tt) a (digits_zero 10 d ten P))
    where
      plain : (n v : ℕ) → dist n (v * 1) ≤ dist n (0 * 1) → dist n v ≤ n
      plain n v h = omega arith

  at_least_half : n ≤ 2 * v
  at_least_half = plain (10 ^ (d - 1)) n v (some_ten (d - 1)) (tight 10 d ten P n 1 v (lit≤ tt) a (λ e. inl (exact_out 10 d ten P n 1 v n (lit≤ tt) a (whole a.e e)))).down_rounded
    where
      whole : (e : ℕ) → e ≡ 0 → n ≡ n * (1 * 10 ^ e)
      whole e q = rw q (sym (mul-one n))

      plain : (H n v : ℕ) → 0 < H → 2 * H * n ≤ 2 * H * (v * 1) + v * 1 → n ≤ 2 * v
      plain H n v p h = le_of_mul-le-mul_left {k = 2 * H} (omega (arith, mul-le-mul_right v p)) (omega arith)

  at_most_rounded : dist n v ≤ v
  at_most_rounded = plain n v at_least_half
    where
      plain : (n v : ℕ) → n ≤ 2 * v → dist n v ≤ v
      plain n v h = omega arith

-- ---- with the sign
module _ (d : ℕ) (n : ℤ) (P : 1 ≤ d) where
  size_rounded : nat_abs (rounded_to d n) ≡ rounded 10 d (nat_abs n) 1
  size_rounded = abs_rounding 10 d 1 ten P (lit≤ tt) n 1 ∙ ap (λ (x : ℕ). rounded 10 d x 1) (mul-one (nat_abs n))

  pub size_error : nat_abs (error d n) ≡ dist (nat_abs n) (rounded 10 d (nat_abs n) 1)
  size_error = sym (abs_neg (n -ℤ rounded_to d n)) ∙ ap nat_abs turned ∙ off_rounding 10 d 1 ten P (lit≤ tt) n 1 ∙ rw (mul-one (nat_abs n), mul-one (rounded 10 d (nat_abs n) 1))
    where
      turned : neg_ℤ (n -ℤ rounded_to d n) ≡ rounded_to d n *ℤ pos 1 -ℤ n *ℤ pos 1
      turned = ring (⊖ (at n ⊕ (⊖ at (rounded_to d n)))) (at (rounded_to d n) ⊗ num 1 ⊕ (⊖ (at n ⊗ num 1))) (omega arith)

  pub error_at_most_own : nat_abs (error d n) ≤ nat_abs n
  error_at_most_own = rw size_error (at_most_own d (nat_abs n) P)

  pub rounded_at_most_double : nat_abs (rounded_to d n) ≤ 2 * nat_abs n
  rounded_at_most_double = rw size_rounded (plain (nat_abs n) _ (at_most_own d (nat_abs n) P))
    where
      plain : (n v : ℕ) → dist n v ≤ n → v ≤ 2 * n
      plain n v h = omega arith

  -- ---- with k zeros behind n
  module _ (k : ℕ) where
    pub rounded_with : with_zeros (rounded_to d n) k ≡ rounded_to d (with_zeros n k)
    rounded_with = sym (whole_behind d P n k)

    pub error_with : with_zeros (error d n) k ≡ error d (with_zeros n k)
    error_with = with_difference n (rounded_to d n) k ∙ ap (λ (z : ℤ). with_zeros n k -ℤ z) rounded_with

    pub error_digits : Number 10 d (error d (with_zeros n k)) → Digits 10 d (nat_abs (error d n))
    error_digits h = digits_off d (nat_abs (error d n)) k (subst (Digits 10 d) (ap nat_abs (sym error_with) ∙ size_with (error d n) k) h)

    -- where the error part is above a limit, the rounded one is
    pub error_above : (l : ℕ) → l < nat_abs (with_zeros (error d n) k) → l < nat_abs (rounded_to d (with_zeros n k))
    error_above l h = rw (← rounded_with, size_with (rounded_to d n) k, size_rounded) (lt_of_lt_of_le (rw (size_with (error d n) k, size_error) at h) (mul-le-mul_right (10 ^ k) (at_most_rounded d (nat_abs n) P)))
