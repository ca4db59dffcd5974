-- Rounding n / den to d digits, by the count c of the digits of its whole part: with c − d zeros, and none where there are at most d
-- digits, the significand is the nearest whole number. These are the exponent and the significand that the
-- definition finds, since the exponent is the least at which d digits suffice.
use Rattle.std.proofs.Common.{◌≡◌, ℕ, suc, ◌+◌, ◌-◌, ◌*◌, ◌/◌, ◌%◌, ◌^◌, ◌<◌, ◌≤◌, cond, ◌&&◌, ◌||◌, eqb, ltb, ℤ, pos, negsuc, ◌-ℤ◌, neg_ℤ, nat_abs, ◌≤ℤ◌, refl, ap, ◌∙◌, le_trans, lt_of_lt_of_le, lt_of_le_of_lt, mod-lt, mul_assoc, mul_comm, div-lt_iff_lt-mul, mul-le-mul_left, mul-pos, le-div_iff_mul-le, mul-one, add-one, div-le_self, arith, w64, to_z, of_z}
use native.Mathlib.Decide.{dec_le}
use Rattle.std.proofs.Math.Nat.{mod-eq-sub-div-mul}
use Rattle.std.proofs.lemmas.Bool.Decides.{nat_tests}
use lib.Signed.{◌<ℤ◌}
use Rattle.std.proofs.lemmas.Int.{ints}
use Rattle.integers.proofs.Naturals.{before}
use Rattle.integers.proofs.Ring.{ring, num, ◌⊗◌, ⊖◌}
use Rattle.rounding.specs.Radix.{nearest, rounded, rounding}
use Rattle.rounding.proofs.Nearest.{nearest_is}
use Rattle.rounding.proofs.Rounded.{Rounds, rounds, one_rounds, at_most_digits}
use Rattle.scientific.specs.Forms.{with_zeros}
use Rattle.scientific.proofs.Tens.{ten, tens, some_ten, joined}
use Rattle.scientific.proofs.OneForm.{Counts}

module _ (d n den c : ℕ) (P : 1 ≤ d) (D : 0 < den) (U : n < den * 10 ^ c) (L : (k : ℕ) → c ≡ suc k → den * 10 ^ k ≤ n) where
  rounds_at : Rounds 10 d n den (nearest n (den * 10 ^ (c - d)) * 10 ^ (c - d))
  rounds_at = record { e = c - d; m = nearest n (den * 10 ^ (c - d)); is = refl; under = lt_of_lt_of_le U (rw (whole (c - d)) (mul-le-mul_left den (tens c (d + (c - d)) (omega arith)))); least = λ k e. rw (whole k) (L (d + k) (omega arith)); near = nearest_is n (den * 10 ^ (c - d)) (mul-pos D (some_ten (c - d))) }
    where
      whole : (k : ℕ) → den * 10 ^ d * 10 ^ k ≡ den * 10 ^ (d + k)
      whole k = mul_assoc den (10 ^ d) (10 ^ k) ∙ ap (λ (x : ℕ). den * x) (joined d k (d + k) refl)

  counted : (nearest n (den * 10 ^ (c - d)) * 10 ^ (c - d) ≡ rounded 10 d n den) × (nearest n (den * 10 ^ (c - d)) ≤ 10 ^ d)
  unfolding rounds_at
  counted = (one_rounds 10 d ten P n den n den _ (rounded 10 d n den) D D refl rounds_at (rounds 10 d ten P n den D), at_most_digits 10 d ten P n den _ D rounds_at)

-- ---- the digits of a quotient
under_quotient : (n den x : ℕ) → 0 < den → n / den < x → n < den * x
under_quotient n den x D h = rw (mul_comm den x) ((div-lt_iff_lt-mul D).0 h)

reached_quotient : (n den x : ℕ) → 0 < den → x ≤ n / den → den * x ≤ n
reached_quotient n den x D h = rw (mul_comm den x) ((le-div_iff_mul-le D).0 h)

-- so with the digits of the quotient counted
module _ (d n den c : ℕ) (P : 1 ≤ d) (D : 0 < den) (C : Counts (n / den) c) where
  quotient_counted : (nearest n (den * 10 ^ (c - d)) * 10 ^ (c - d) ≡ rounded 10 d n den) × (nearest n (den * 10 ^ (c - d)) ≤ 10 ^ d)
  quotient_counted = counted d n den c P D (under_quotient n den (10 ^ c) D C.0) (λ k e. reached_quotient n den (10 ^ k) D (C.1 k e))

  -- a divisor with as many zeros behind it as the quotient has digits too many is no more than the dividend
  pub divisor_fits : (w : ℕ) → n < w → den < w → den * 10 ^ (c - d) < w
  divisor_fits w h l = go (dec_le c d)
    where
      alone : (x : ℕ) → x ≡ 0 → den * 10 ^ x < w
      alone x e = rw (e, mul-one den) l

      go : Dec (c ≤ d) → den * 10 ^ (c - d) < w
      go (yes q) = alone (c - d) (omega arith)
      go (no q) = let k = before c (omega arith) in lt_of_le_of_lt (le_trans (mul-le-mul_left den (tens (c - d) k.0 (omega (arith, k.1)))) (reached_quotient n den (10 ^ k.0) D (C.1 k.0 k.1))) h

  -- a dividend below 10^19 has at most nineteen digits
  pub nineteen : n < 10 ^ 19 → c ≤ 19
  nineteen h = go (dec_le c 19)
    where
      clash : (x y z : ℕ) → x ≤ y → y ≤ z → z < x → ⊥
      clash x y z p q r = omega arith

      go : Dec (c ≤ 19) → c ≤ 19
      go (yes q) = q
      go (no q) = let k = before c (omega arith) in absurd (clash (10 ^ 19) (10 ^ k.0) (n / den) (tens 19 k.0 (omega (arith, k.1))) (C.1 k.0 k.1) (lt_of_le_of_lt (div-le_self n den) h))

-- ---- as the code works it out
-- the nearest whole number, by the rest n − (n / d) · d and what it misses of d
pub nearest_by_rest : (n d : ℕ) → 0 < d → nearest n d ≡ cond (ltb (d - (n - n / d * d)) (n - n / d * d) || (eqb (d - (n - n / d * d)) (n - n / d * d) && eqb (n / d % 2) 1)) (n / d + 1) (n / d)
unfolding nearest
nearest_by_rest n d D = rw (← mod-eq-sub-div-mul n d, add-one (n / d), ← over, ← tie) refl
  where
    over : ltb d (2 * (n % d)) ≡ ltb (d - n % d) (n % d)
    over = let l = mod-lt n D in grind (arith, nat_tests)

    tie : eqb d (2 * (n % d)) ≡ eqb (d - n % d) (n % d)
    tie = let l = mod-lt n D in grind (arith, nat_tests)

-- what is rounded, by the digits c of the quotient
pub fits_64 : (d n den c : ℕ) → 1 ≤ d → 0 < den → n / den < 10 ^ c → ((k : ℕ) → c ≡ suc k → 10 ^ k ≤ n / den) → n < 2 ^ 62 → den < 2 ^ 64 → den * 10 ^ (c - d) < 18446744073709551616
fits_64 d n den c P D u l h k = divisor_fits d n den c P D (u, l) (2 ^ 64) (omega arith) k

pub zeros_15 : (d n den c : ℕ) → 4 ≤ d → 0 < den → n / den < 10 ^ c → ((k : ℕ) → c ≡ suc k → 10 ^ k ≤ n / den) → n < 2 ^ 62 → c - d ≤ 15
zeros_15 d n den c P D u l h = let m = nineteen d n den c (omega arith) D (u, l) (omega arith) in omega arith

pub short_size : (d n den c : ℕ) → 1 ≤ d → 0 < den → n / den < 10 ^ c → ((k : ℕ) → c ≡ suc k → 10 ^ k ≤ n / den) → nearest n (den * 10 ^ (c - d)) ≤ 10 ^ d
short_size d n den c P D u l = (quotient_counted d n den c P D (u, l)).1

pub with_zeros_is : (d n den c : ℕ) → 1 ≤ d → 0 < den → n / den < 10 ^ c → ((k : ℕ) → c ≡ suc k → 10 ^ k ≤ n / den) → nearest n (den * 10 ^ (c - d)) * 10 ^ (c - d) ≡ rounded 10 d n den
with_zeros_is d n den c P D u l = (quotient_counted d n den c P D (u, l)).0

pub rounding_plus : (d : ℕ) (n : ℤ) (den : ℕ) → pos 0 ≤ℤ n → rounding 10 d 1 n den ≡ pos (rounded 10 d (nat_abs n) den)
unfolding rounding
rounding_plus d (pos n) den h = ap (λ (y : ℕ). pos (rounded 10 d y den)) (mul-one n)
rounding_plus d (negsuc n) den h = absurd (omega (arith, ints))

pub rounding_minus : (d : ℕ) (n : ℤ) (den : ℕ) → n <ℤ pos 0 → rounding 10 d 1 n den ≡ neg_ℤ (pos (rounded 10 d (nat_abs n) den))
unfolding rounding
rounding_minus d (pos n) den h = absurd (omega (arith, ints))
rounding_minus d (negsuc n) den h = ap (λ (y : ℕ). neg_ℤ (pos (rounded 10 d y den))) (mul-one (suc n))

-- the negative of a significand, as the machine has it
pub minus_with : (m k : ℕ) → m ≤ 100000000 → with_zeros (to_z w64 (of_z w64 (pos 0 -ℤ to_z w64 m))) k ≡ neg_ℤ (pos (m * 10 ^ k))
minus_with m k h = rw (kept m h) (ring ((⊖ num m) ⊗ num (10 ^ k)) (⊖ num (m * 10 ^ k)) (omega arith))
  where
    kept : (m : ℕ) → m ≤ 100000000 → to_z w64 (of_z w64 (pos 0 -ℤ to_z w64 m)) ≡ neg_ℤ (pos m)
    kept m h = omega (arith, ints)
