-- The one form with eight digits, and the limits 10^30 and 10^110 against it. A significand is below 10^8, and from 10^7 on where
-- zeros stand behind it; so the zeros alone decide, but for 10^7 with 103 zeros, which is 10^110 itself. The limits are unfolded
-- here and nowhere else, and only compared with numerals.
use Rattle.std.proofs.Common.{◌≡◌, ℕ, suc, ◌*◌, ◌^◌, ◌<◌, ◌≤◌, Bool, true, false, ◌&&◌, ◌||◌, T, eqb, ltb, leb, ◌⊎◌, ℤ, nat_abs, sym, refl, ap, ◌∙◌, subst, inl, inr, ⊎_elim, le_trans, lt_of_lt_of_le, le_of_lt, mul-le-mul_right, mul-le-mul, mul-le-mul_left, arith, lit<, lit≤, eqb→eq, ltb→lt, leb→le}
use native.Mathlib.Decide.{dec_le}
use Rattle.integers.proofs.Tests.{both, either, leb_yes, ltb_yes}
use Rattle.scientific.proofs.Tens.{tens}
use Rattle.scientific.proofs.Values.{size_with}
use Rattle.scientific.specs.Forms.{size_of, with_zeros, is_full, is_small, lowest, highest}

-- ---- the one form
pub full_is : (s z : ℕ) → is_full s z ≡ true → (s < 10 ^ 8) × ((z ≡ 0) ⊎ (10 ^ 7 ≤ s))
full_is s z e = let t = both (ltb s (10 ^ 8)) (eqb z 0 || leb (10 ^ 7) s) (subst T (sym e) tt) in
    (ltb→lt s (10 ^ 8) t.0, ⊎_elim (λ h. inl (eqb→eq z 0 h)) (λ h. inr (leb→le (10 ^ 7) s h)) (either (eqb z 0) (leb (10 ^ 7) s) t.1))

pub full_few : (s : ℕ) → s < 10 ^ 8 → is_full s 0 ≡ true
full_few s h = ap (λ (t : Bool). t && true) (ltb_yes s (10 ^ 8) h)

pub full_eight : (s z : ℕ) → s < 10 ^ 8 → 10 ^ 7 ≤ s → is_full s z ≡ true
full_eight s z h l = ap (λ (t : Bool). t && (eqb z 0 || leb (10 ^ 7) s)) (ltb_yes s (10 ^ 8) h) ∙ ap (λ (t : Bool). eqb z 0 || t) (leb_yes (10 ^ 7) s l) ∙ any (eqb z 0)
  where
    any : (t : Bool) → (t || true) ≡ true
    any true = refl
    any false = refl

pub small_is : (s z : ℕ) → is_small s z ≡ true → size_of s z ≤ highest
small_is s z e = leb→le (size_of s z) highest (subst T (sym e) tt)

pub small_in : (s z : ℕ) → size_of s z ≤ highest → is_small s z ≡ true
small_in s z h = leb_yes (size_of s z) highest h

-- ---- the upper limit
pub under_highest : (s z : ℕ) → s < 10 ^ 8 → z < 103 → size_of s z ≤ highest
unfolding highest
under_highest s z h l = le_trans (mul-le-mul (le_of_lt h) (tens z 102 (omega arith))) (lit≤ tt)

at_highest : (s : ℕ) → s ≤ 10 ^ 7 → size_of s 103 ≤ highest
unfolding highest
at_highest s h = le_trans (mul-le-mul_right (10 ^ 103) h) (lit≤ tt)

-- at most 103 zeros, and at 103 no significand above 10^7
up_to_highest : (s z : ℕ) → s < 10 ^ 8 → z ≤ 103 → (z ≡ 103 → s ≤ 10 ^ 7) → size_of s z ≤ highest
up_to_highest s z h l t = go (dec_le (suc z) 103)
  where
    go : Dec (suc z ≤ 103) → size_of s z ≤ highest
    go (yes k) = under_highest s z h k
    go (no k) = let e : z ≡ 103 = omega arith in subst (λ (x : ℕ). size_of s x ≤ highest) (sym e) (at_highest s (t e))

over_highest : (s z : ℕ) → 10 ^ 7 ≤ s → 103 < z → highest < size_of s z
unfolding highest
over_highest s z h l = lt_of_lt_of_le (lit< tt) (mul-le-mul h (tens 104 z l))

past_highest : (s : ℕ) → 10 ^ 7 < s → highest < size_of s 103
unfolding highest
past_highest s h = lt_of_lt_of_le (lit< tt) (mul-le-mul h (tens 103 103 (lit≤ tt)))

-- ---- the lower limit
pub from_lowest : (s z : ℕ) → 10 ^ 7 ≤ s → 23 ≤ z → lowest ≤ size_of s z
unfolding lowest
from_lowest s z h l = le_trans (lit≤ tt) (mul-le-mul h (tens 23 z l))

pub below_lowest : (s z : ℕ) → s < 10 ^ 8 → z < 23 → size_of s z < lowest
unfolding lowest
below_lowest s z h l = lt_of_lt_of_le (less (10 ^ z) (tens 0 z (omega arith))) (le_trans (mul-le-mul_left (10 ^ 8) (tens z 22 (omega arith))) (lit≤ tt))
  where
    less : (x : ℕ) → 1 ≤ x → s * x < 10 ^ 8 * x
    less x p = omega (arith, mul-le-mul_right x h)

-- ---- by the zeros, as code tells
pub over_by_zeros : (s : ℤ) (z : ℕ) → is_full (nat_abs s) z ≡ true → 103 < z → highest < nat_abs (with_zeros s z)
over_by_zeros s z f h = rw (size_with s z) (over_highest (nat_abs s) z (⊎_elim (λ e. absurd (omega arith)) (λ l. l) (full_is (nat_abs s) z f).1) h)

pub over_by_size : (s : ℤ) (z : ℕ) → z ≡ 103 → 10000000 < nat_abs s → highest < nat_abs (with_zeros s z)
over_by_size s z e h = rw (size_with s z, e) (past_highest (nat_abs s) h)

pub small_by_zeros : (s z : ℕ) → is_full s z ≡ true → z < 103 → is_small s z ≡ true
small_by_zeros s z f h = small_in s z (up_to_highest s z (full_is s z f).0 (omega arith) (λ e. absurd (omega arith)))

pub small_by_size : (s z : ℕ) → is_full s z ≡ true → z ≤ 103 → s ≤ 10000000 → is_small s z ≡ true
small_by_size s z f h l = small_in s z (up_to_highest s z (full_is s z f).0 h (λ e. l))
