-- How n with zeros behind it comes into the one form with eight digits. Of more than eight digits the last are zeros, since n is
-- at most eight digits followed by zeros, and a division by a power of ten moves them behind. Of fewer, zeros are taken in until
-- there are none left or eight digits.
use Rattle.std.proofs.Common.{◌≡◌, ℕ, zero, suc, ◌+◌, ◌-◌, ◌*◌, ◌/◌, ◌^◌, ◌<◌, ◌≤◌, true, ℤ, pos, negsuc, ◌*ℤ◌, neg_ℤ, nat_abs, sym, refl, ap, ◌∙◌, subst, le_trans, lt_of_lt_of_le, mul-le-mul_right, lt_of_mul-lt-mul_right, le_of_mul-le-mul_right, mul-div_cancel, min, arith, pow-add}
use native.Mathlib.Decide.{dec_le}
use lib.Signed.{quot_z}
use Rattle.std.proofs.lemmas.Int.{ints}
use Rattle.integers.proofs.Integers.{quot_exact}
use Rattle.integers.proofs.Naturals.{before}
use Rattle.integers.proofs.Ring.{ring, num, ◌⊗◌, ⊖◌}
use Rattle.rounding.specs.Digits.{Digits}
use Rattle.scientific.specs.Forms.{with_zeros, is_full}
use Rattle.scientific.proofs.Tens.{tens, some_ten, below, joined, moved}
use Rattle.scientific.proofs.Limits.{full_few, full_eight}
use Rattle.scientific.proofs.Values.{size_with, with_more}

-- n with zeros behind it is s with z zeros, in the one form
pub record Shape (n : ℤ) (zeros : ℕ) (s : ℤ) (z : ℕ) : Type 0 where
  pub short : nat_abs s < 10 ^ 8
  pub full : is_full (nat_abs s) z ≡ true
  pub same : with_zeros s z ≡ with_zeros n zeros

-- how many digits n has: c
abbrev pub Counts : ℕ → ℕ → Type 0
Counts n c = (n < 10 ^ c) × ((k : ℕ) → c ≡ suc k → 10 ^ k ≤ n)

-- z is a multiple of x where its size is
pub signed_multiple : (z : ℤ) (x t : ℕ) → nat_abs z ≡ t * x → (w : ℤ) × (w *ℤ pos x ≡ z) × (nat_abs w ≡ t)
signed_multiple (pos n) x t e = (pos t, ap pos (sym e), refl)
signed_multiple (negsuc n) x t e = (neg_ℤ (pos t), ring ((⊖ num t) ⊗ num x) (⊖ num (t * x)) (omega arith) ∙ ap (λ y. neg_ℤ (pos y)) (sym e), omega (arith, ints))

-- ---- more than eight digits
module _ (n c : ℕ) (h : Digits 10 8 n) (C : Counts n c) (l : 8 < c) where
  top : (k : ℕ) × (c ≡ suc k)
  top = before c (omega arith)

  inside : c - 8 ≤ h.e
  inside = let k = top in let q = below k.0 (8 + h.e) (less k.0 (C.1 k.0 k.1)) in omega (arith, k.1)
    where
      less : (k : ℕ) → 10 ^ k ≤ n → 10 ^ k < 10 ^ (8 + h.e)
      less k l = rw (pow-add 10 8 h.e) (omega (arith, h.is, mul-le-mul_right (10 ^ h.e) h.few, some_ten h.e))

  quotient : n / 10 ^ (c - 8) * 10 ^ (c - 8) ≡ n
  quotient = ap (λ (x : ℕ). x / 10 ^ (c - 8) * 10 ^ (c - 8)) shape ∙ ap (λ (x : ℕ). x * 10 ^ (c - 8)) (mul-div_cancel (h.m * 10 ^ (h.e - (c - 8))) (some_ten (c - 8))) ∙ sym shape
    where
      shape : n ≡ h.m * 10 ^ (h.e - (c - 8)) * 10 ^ (c - 8)
      shape = h.is ∙ sym (moved h.m (h.e - (c - 8)) (c - 8) h.e (omega (arith, inside)))

  short : n / 10 ^ (c - 8) < 10 ^ 8
  short = lt_of_mul-lt-mul_right (10 ^ (c - 8)) (rw (quotient, joined 8 (c - 8) c (omega arith)) C.0)

  long : 10 ^ 7 ≤ n / 10 ^ (c - 8)
  long = let k = top in le_of_mul-le-mul_right {k = 10 ^ (c - 8)} (rw (quotient, joined 7 (c - 8) k.0 (omega (arith, k.1))) (C.1 k.0 k.1)) (some_ten (c - 8))

pub cut : (n : ℤ) (c zeros : ℕ) → Digits 10 8 (nat_abs n) → Counts (nat_abs n) c → 8 < c → Shape n zeros (quot_z n (pos (10 ^ (c - 8)))) (zeros + (c - 8))
cut n c zeros h C l = subst (λ (s : ℤ). Shape n zeros s (zeros + (c - 8))) (sym is) (record { short = rw w.2 (short m c h C l); full = rw w.2 (full_eight (m / 10 ^ (c - 8)) (zeros + (c - 8)) (short m c h C l) (long m c h C l)); same = sym (with_more w.0 (c - 8) zeros (zeros + (c - 8)) (omega arith)) ∙ ap (λ (z : ℤ). with_zeros z zeros) w.1 })
  where
    m : ℕ
    m = nat_abs n

    w : (w : ℤ) × (w *ℤ pos (10 ^ (c - 8)) ≡ n) × (nat_abs w ≡ m / 10 ^ (c - 8))
    w = signed_multiple n (10 ^ (c - 8)) (m / 10 ^ (c - 8)) (sym (quotient m c h C l))

    is : quot_z n (pos (10 ^ (c - 8))) ≡ w.0
    is = ap (λ (z : ℤ). quot_z z (pos (10 ^ (c - 8)))) (sym w.1) ∙ quot_exact w.0 (10 ^ (c - 8)) (some_ten (c - 8))

-- ---- at most eight
module _ (n c : ℕ) (C : Counts n c) (l : c ≤ 8) where
  room : (x : ℕ) → x ≤ 8 - c → n * 10 ^ x < 10 ^ 8
  room x h = lt_of_lt_of_le (less n (10 ^ c) (10 ^ x) C.0 (some_ten x)) (rw (joined c x (c + x) refl) (tens (c + x) 8 (omega arith)))
    where
      less : (n y z : ℕ) → n < y → 0 < z → n * z < y * z
      less n y z p q = omega (arith, mul-le-mul_right z p)

  -- all zeros are taken in, or as many as there is room for
  full : (zeros x : ℕ) → 0 < n → x ≡ min zeros (8 - c) → is_full (n * 10 ^ x) (zeros - x) ≡ true
  full zeros x p e = go (dec_le zeros (8 - c))
    where
      some : (c : ℕ) → n < 10 ^ c → 0 < c
      some zero q = absurd (omega arith)
      some (suc i) q = omega arith

      eight : x ≡ 8 - c → 10 ^ 7 ≤ n * 10 ^ x
      eight q = let k = before c (some c C.0) in le_trans (rw (← joined k.0 x 7 (omega (arith, k.1))) (omega arith)) (mul-le-mul_right (10 ^ x) (C.1 k.0 k.1))

      go : Dec (zeros ≤ 8 - c) → is_full (n * 10 ^ x) (zeros - x) ≡ true
      go (yes h) = let q : zeros - x ≡ 0 = omega arith in rw q (full_few (n * 10 ^ x) (room x (omega arith)))
      go (no h) = full_eight (n * 10 ^ x) (zeros - x) (room x (omega arith)) (eight (omega arith))

pub taken : (n : ℤ) (c zeros x : ℕ) → Counts (nat_abs n) c → c ≤ 8 → (n ≡ pos 0 → ⊥) → x ≡ min zeros (8 - c) → Shape n zeros (with_zeros n x) (zeros - x)
taken n c zeros x C l h e = record {
  short = rw (size_with n x) (room (nat_abs n) c C l x (omega arith));
  full = rw (size_with n x) (full (nat_abs n) c C l zeros x (omega (arith, ints)) e);
  same = with_more n x (zeros - x) zeros (omega arith);
}
