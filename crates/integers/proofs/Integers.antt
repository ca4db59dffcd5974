-- Laws of the whole numbers that the library leaves out: products, and sizes (nat_abs) of sums, products and negatives.
use Rattle.std.proofs.Common.{◌≡◌, ℕ, zero, suc, ◌+◌, ◌*◌, ◌/◌, ◌<◌, ◌≤◌, ℤ, pos, negsuc, ◌+ℤ◌, ◌*ℤ◌, neg_ℤ, nat_abs, sym, refl, ap, ◌∙◌, mul-pos, mul-div_cancel, arith}
use native.Mathlib.Nat.{eq_of_mul-eq-mul_right, zero-div}
use lib.Signed.{quot_z}
use Rattle.std.proofs.lemmas.Int.{ints}
use Rattle.integers.proofs.Ring.{ring, at, num, ◌⊕◌, ◌⊗◌}

pub *ℤ_assoc : (a b c : ℤ) → (a *ℤ b) *ℤ c ≡ a *ℤ (b *ℤ c)
*ℤ_assoc a b c = ring ((at a ⊗ at b) ⊗ at c) (at a ⊗ (at b ⊗ at c)) (omega arith)

-- a product with a natural number
pub spread : (a b : ℤ) (q : ℕ) → (a +ℤ b) *ℤ pos q ≡ a *ℤ pos q +ℤ b *ℤ pos q
spread a b q = ring ((at a ⊕ at b) ⊗ num q) (at a ⊗ num q ⊕ at b ⊗ num q) (omega arith)

pub times_times : (r : ℤ) (p q : ℕ) → (r *ℤ pos p) *ℤ pos q ≡ r *ℤ pos (p * q)
times_times r p q = ring ((at r ⊗ num p) ⊗ num q) (at r ⊗ num (p * q)) (omega arith)

-- sizes
pub abs_tri : (a b : ℤ) → nat_abs (a +ℤ b) ≤ nat_abs a + nat_abs b
abs_tri a b = omega (arith, ints)

pub abs_neg : (a : ℤ) → nat_abs (neg_ℤ a) ≡ nat_abs a
abs_neg a = omega (arith, ints)

pub abs_mul : (a b : ℤ) → nat_abs (a *ℤ b) ≡ nat_abs a * nat_abs b
abs_mul (pos a) (pos b) = refl
abs_mul (pos a) (negsuc b) = abs_neg (pos (a * suc b))
abs_mul (negsuc a) (pos b) = abs_neg (pos (suc a * b))
abs_mul (negsuc a) (negsuc b) = refl

-- a natural number is no negative
pub no_sign : (a b : ℕ) → 0 < b → pos a ≡ neg_ℤ (pos b) → ⊥
no_sign a b h e = omega (arith, ints)

-- a common factor
pub factor_cancels : (x y : ℤ) (c : ℕ) → 0 < c → x *ℤ pos c ≡ y *ℤ pos c → x ≡ y
factor_cancels (pos a) (pos b) c h e = ap pos (eq_of_mul-eq-mul_right c h a b (ap nat_abs e))
factor_cancels (pos a) (negsuc b) c h e = absurd (no_sign (a * c) (suc b * c) (mul-pos (omega arith) h) e)
factor_cancels (negsuc a) (pos b) c h e = absurd (no_sign (b * c) (suc a * c) (mul-pos (omega arith) h) (sym e))
factor_cancels (negsuc a) (negsuc b) c h e = whole a b (eq_of_mul-eq-mul_right c h (suc a) (suc b) (same (suc a * c) (suc b * c) e))
  where
    same : (x y : ℕ) → neg_ℤ (pos x) ≡ neg_ℤ (pos y) → x ≡ y
    same x y e = omega (arith, ints)

    whole : (a b : ℕ) → suc a ≡ suc b → negsuc a ≡ negsuc b
    whole a b e = ap negsuc (omega arith)

-- an exact quotient
pub quot_neg : (x d : ℕ) → quot_z (neg_ℤ (pos x)) (pos d) ≡ neg_ℤ (pos (x / d))
quot_neg zero d = ap pos (zero-div d) ∙ ap (λ (y : ℕ). neg_ℤ (pos y)) (sym (zero-div d))
quot_neg (suc x) d = refl

pub quot_exact : (w : ℤ) (d : ℕ) → 0 < d → quot_z (w *ℤ pos d) (pos d) ≡ w
quot_exact (pos n) d h = ap pos (mul-div_cancel n h)
quot_exact (negsuc n) d h = quot_neg (suc n * d) d ∙ ap (λ (y : ℕ). neg_ℤ (pos y)) (mul-div_cancel (suc n) h)
