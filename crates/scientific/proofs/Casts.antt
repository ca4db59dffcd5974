-- Small integers keep their value in the machine's: sizes below 2^63 in 64 bits, below 2^31 in 32.
use Rattle.std.proofs.Common.{◌≡◌, ℕ, ◌^◌, ◌<◌, ◌≤◌, ℤ, pos, negsuc, nat_abs, ap, ◌∙◌, le_trans, lt_of_lt_of_le, lt_of_le_of_lt, arith, lit≤, lit<, w32, w64, SFits, to_z, of_z}
use Rattle.std.proofs.lemmas.Int.{ints, to_z-of_z, fits_signed_from_abs}
use Rattle.scientific.specs.declared.precision.Precision.{Precision}
use Rattle.scientific.specs.declared.number.Scientific.{Scientific}
use Rattle.scientific.proofs.Tens.{tens}
use Rattle.scientific.proofs.Limits.{full_is}

pub wide : (s : ℤ) → nat_abs s < 2 ^ 63 → SFits w64 s
wide s h = fits_signed_from_abs w64 s h

pub in_64 : (s : ℤ) → nat_abs s < 2 ^ 63 → to_z w64 (of_z w64 s) ≡ s
in_64 s h = to_z-of_z w64 s (wide s h)

pub narrow : (s : ℤ) → nat_abs s < 10 ^ 8 → SFits w32 s
narrow s h = fits_signed_from_abs w32 s (lt_of_lt_of_le h (lit≤ tt))

-- eight digits in 64 bits, and then in 32
pub eight_digits : (s : ℤ) → nat_abs s < 10 ^ 8 → to_z w64 (of_z w64 s) ≡ s
eight_digits s h = in_64 s (lt_of_lt_of_le h (lit≤ tt))

pub eight_narrow : (s : ℤ) → nat_abs s < 10 ^ 8 → to_z w32 (of_z w32 (to_z w64 (of_z w64 s))) ≡ s
eight_narrow s h = rw (eight_digits s h) (to_z-of_z w32 s (narrow s h))

-- a significand of at most so many digits
pub in_digits : (p : Precision) (s : ℤ) → nat_abs s ≤ 10 ^ p.digits → to_z w64 (of_z w64 s) ≡ s
in_digits p s h = in_64 s (lt_of_le_of_lt (le_trans h (tens p.digits 8 p.most)) (lit< tt))

-- a size that was read
pub size_read : (n : ℕ) (s : ℤ) → SFits w32 s → n ≡ nat_abs (to_z w32 (of_z w32 s)) → n ≡ nat_abs s
size_read n s f e = e ∙ ap nat_abs (to_z-of_z w32 s f)

-- a power of ten that was read
pub power_is : (p k : ℕ) → p ≡ 10 ^ k → k ≤ 18 → to_z w64 p ≡ pos (10 ^ k)
power_is p k e h = small p (10 ^ k) e (tens k 18 h)
  where
    small : (p x : ℕ) → p ≡ x → x ≤ 10 ^ 18 → to_z w64 p ≡ pos x
    small p x e h = omega (arith, ints)

pub power_fits : (p k : ℕ) → p ≡ 10 ^ k → k ≤ 18 → SFits w64 (pos p)
power_fits p k e h = wide (pos p) (rw e (lt_of_le_of_lt (tens k 18 h) (lit< tt)))

-- ---- significands
pub short : (x : Scientific) → nat_abs x.significand < 10 ^ 8
short x = (full_is (nat_abs x.significand) x.zeros x.full).0

pub kept : (x : Scientific) → to_z w32 (of_z w32 x.significand) ≡ x.significand
kept x = to_z-of_z w32 x.significand (narrow x.significand (short x))

pub widened : (x : Scientific) → to_z w64 (of_z w64 (to_z w32 (of_z w32 x.significand))) ≡ x.significand
widened x = rw (kept x) (eight_digits x.significand (short x))

-- a test against 0
pub not_zero : (z : ℤ) → (of_z w64 z ≡ 0 → ⊥) → z ≡ pos 0 → ⊥
not_zero z h e = h (ap (of_z w64) e)

pub zero_is : (z : ℤ) → nat_abs z < 2 ^ 63 → of_z w64 z ≡ 0 → z ≡ pos 0
zero_is (pos n) h e = ap pos e
zero_is (negsuc n) h e = absurd (omega arith)

pub zero_narrow : (z : ℤ) → nat_abs z < 10 ^ 8 → of_z w32 z ≡ 0 → z ≡ pos 0
zero_narrow (pos n) h e = ap pos e
zero_narrow (negsuc n) h e = absurd (omega arith)
