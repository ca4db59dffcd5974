-- The absolute value, by clearing the sign's bit, and the negative: both keep the size.
use Rattle.std.proofs.Common.{◌≡◌, ℕ, ◌+◌, ◌-◌, ◌*◌, ◌%◌, ◌^◌, ◌≤◌, Bool, true, false, cond, T, eqb, pos, nat_abs, sym, refl, ap, ◌∙◌, le_trans, le_of_eq, arith}
use lib.Ieee.{Float, nan, inf, fin, binary64, neg, fits, of_bits, to_bits}
use lib.Ieee.Bits.{of_bits-to_bits}
use lib.Ieee.Scale.{finite}
use Rattle.integers.proofs.Integers.{abs_neg}
use Rattle.integers.proofs.Tests.{leb_no}
use Rattle.rounding.specs.Value.{signed, value}
use Rattle.rounding.proofs.Floats.{value_neg}
use Rattle.binary64.specs.Limits.{Small}
use Rattle.binary64.specs.Patterns.{exponent, size, significand, negative}
use Rattle.binary64.specs.Means.{size_signed, abs_value}
use Rattle.binary64.specs.BitLimits.{sign_bit, high_pattern, high_in}
use Rattle.binary64.specs.Fields.{value_by_fields}

-- ---- the absolute value: without the sign's bit the fields say the same size, and no sign
size_cut : (b : ℕ) → size (b % sign_bit) ≡ size b
unfolding size significand
size_cut b =
    ap (λ (k : ℕ). cond (eqb k 0) (b % sign_bit % 4503599627370496) (2 ^ 52 + b % sign_bit % 4503599627370496) * 2 ^ (k - 1)) (twice b)
    ∙ ap (λ (k : ℕ). cond (eqb (exponent b) 0) k (2 ^ 52 + k) * 2 ^ (exponent b - 1)) (low_part b)
  where
    twice : (b : ℕ) → exponent (b % sign_bit) ≡ exponent b
    twice b = omega arith

    low_part : (b : ℕ) → b % sign_bit % 4503599627370496 ≡ b % 4503599627370496
    low_part b = omega arith

module _ (x : Float) (f : T (fits binary64 x)) (n : finite x ≡ true) (s : Small x) where
  abbrev bits : ℕ
  bits = to_bits binary64 x

  pub size_bits : bits % sign_bit ≤ high_pattern
  size_bits = high_in x f n s

  pub size_value : value binary64 (of_bits binary64 (bits % sign_bit)) ≡ pos (nat_abs (value binary64 x))
  size_value =
      value_by_fields (bits % sign_bit) (no_ones bits size_bits) ∙ ap (λ (s : Bool). signed s (size (bits % sign_bit))) (no_sign bits) ∙ ap pos (size_cut bits)
      ∙ ap pos (sym (ap (λ (y : Float). nat_abs (value binary64 y)) (sym (of_bits-to_bits binary64 x f)) ∙ ap nat_abs (value_by_fields bits (no_ones' bits size_bits)) ∙ size_signed (negative bits) (size bits)))
    where
      no_ones : (b : ℕ) → b % sign_bit ≤ high_pattern → exponent (b % sign_bit) ≡ 2047 → ⊥
      no_ones b h e = omega arith

      no_ones' : (b : ℕ) → b % sign_bit ≤ high_pattern → exponent b ≡ 2047 → ⊥
      no_ones' b h e = omega arith

      no_sign : (b : ℕ) → negative (b % sign_bit) ≡ false
      no_sign b = leb_no sign_bit (b % sign_bit) (λ h. absurd (omega arith))

pub ruleset sizes = (size_bits, size_value)

-- ---- the negative
pub neg_finite : (x : Float) → finite x ≡ true → finite (neg x) ≡ true
unfolding neg
neg_finite nan e = e
neg_finite (inf s) e = e
neg_finite (fin s m d) e = refl

pub neg_small : (x : Float) → Small x → Small (neg x)
neg_small x s = le_trans (le_of_eq (sym (abs_value binary64 (neg x)) ∙ ap nat_abs (value_neg binary64 x) ∙ abs_neg (value binary64 x) ∙ abs_value binary64 x)) s

pub ruleset negatives = (neg_finite, neg_small, value_neg)
