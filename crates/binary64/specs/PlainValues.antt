-- A bit pattern that reads as a number other than 0 is the one that the number is written as: its sign is the number's, and its bits
-- without the sign are those of the number's size. (Zero is read from two patterns and from all that are not admitted.)
use Rattle.std.specs.Prelude.{◌≡◌, ℕ, zero, suc, ◌+◌, ◌%◌, ◌^◌, ◌<◌, ◌≤◌, ◌⊎◌, Bool, true, false, cond, ℤ, pos, ◌≢◌, refl}
use Rattle.std.proofs.Common.{inl, inr, sym, ap, ◌∙◌, zero-add, arith}
use Rattle.std.proofs.Math.Decide.{dec_le}
use Rattle.std.specs.Float.{binary64}
use Rattle.std.specs.Float.Ieee.{top, of_bits}
use Rattle.rounding.specs.Value.{signed}
use Rattle.arithmetic.specs.Meaning.{Admission, number, not_admitted}
use Rattle.arithmetic.specs.Setting.{ZeroOrWritten}
use Rattle.binary64.specs.Patterns.{negative, exponent, size, admission, reads, unsigned, written, setting}
use Rattle.binary64.specs.BitOrder.{code}
use Rattle.binary64.specs.BitLimits.{sign_bit, infinity_pattern}
use Rattle.binary64.specs.Fields.{Admitted, admitted_by, bits_value, value_by_fields, size_by_fields, own_bits, reads_number, reads_none, reads_longer}
use Rattle.binary64.specs.Written.{unsigned_is, bits_signed}

-- a sign and a size are written as the bit of the sign and the bits of the size, but for a zero with a sign
written_signed : (s : Bool) (n : ℕ) → (signed s n ≡ pos 0) ⊎ (written (signed s n) ≡ cond s (top binary64) 0 + unsigned n)
unfolding written
written_signed true zero = inl refl
written_signed true (suc n) = inr refl
written_signed false n = inr (sym (zero-add (unsigned n)))

below_infinity : (b : ℕ) → (exponent b ≢ 2047) → b % sign_bit < infinity_pattern
below_infinity b h = omega arith

-- a pattern whose exponent's field is not all ones is the bit of its sign and the bits of its size
bits_by_fields : (b : ℕ) → b < 18446744073709551616 → (exponent b ≢ 2047) → cond (negative b) (top binary64) 0 + unsigned (size b) ≡ b
bits_by_fields b w h =
    ap (λ (k : ℕ). cond (negative b) (top binary64) 0 + k) (unsigned_is (size b) ∙ ap (code 53) (sym (size_by_fields b h)))
    ∙ sym (bits_signed (of_bits binary64 b) (negative b) (size b) (2 ^ 1074) (bits_value b h)) ∙ own_bits b w (below_infinity b h)

module _ (b : ℕ) (w : b < 18446744073709551616) where
  admitted_pattern : (z : ℤ) → admission b ≡ number z → ZeroOrWritten setting b
  admitted_pattern z e = go (written_signed (negative b) (size b))
    where
      t : Admitted b z
      t = admitted_by b z e

      is : reads b ≡ signed (negative b) (size b)
      is = sym (reads_number b w z (sym e)) ∙ sym t.is ∙ value_by_fields b t.finite_field

      go : (signed (negative b) (size b) ≡ pos 0) ⊎ (written (signed (negative b) (size b)) ≡ cond (negative b) (top binary64) 0 + unsigned (size b)) → ZeroOrWritten setting b
      go (inl q) = inl (is ∙ q)
      go (inr q) = inr (ap written is ∙ q ∙ bits_by_fields b w t.finite_field)

  pattern_of_64 : (a : Admission) → admission b ≡ a → ZeroOrWritten setting b
  pattern_of_64 (number z) e = admitted_pattern z e
  pattern_of_64 (not_admitted c) e = inl (sym (reads_none b w c (sym e)))

pub zero_or_written : (b : ℕ) → ZeroOrWritten setting b
zero_or_written b = go (dec_le 18446744073709551616 b)
  where
    go : Dec (18446744073709551616 ≤ b) → ZeroOrWritten setting b
    go (yes l) = inl (reads_longer b l)
    go (no l) = pattern_of_64 b (omega arith) (admission b) refl
