-- What the tests of a bit pattern without its sign tell: up to the bits of 2^900 it is a number's pattern, above them none.
use Rattle.std.proofs.Common.{◌≡◌, ℕ, ◌%◌, ◌<◌, ◌≤◌, true, pos, sym, arith}
use native.Mathlib.Decide.{dec_le}
use lib.Ieee.{binary64, of_bits}
use lib.Ieee.Scale.{finite}
use Rattle.rounding.specs.Value.{value}
use Rattle.binary64.specs.Limits.{Small}
use Rattle.binary64.specs.Patterns.{reads}
use Rattle.binary64.specs.BitLimits.{sign_bit, high_pattern, infinity_pattern}
use Rattle.binary64.specs.Fields.{no_nan_bits, bits_fine, bits_yes, bits_large, bits_infinite, reads_number, reads_none}

pub bits_finite : (b : ℕ) → b < 18446744073709551616 → b % sign_bit ≤ high_pattern → finite (of_bits binary64 b) ≡ true
bits_finite b w h = (bits_fine b w h).1

pub bits_small : (b : ℕ) → b < 18446744073709551616 → b % sign_bit ≤ high_pattern → Small (of_bits binary64 b)
bits_small b w h = (bits_fine b w h).2

pub ruleset finite_bits = (no_nan_bits, bits_finite, bits_small)

pub bits_read : (b : ℕ) → b < 18446744073709551616 → b % sign_bit ≤ high_pattern → reads b ≡ value binary64 (of_bits binary64 b)
bits_read b w h = sym (reads_number b w _ (bits_yes b w h))

pub bits_none : (b : ℕ) → b < 18446744073709551616 → high_pattern < b % sign_bit → reads b ≡ pos 0
bits_none b w h = go (dec_le infinity_pattern (b % sign_bit))
  where
    go : Dec (infinity_pattern ≤ b % sign_bit) → reads b ≡ pos 0
    go (yes l) = sym (reads_none b w 1 (bits_infinite b l))
    go (no l) = sym (reads_none b w 2 (bits_large b w h (omega arith)))

pub ruleset readings = (finite_bits, bits_read, bits_none)

pub ruleset admissions = (finite_bits, bits_yes, bits_large, bits_infinite)
