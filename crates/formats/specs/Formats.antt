-- The formats of numbers: which number names each in the header of a sheet, and what its arithmetic means.
use Rattle.std.specs.Prelude.{ℕ, cond, ◌&&◌, Option, None, Some, ◌==◌, nat_le}
use Rattle.arithmetic.specs.Meaning.{Meaning}
use Rattle.binary64.specs.Patterns.{meaning as meaning_of_binary64}
use Rattle.scientific.specs.Patterns.{meaning as meaning_of_decimal}

pub data Format : Type 0 where
  binary64 : Format
  -- with so many digits
  decimal : ℕ → Format

-- the format with a number: 1 is binary64, 2 decimal with eight digits, and 4 to 7 decimal with so many
abbrev pub format_of : ℕ → Option Format
format_of n = cond (n == 1) (Some binary64) (cond (n == 2) (Some (decimal 8)) (cond (nat_le 4 n && nat_le n 7) (Some (decimal n)) None))

-- the meaning of the arithmetic of a format
abbrev pub meaning_of : Format → Meaning
meaning_of binary64 = meaning_of_binary64
meaning_of (decimal d) = meaning_of_decimal d
