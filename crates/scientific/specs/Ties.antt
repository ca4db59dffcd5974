-- Ties go to the even M. The rounding is defined by the significand at the exponent of the exact value; this says the same of the
-- M that the rounded number is written with, in its one form.
use Rattle.std.specs.Prelude.{◌≡◌, ℕ, ◌%◌, ◌<◌, ◌≤◌, ℤ, unsigned_abs}
use Rattle.rounding.specs.Digits.{Number}
use Rattle.rounding.specs.Laws.{off}
use Rattle.scientific.specs.Patterns.{meaning, written}

-- y is another number of d digits that is as near to the fraction z / n as its rounding
pub record Tie (d : ℕ) (z : ℤ) (n : ℕ) (y : ℤ) : Type 0 where
  pub is_number : Number 10 d y
  pub another : ¬ (y ≡ (meaning d).rounding z n)
  pub as_near : off (meaning d).Q z n y ≡ off (meaning d).Q z n ((meaning d).rounding z n)

-- where there is such a tie, the rounding is written with an even M
abbrev pub TiesToEvenM : Type 0
TiesToEvenM = (d : ℕ) → 4 ≤ d → d ≤ 8 → (z : ℤ) (n : ℕ) → 0 < n → (y : ℤ) → Tie d z n y → unsigned_abs (written d ((meaning d).rounding z n)).m % 2 ≡ 0
