-- A rounded result and its error part as numbers.
use Rattle.std.specs.Prelude.{◌≡◌, ℕ, ◌<◌, ◌≤◌, ◌⊎◌, ℤ, ◌-ℤ◌, Some, None, Option, unsigned_abs}
use Rattle.rounding.specs.Radix.{rounding}
use Rattle.scientific.specs.Forms.{lowest, highest}
use Rattle.scientific.specs.Numbers.{units}
use Rattle.scientific.specs.declared.number.Scientific.{Scientific}

-- a whole number rounded to d digits
abbrev pub rounded_to : ℕ → ℤ → ℤ
rounded_to d z = rounding 10 d 1 z 1

-- its error part: what the rounded one lacks of it
abbrev pub error : ℕ → ℤ → ℤ
error d z = z -ℤ rounded_to d z

-- z units rounded, and the error part; none exactly where the rounded ones are above 10^40
abbrev pub SplitFormed : ℕ → ℤ → Option (Scientific × Scientific) → Type 0
SplitFormed d z (Some p) = (units p.0 ≡ rounded_to d z) × (units p.1 ≡ error d z)
SplitFormed d z None = highest < unsigned_abs (rounded_to d z)

-- the same within both limits; none exactly where the rounded ones are outside them
abbrev pub SplitInLimits : ℕ → ℤ → Option (Scientific × Scientific) → Type 0
SplitInLimits d z (Some p) = (units p.0 ≡ rounded_to d z) × (units p.1 ≡ error d z) × (lowest ≤ unsigned_abs (rounded_to d z))
SplitInLimits d z None = (unsigned_abs (rounded_to d z) < lowest) ⊎ (highest < unsigned_abs (rounded_to d z))
