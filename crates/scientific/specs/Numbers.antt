-- The number that a decimal of the code stands for, in units of 10^−70.
use Rattle.std.specs.Prelude.{◌≡◌, ℕ, ◌-◌, ◌<◌, ◌≤◌, ◌⊎◌, false, ℤ, pos, negsuc, ◌-ℤ◌, Some, None, Option, unsigned_abs}
use Rattle.scientific.specs.Forms.{with_zeros, lowest, highest}
use Rattle.scientific.specs.Patterns.{from_to}
use Rattle.scientific.specs.declared.number.Scientific.{Scientific}

abbrev pub units : Scientific → ℤ
units n = with_zeros n.significand n.zeros

-- z units as a number; none exactly above 10^40
abbrev pub Formed : ℤ → Option Scientific → Type 0
Formed z (Some x) = units x ≡ z
Formed z None = highest < unsigned_abs z

-- the same within both limits; none exactly outside them
abbrev pub FormedInLimits : ℤ → Option Scientific → Type 0
FormedInLimits z (Some x) = (units x ≡ z) × (lowest ≤ unsigned_abs z)
FormedInLimits z None = (unsigned_abs z < lowest) ⊎ (highest < unsigned_abs z)

-- the zeros that e stands for, e + 70; none exactly where e is not from −70 to 41 − d
abbrev pub Behind : ℕ → ℤ → Option ℕ → Type 0
Behind d e (Some k) = (e ≡ pos k -ℤ pos 70) × (k ≤ 111 - d)
Behind d e None = from_to (negsuc 69) (pos (41 - d)) e ≡ false
