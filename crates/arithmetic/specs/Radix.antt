-- The arithmetics of p digits in radix β, with β^q units to 1: binary64, binary32 and decimal with d digits are such.
use Rattle.std.specs.Prelude.{ℕ, ◌-◌, ◌*◌, ◌^◌, List, ℤ}
use Rattle.rounding.specs.Radix.{rounding}
use Rattle.arithmetic.specs.Meaning.{Meaning, Admission}

-- low and high in units of β^−q; U is 2 β^(p−1)
abbrev pub radix : ℕ → ℕ → ℕ → ℕ → ℕ → (List ℕ → Admission) → (ℤ → List ℕ) → Meaning
radix β p q low high admit pattern =
    record { Q = β ^ q; U = 2 * β ^ (p - 1); low = low; high = high; rounding = rounding β p (β ^ q); admit = admit; pattern = pattern }
