-- The limits of size, 2^-900 and 2^900. A unit is the smallest positive value, 2^-1074, so they are 2^174 and 2^1974 units.
use Rattle.std.specs.Prelude.{◌≡◌, ℕ, ◌^◌, ◌≤◌, true, Float}
use Rattle.std.specs.Float.{binary64}
use Rattle.std.specs.Float.Ieee.Scale.{finite}
use Rattle.rounding.specs.Value.{magnitude}

-- 2^least units are 2^-900
unfoldable pub least : ℕ
least = 174

-- 2^reach units are 2^900
unfoldable pub reach : ℕ
reach = 1974

-- at most 2^900 in size
abbrev pub Small : Float → Type 0
Small x = magnitude binary64 x ≤ 2 ^ reach

-- finite, and from 2^-900 to 2^900 in size
abbrev pub InRange : Float → Type 0
InRange x = (finite x ≡ true) × Small x × (2 ^ least ≤ magnitude binary64 x)
