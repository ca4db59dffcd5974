-- The steps of a grain and of a lift as the code takes them, each operation rounded once.
use Rattle.std.specs.Prelude.{ℕ, pos, from_bits, Float}
use Rattle.std.specs.Float.{binary64}
use Rattle.std.specs.Float.Ieee.{of_int, sub, mul, div}

-- k u, with u = 2^-53
abbrev pub grain_steps : ℕ → Float
grain_steps k = mul binary64 (of_int binary64 (pos k)) (from_bits binary64 4368491638549381120)

-- a / (1 − k u)
abbrev pub lift_steps : Float → ℕ → Float
lift_steps a k = div binary64 a (sub binary64 (from_bits binary64 4607182418800017408) (grain_steps k))
