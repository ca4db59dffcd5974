-- A finite float at most 2^900 in size is a number, here by the two parts of the definition, and no NaN. One is a number.
use Rattle.std.proofs.Common.{◌≡◌, ◌≤◌, true, T, pos, nat_abs, refl}
use lib.Ieee.{Float, binary64, fits, of_bits}
use lib.Ieee.Bits.{of_bits-fits}
use lib.Ieee.Fits.{mul-fits, neg-fits}
use lib.Ieee.Scale.{finite}
use Rattle.rounding.specs.Value.{value, magnitude}
use Rattle.binary64.specs.Limits.{least, reach, Small}
use Rattle.binary64.specs.Patterns.{meaning}
use Rattle.binary64.specs.Means.{at_most}
use Rattle.binary64.proofs.NotNan.{finite_no_nan, mul_no_nan}
use Rattle.binary64.specs.TheMeans.{means, is_number}

pub float_unchanged : (x : Float) → T (fits binary64 x) → finite x ≡ true → Small x → meaning.rounding (value binary64 x) meaning.Q ≡ value binary64 x
float_unchanged x f n s = (is_number x (f, n, s)).unchanged

pub float_bounded : (x : Float) → Small x → nat_abs (value binary64 x) ≤ meaning.high
float_bounded x s = at_most binary64 least reach meaning means x s

-- with what fits the format and what is no NaN of the floats that the functions make
pub ruleset numbers = (float_unchanged, float_bounded, of_bits-fits, neg-fits, mul-fits, finite_no_nan, mul_no_nan)

pub one_value : value binary64 (of_bits binary64 4607182418800017408) ≡ pos meaning.Q
unfolding of_bits value magnitude meaning
one_value = refl
