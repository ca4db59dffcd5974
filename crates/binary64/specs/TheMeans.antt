-- The meaning of binary64 is that of a binary format: the rounding of the definitions in radix 2 is the rounding of the floats,
-- and the limits leave room, by closed comparisons.
use Rattle.std.specs.Prelude.{◌^◌, refl, Float}
use Rattle.std.proofs.Common.{lit<, lit≤}
use Rattle.std.specs.Float.{binary64}
use Rattle.rounding.specs.Value.{value}
use Rattle.rounding.proofs.Bridge.{in_units}
use Rattle.arithmetic.specs.Meaning.{Number}
use Rattle.binary64.specs.Limits.{least, reach}
use Rattle.binary64.specs.Patterns.{meaning}
use Rattle.binary64.specs.Means.{Means, Fine, number_of}

pub means : Means binary64 least reach meaning
unfolding meaning least reach
means = record {
  scale = refl;
  unit = refl;
  lower = refl;
  upper = refl;
  rounds = λ z d D. in_units 53 (2 ^ 1074) z d (lit< tt) (lit< tt) D;
  sum_room = lit< tt;
  product_room = lit< tt;
  below = 173;
  least_is = refl;
  low_room = lit≤ tt;
  high_room = lit≤ tt;
  grains = lit< tt;
}

pub is_number : (x : Float) → Fine binary64 reach x → Number meaning (value binary64 x)
is_number x h = number_of binary64 least reach meaning means x h
