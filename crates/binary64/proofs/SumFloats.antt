-- Sums of two numbers of binary64: the rounded sum is finite, the error part is a number, and the sum is refused exactly above 2^900.
use Rattle.std.proofs.Common.{◌≡◌, true, T}
use mathlib.Core.Option.{none, some}
use lib.Ieee.{Float, binary64, add, fits}
use lib.Ieee.Scale.{finite}
use Rattle.rounding.specs.Value.{value}
use Rattle.rounding.specs.ErrorFree.{rest}
use Rattle.arithmetic.specs.Operations.{sum_split}
use Rattle.binary64.specs.Limits.{least, reach, Small}
use Rattle.binary64.specs.Patterns.{meaning}
use Rattle.binary64.specs.TheMeans.{means}
use Rattle.binary64.specs.SumAnswers as S

module _ (a b : Float) (fa : T (fits binary64 a)) (na : finite a ≡ true) (sa : Small a) (fb : T (fits binary64 b)) (nb : finite b ≡ true) (sb : Small b) where
  pub sum_finite : finite (add binary64 a b) ≡ true
  sum_finite = S.sum_finite binary64 least reach meaning means a b (fa, na, sa) (fb, nb, sb)

  pub rest_finite : finite (rest binary64 a b) ≡ true
  rest_finite = (S.rest_fine binary64 least reach meaning means a b (fa, na, sa) (fb, nb, sb)).1

  pub rest_small : Small (rest binary64 a b)
  rest_small = (S.rest_fine binary64 least reach meaning means a b (fa, na, sa) (fb, nb, sb)).2

  pub sum_in : Small (add binary64 a b) → sum_split meaning (value binary64 a) (value binary64 b) ≡ some (record { main = value binary64 (add binary64 a b); error = value binary64 (rest binary64 a b) })
  sum_in = S.split_yes binary64 least reach meaning means a b (fa, na, sa) (fb, nb, sb)

  pub sum_out : (Small (add binary64 a b) → ⊥) → sum_split meaning (value binary64 a) (value binary64 b) ≡ none
  sum_out = S.split_no binary64 least reach meaning means a b (fa, na, sa) (fb, nb, sb)

pub ruleset sums = (sum_finite, rest_finite, rest_small, sum_in, sum_out)
