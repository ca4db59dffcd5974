-- Products of two numbers of binary64: in range the error part is a number and both parts are the definition's; out of range the
-- product is refused, but with a factor zero it is zero.
use Rattle.std.proofs.Common.{◌≡◌, true, T, ◌⊎◌, pos}
use mathlib.Core.Option.{none, some}
use lib.Ieee.{Float, binary64, mul, fits}
use lib.Ieee.Scale.{finite}
use Rattle.rounding.specs.Value.{value, magnitude}
use Rattle.rounding.specs.ErrorFree.{tail}
use Rattle.arithmetic.specs.Operations.{product_split}
use Rattle.binary64.specs.Limits.{least, reach, Small, InRange}
use Rattle.binary64.specs.Patterns.{meaning}
use Rattle.binary64.specs.TheMeans.{means}
use Rattle.binary64.specs.TheRules.{rules}
use Rattle.binary64.proofs.ProductAnswers as P

module _ (a b : Float) (fa : T (fits binary64 a)) (na : finite a ≡ true) (sa : Small a) (fb : T (fits binary64 b)) (nb : finite b ≡ true) (sb : Small b) where
  pub tail_finite : InRange (mul binary64 a b) → finite (tail binary64 a b (mul binary64 a b)) ≡ true
  tail_finite r = (P.tail_fine binary64 least reach meaning means a b (fa, na, sa) (fb, nb, sb) r).1

  pub tail_small : InRange (mul binary64 a b) → Small (tail binary64 a b (mul binary64 a b))
  tail_small r = (P.tail_fine binary64 least reach meaning means a b (fa, na, sa) (fb, nb, sb) r).2

  pub product_in : InRange (mul binary64 a b) → product_split meaning (value binary64 a) (value binary64 b) ≡ some (record { main = value binary64 (mul binary64 a b); error = value binary64 (tail binary64 a b (mul binary64 a b)) })
  product_in = P.split_yes binary64 least reach meaning means a b (fa, na, sa) (fb, nb, sb) rules

  pub product_out : (magnitude binary64 a ≡ 0 → ⊥) → (magnitude binary64 b ≡ 0 → ⊥) → (InRange (mul binary64 a b) → ⊥) → product_split meaning (value binary64 a) (value binary64 b) ≡ none
  product_out = P.split_no binary64 least reach meaning means a b (fa, na, sa) (fb, nb, sb)

  -- ---- with a factor zero
  pub nil_finite : (magnitude binary64 a ≡ 0) ⊎ (magnitude binary64 b ≡ 0) → finite (mul binary64 a b) ≡ true
  nil_finite = P.nil_finite binary64 least reach meaning means a b (fa, na, sa) (fb, nb, sb)

  pub nil_small : (magnitude binary64 a ≡ 0) ⊎ (magnitude binary64 b ≡ 0) → Small (mul binary64 a b)
  nil_small = P.nil_small binary64 least reach meaning means a b (fa, na, sa) (fb, nb, sb)

  pub nil_value : (magnitude binary64 a ≡ 0) ⊎ (magnitude binary64 b ≡ 0) → value binary64 (mul binary64 a b) ≡ pos 0
  nil_value = P.nil_value binary64 least reach meaning means a b (fa, na, sa) (fb, nb, sb)

  pub product_nil : (magnitude binary64 a ≡ 0) ⊎ (magnitude binary64 b ≡ 0) → product_split meaning (value binary64 a) (value binary64 b) ≡ some (record { main = pos 0; error = pos 0 })
  product_nil = P.split_nil binary64 least reach meaning means a b (fa, na, sa) (fb, nb, sb) rules

pub ruleset products = (tail_finite, tail_small, product_in, product_out, nil_finite, nil_small, nil_value, product_nil)
