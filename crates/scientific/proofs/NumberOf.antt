-- The numbers of an arithmetic of d digits: a size m · 10^e with m below 10^d, at most 10^40.
use Rattle.std.proofs.Common.{ℕ, ◌^◌, ◌<◌, ◌≤◌, ℤ, nat_abs, sym, mul-one, lit≤}
use Rattle.rounding.specs.Digits.{Digits}
use Rattle.rounding.specs.Laws.{Laws}
use Rattle.rounding.proofs.Laws.{laws}
use Rattle.arithmetic.specs.Meaning.{Number}
use Rattle.scientific.specs.Forms.{highest}
use Rattle.scientific.specs.Patterns.{meaning}

pub law : (d : ℕ) → 1 ≤ d → Laws 10 d (10 ^ 70)
law d h = laws 10 d (10 ^ 70) (lit≤ tt) h (lit≤ tt)

-- at most eight digits
pub eight_digits : (x : ℕ) → x < 100000000 → Digits 10 8 x
eight_digits x h = record { m = x; e = 0; is = sym (mul-one x); few = h }

pub bound_of : (d : ℕ) (z : ℤ) → Number (meaning d) z → nat_abs z ≤ highest
unfolding meaning
bound_of d z n = n.bounded

pub number_of : (d : ℕ) (z : ℤ) → 1 ≤ d → Digits 10 d (nat_abs z) → nat_abs z ≤ highest → Number (meaning d) z
unfolding meaning
number_of d z h k l = record { unchanged = (law d h).number_stays z k; bounded = l }
