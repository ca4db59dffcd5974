-- Lifts of numbers of binary64: a quotient in range is the lift, and one out of range is refused, but a lift of zero is zero.
use Rattle.std.proofs.Common.{◌≡◌, ℕ, ◌-◌, ◌^◌, ◌≤◌, true, T, pos, ◌*ℤ◌, sym}
use mathlib.Core.Option.{none, some}
use lib.Ieee.{Float, binary64, fits}
use lib.Ieee.Scale.{finite}
use Rattle.rounding.specs.Value.{value, magnitude}
use Rattle.rounding.proofs.Model.{rounding}
use Rattle.rounding.proofs.FloatRounding.{Rounds}
use Rattle.arithmetic.specs.Operations.{lift}
use Rattle.binary64.specs.Limits.{least, reach, InRange}
use Rattle.binary64.specs.Patterns.{meaning}
use Rattle.binary64.specs.Steps.{lift_steps}
use Rattle.binary64.specs.Means.{held}
use Rattle.binary64.specs.TheMeans.{means}
use Rattle.binary64.proofs.GrainFloats.{lift_rounded, lift_no_nan}
use Rattle.binary64.proofs.LiftAnswers.{lift_yes, lift_no, lift_nil}

rounds : (a : Float) (k : ℕ) → T (fits binary64 a) → finite a ≡ true → k ≤ 192 → Rounds binary64 (rounding 53 (value binary64 a *ℤ pos (2 ^ 53)) (2 ^ 53 - k)) (lift_steps a k)
rounds a k f n h = lift_rounded a k (held binary64 a f n) h

pub lift_in : (a : Float) (k : ℕ) → T (fits binary64 a) → finite a ≡ true → k ≤ 192 → InRange (lift_steps a k) → lift meaning (value binary64 a) k ≡ some (value binary64 (lift_steps a k))
lift_in a k f n h i = sym (lift_yes binary64 least reach meaning means a (lift_steps a k) k h (rounds a k f n h) i)

pub lift_out : (a : Float) (k : ℕ) → T (fits binary64 a) → finite a ≡ true → k ≤ 192 → (magnitude binary64 a ≡ 0 → ⊥) → (InRange (lift_steps a k) → ⊥) → lift meaning (value binary64 a) k ≡ none
lift_out a k f n h z i = sym (lift_no binary64 least reach meaning means a (lift_steps a k) k h (rounds a k f n h) z i)

pub lift_of_zero : (a : Float) (k : ℕ) → k ≤ 192 → magnitude binary64 a ≡ 0 → lift meaning (value binary64 a) k ≡ some (pos 0)
lift_of_zero a k h z = sym (lift_nil binary64 least reach meaning means a k h z)

pub ruleset lifts = (lift_no_nan, lift_in, lift_out, lift_of_zero)
