-- Grains and the divisors of lifts: k u and 1 − k u are exact as floats, so a lift is one rounding, and no NaN.
use Rattle.std.proofs.Common.{◌≡◌, ℕ, zero, suc, ◌-◌, ◌*◌, ◌/◌, ◌^◌, ◌<◌, ◌≤◌, true, false, not, T, ℤ, pos, ◌*ℤ◌, nat_abs, sym, refl, ap, ◌∙◌, subst, lt_irrefl, mul_assoc, mul_comm, mul-pos, mul-div_cancel, arith, lit<, pow_pos}
use lib.Ieee.{Float, fin, binary64, fits, mul, sub, of_int, of_bits, is_nan}
use lib.Ieee.Fits.{mul-fits}
use lib.Ieee.Scale.{finite}
use Rattle.rounding.specs.Value.{value, magnitude}
use Rattle.rounding.proofs.Model.{rounding}
use Rattle.rounding.proofs.Floats.{Held}
use Rattle.rounding.proofs.FloatRounding.{Rounds}
use Rattle.rounding.proofs.Lifts.{grain_exact, less_exact, lift_rounds, ulp, rest, one_is}
use Rattle.arithmetic.specs.Operations.{grain}
use Rattle.binary64.specs.Limits.{reach, least, Small}
use Rattle.binary64.specs.Patterns.{meaning}
use Rattle.binary64.specs.Steps.{grain_steps, lift_steps}
use Rattle.binary64.specs.Means.{Fine, true_of, abs_value, small_of}
use Rattle.binary64.specs.TheMeans.{means}
use Rattle.binary64.specs.TheRules.{rules}
use Rattle.binary64.proofs.NotNan.{div_no_nan}

ulp_is : of_bits binary64 4368491638549381120 ≡ ulp binary64
unfolding of_bits
ulp_is = refl

one_float : of_bits binary64 4607182418800017408 ≡ fin false 1 (pos 0)
unfolding of_bits
one_float = refl

-- ---- grains
in_units : (k : ℕ) → pos (k * 2 ^ rest binary64) ≡ grain meaning k
unfolding grain meaning
in_units k = ap pos (sym (shape k (2 ^ 1074) (2 ^ 53) (2 ^ 1021) (lit< tt) refl))
  where
    shape : (k Q U R : ℕ) → 0 < U → Q ≡ U * R → k * Q / U ≡ k * R
    shape k Q U R p e = ap (λ (z : ℕ). k * z / U) (e ∙ mul_comm U R) ∙ ap (λ (z : ℕ). z / U) (sym (mul_assoc k R U)) ∙ mul-div_cancel (k * R) p

exact_grain : (k : ℕ) → k ≤ 192 → Held binary64 (grain_steps k) × (value binary64 (grain_steps k) ≡ pos (k * 2 ^ rest binary64))
exact_grain k h = simp ulp_is (grain_exact binary64 k (omega arith))

pub grain_value : (k : ℕ) → k ≤ 192 → value binary64 (grain_steps k) ≡ grain meaning k
grain_value k h = (exact_grain k h).1 ∙ in_units k

grain_fine : (k : ℕ) → k ≤ 192 → Fine binary64 reach (grain_steps k)
grain_fine k h = (
  mul-fits binary64 _ _,
  true_of (finite (grain_steps k)) (exact_grain k h).0.1,
  small_of binary64 least reach meaning means (grain_steps k) (subst (λ (z : ℤ). nat_abs z ≤ meaning.high) (sym (grain_value k h)) (rules.grain_is_number k h).bounded),
)

pub grain_finite : (k : ℕ) → k ≤ 192 → finite (grain_steps k) ≡ true
grain_finite k h = (grain_fine k h).1

pub grain_small : (k : ℕ) → k ≤ 192 → Small (grain_steps k)
grain_small k h = (grain_fine k h).2

pub ruleset grains = (grain_finite, grain_small, grain_value)

-- ---- the divisor
abbrev divisor : ℕ → Float
divisor k = sub binary64 (of_bits binary64 4607182418800017408) (grain_steps k)

divisor_one : divisor 0 ≡ fin false 1 (pos 0)
unfolding sub mul of_int of_bits
divisor_one = refl

one_facts : Held binary64 (fin false 1 (pos 0)) × (value binary64 (fin false 1 (pos 0)) ≡ pos (2 ^ 53 * 2 ^ rest binary64))
unfolding fits value magnitude
one_facts = ((tt, tt), refl)

exact_divisor : (k : ℕ) → k ≤ 192 → Held binary64 (divisor k) × (value binary64 (divisor k) ≡ pos ((2 ^ 53 - k) * 2 ^ rest binary64))
exact_divisor zero h = subst (λ (d : Float). Held binary64 d × (value binary64 d ≡ pos (2 ^ 53 * 2 ^ rest binary64))) (sym divisor_one) one_facts
exact_divisor (suc k) h = simp (one_float, ulp_is) (less_exact binary64 (suc k) (omega arith) (omega arith))

pub lift_rounded : (a : Float) (k : ℕ) → Held binary64 a → k ≤ 192 → Rounds binary64 (rounding 53 (value binary64 a *ℤ pos (2 ^ 53)) (2 ^ 53 - k)) (lift_steps a k)
lift_rounded a k ha h = let d = exact_divisor k h in lift_rounds binary64 (2 ^ 53) k (rest binary64) a (divisor k) (omega arith) (one_is binary64) ha d.0 d.1

pub lift_no_nan : (a : Float) (k : ℕ) → finite a ≡ true → k ≤ 192 → T (not (is_nan (lift_steps a k)))
lift_no_nan a k n h =
    let d = exact_divisor k h in
    div_no_nan binary64 a (divisor k) n (true_of (finite (divisor k)) d.0.1) (λ z. lt_irrefl 0 (subst (λ (x : ℕ). 0 < x) (sym (ap nat_abs d.1) ∙ abs_value binary64 (divisor k) ∙ z) (mul-pos (left k h) (pow_pos (rest binary64)))))
  where
    left : (k : ℕ) → k ≤ 192 → 0 < 2 ^ 53 - k
    left k h = omega arith
