-- Grains: k u is 5 k units of 10^(70−d), since U times that is k Q.
use Rattle.std.proofs.Common.{◌≡◌, ℕ, ◌+◌, ◌-◌, ◌*◌, ◌^◌, ◌<◌, ◌≤◌, pos, ◌*ℤ◌, nat_abs, sym, ap, ◌∙◌, mul-pos, arith, lit<, pow-add, w64, to_z, of_z}
use Rattle.std.proofs.lemmas.Int.{ints}
use Rattle.integers.proofs.Integers.{factor_cancels}
use Rattle.arithmetic.specs.Meaning.{Number}
use Rattle.arithmetic.specs.Operations.{grain}
use Rattle.scientific.specs.Forms.{with_zeros, highest}
use Rattle.scientific.specs.Patterns.{meaning}
use Rattle.scientific.specs.declared.precision.Precision.{Precision}
use Rattle.scientific.proofs.Tens.{some_ten}
use Rattle.scientific.proofs.NumberOf.{bound_of}
use Rattle.scientific.proofs.TheRules.{rules}

-- ten to the 70 in parts
parts : (d : ℕ) → 1 ≤ d → d ≤ 8 → 10 ^ 70 ≡ 10 ^ (d - 1) * (10 * 10 ^ (70 - d))
parts d h l = ap (λ x. 10 ^ x) (sum d h l) ∙ pow-add 10 (d - 1) (1 + (70 - d)) ∙ ap (λ x. 10 ^ (d - 1) * x) (pow-add 10 1 (70 - d))
  where
    sum : (d : ℕ) → 1 ≤ d → d ≤ 8 → 70 ≡ (d - 1) + (1 + (70 - d))
    sum d h l = omega arith

times_U : (d k : ℕ) → 1 ≤ d → d ≤ 8 → pos (k * 5 * 10 ^ (70 - d)) *ℤ pos (meaning d).U ≡ pos k *ℤ pos (meaning d).Q
unfolding meaning
times_U d k h l = ap pos (regroup k (10 ^ (d - 1)) (10 ^ (70 - d)) ∙ ap (λ x. k * x) (sym (parts d h l)))
  where
    regroup : (k H x : ℕ) → k * 5 * x * (2 * H) ≡ k * (H * (10 * x))
    regroup k H x = omega arith

some_U : (d : ℕ) → 0 < (meaning d).U
unfolding meaning
some_U d = mul-pos (lit< tt) (some_ten (d - 1))

module _ (p : Precision) (k : ℕ) (few : k ≤ 192) where
  abbrev d : ℕ
  d = p.digits

  grain_units : pos (k * 5 * 10 ^ (70 - d)) ≡ grain (meaning d) k
  grain_units = factor_cancels (pos (k * 5 * 10 ^ (70 - d))) (grain (meaning d) k) (meaning d).U (some_U d) (times_U d k (omega arith) p.most ∙ sym ((rules p).grain_is_exact k few))

  -- 5 k as the machine has it
  kept : to_z w64 (of_z w64 (to_z w64 k *ℤ pos 5)) ≡ pos (k * 5)
  kept = omega (arith, ints, few)

  pub grain_is : grain (meaning p.digits) k ≡ with_zeros (to_z w64 (of_z w64 (to_z w64 k *ℤ pos 5))) (70 - p.digits)
  grain_is = rw kept (sym grain_units)

  -- it is not above 10^40
  pub grain_small : nat_abs (with_zeros (to_z w64 (of_z w64 (to_z w64 k *ℤ pos 5))) (70 - p.digits)) ≤ highest
  grain_small = rw (← grain_is) (bound_of d (grain (meaning d) k) ((rules p).grain_is_number k few))

  grain_number : Number (meaning p.digits) (grain (meaning p.digits) k)
  grain_number = (rules p).grain_is_number k few

  pub grain_unchanged : with_zeros (to_z w64 (of_z w64 (to_z w64 k *ℤ pos 5))) (70 - p.digits) ≡ (meaning p.digits).rounding (with_zeros (to_z w64 (of_z w64 (to_z w64 k *ℤ pos 5))) (70 - p.digits)) (meaning p.digits).Q
  grain_unchanged = rw (← grain_is) (sym grain_number.unchanged)

  pub grain_bounded : nat_abs (with_zeros (to_z w64 (of_z w64 (to_z w64 k *ℤ pos 5))) (70 - p.digits)) ≤ (meaning p.digits).high
  grain_bounded = rw (← grain_is) grain_number.bounded
