-- What the rules say of an accepted operation: its result is a number, and near the exact result with the scale cancelled.
-- Where nothing is rounded (a zero or a one as operand) the result is the operand.
use Rattle.std.proofs.Common.{◌≡◌, ℕ, ◌-◌, ◌*◌, ◌/◌, ◌<◌, ◌≤◌, ◌&&◌, ◌||◌, T, eqb, leb, ℤ, pos, negsuc, ◌+ℤ◌, ◌*ℤ◌, nat_abs, sym, ap, ◌∙◌, subst, ⊎_elim, mul_comm, mul-pos, arith, lit≤, eqb→eq, leb→le}
use native.Mathlib.Nat.{zero-div}
use mathlib.Core.Option.{some}
use lib.IntN.{+ℤ_idl, +ℤ_idr, *ℤ-zero}
use Rattle.std.proofs.lemmas.Int.{ints}
use Rattle.integers.proofs.Integers.{abs_mul, times_times}
use Rattle.integers.proofs.Tests.{some_from, either, both}
use Rattle.arithmetic.specs.Meaning.{Meaning, Number}
use Rattle.arithmetic.specs.Operations.{sum, product, lift, grain, in_range, size}
use Rattle.arithmetic.specs.Rules.{Close, Rules}
use Rattle.arithmetic.proofs.Near.{Near, near_without}

module _ (m : Meaning) (R : Rules m) where
  abbrev Q : ℕ
  Q = m.Q

  abbrev U : ℕ
  U = m.U

  -- ---- zero
  grain_zero : grain m 0 ≡ pos 0
  unfolding grain
  grain_zero = ap pos (ap (λ x. x / U) e ∙ zero-div U)
    where
      e : 0 * m.Q ≡ 0
      e = omega arith

  pub zero_is_number : Number m (pos 0)
  zero_is_number = subst (Number m) grain_zero (R.grain_is_number 0 (lit≤ tt))

  pub rounding_zero : (d : ℕ) → 0 < d → m.rounding (pos 0) d ≡ pos 0
  rounding_zero d h = R.one_for_each (pos 0) (pos 0) d Q h R.some_scale (omega (arith, ints)) ∙ zero_is_number.unchanged

  abs_zero : (z : ℤ) → nat_abs z ≡ 0 → z ≡ pos 0
  abs_zero (pos n) h = ap pos h
  abs_zero (negsuc n) h = absurd (omega arith)

  -- ---- what is given is a number
  pub sum_number : (a b r : ℤ) → sum m a b ≡ some r → Number m r
  unfolding sum
  sum_number a b r e = record { unchanged = rw (← t.1) (R.twice_is_once (a +ℤ b) Q R.some_scale); bounded = rw (← t.1) (leb→le _ _ t.0) }
    where
      t : T (leb (nat_abs (m.rounding (a +ℤ b) m.Q)) m.high) × (m.rounding (a +ℤ b) m.Q ≡ r)
      t = some_from _ _ _ e

  ranged_number : (exact n r : ℤ) (d : ℕ) → 0 < d → (nat_abs exact ≡ 0 → n ≡ pos 0) → in_range m exact (m.rounding n d) ≡ some r → Number m r
  ranged_number exact n r d h z e = record { unchanged = rw (← t.1) (R.twice_is_once n d h); bounded = rw (← t.1) (⊎_elim none_left fits (either _ _ t.0)) }
    where
      t : T (eqb (nat_abs exact) 0 || (leb m.low (nat_abs (m.rounding n d)) && leb (nat_abs (m.rounding n d)) m.high)) × (m.rounding n d ≡ r)
      t = some_from _ _ _ e

      none_left : T (eqb (nat_abs exact) 0) → nat_abs (m.rounding n d) ≤ m.high
      none_left k = rw (z (eqb→eq _ _ k), rounding_zero d h) zero_is_number.bounded

      fits : T (leb m.low (nat_abs (m.rounding n d)) && leb (nat_abs (m.rounding n d)) m.high) → nat_abs (m.rounding n d) ≤ m.high
      fits k = leb→le _ _ (both (leb m.low (nat_abs (m.rounding n d))) (leb (nat_abs (m.rounding n d)) m.high) k).1

  pub product_number : (a b r : ℤ) → product m a b ≡ some r → Number m r
  unfolding product
  product_number a b r e = ranged_number (a *ℤ b) (a *ℤ b) r (Q * Q) (mul-pos R.some_scale R.some_scale) (abs_zero (a *ℤ b)) e

  left : (k : ℕ) → k ≤ 192 → 0 < U - k
  left k h = omega (arith, R.fine)

  pub lift_number : (a r : ℤ) (k : ℕ) → k ≤ 192 → lift m a k ≡ some r → Number m r
  unfolding lift
  lift_number a r k h e = ranged_number a (a *ℤ pos U) r (Q * (U - k)) (mul-pos R.some_scale (left k h)) (λ z. rw (abs_zero a z) (omega (arith, ints))) e

  pub size_number : (a : ℤ) → Number m a → Number m (size a)
  size_number (pos n) h = h
  size_number (negsuc n) h = R.negative_is_number (negsuc n) h

  -- ---- the errors
  pub sum_near : (a b r : ℤ) → Number m a → Number m b → sum m a b ≡ some r → Near U r (a +ℤ b)
  sum_near a b r ha hb e = near_without U r (a +ℤ b) Q R.some_scale (record { by_exact = rw (abs_mul (a +ℤ b) (pos Q)) c.by_exact; by_rounded = rw (abs_mul r (pos Q)) c.by_rounded })
    where
      c : Close m (a +ℤ b) m.Q r
      c = R.sum_close a b r ha hb e

  pub product_near : (a b r : ℤ) → Number m a → Number m b → product m a b ≡ some r → Near U (r *ℤ pos Q) (a *ℤ b)
  product_near a b r ha hb e = near_without U (r *ℤ pos Q) (a *ℤ b) Q R.some_scale
      (record { by_exact = rw (two, abs_mul (a *ℤ b) (pos Q)) c.by_exact; by_rounded = rw (two, abs_mul r (pos (Q * Q))) c.by_rounded })
    where
      c : Close m (a *ℤ b) (m.Q * m.Q) r
      c = R.product_close a b r ha hb e

      two : (r *ℤ pos Q) *ℤ pos Q ≡ r *ℤ pos (Q * Q)
      two = times_times r Q Q

  pub lift_near : (a r : ℤ) (k : ℕ) → k ≤ 192 → Number m a → lift m a k ≡ some r → Near U (r *ℤ pos (U - k)) (a *ℤ pos U)
  lift_near a r k h ha e = near_without U (r *ℤ pos (U - k)) (a *ℤ pos U) Q R.some_scale
      (record { by_exact = rw (two, abs_mul (a *ℤ pos U) (pos Q)) c.by_exact; by_rounded = rw (two, abs_mul r (pos (Q * (U - k)))) c.by_rounded })
    where
      c : Close m (a *ℤ pos m.U) (m.Q * (m.U - k)) r
      c = R.lift_close a r k h ha e

      two : (r *ℤ pos (U - k)) *ℤ pos Q ≡ r *ℤ pos (Q * (U - k))
      two = times_times r (U - k) Q ∙ ap (λ n. r *ℤ pos n) (mul_comm (U - k) Q)

  -- ---- where nothing is rounded
  sum_is : (a b r : ℤ) → sum m a b ≡ some r → m.rounding (a +ℤ b) Q ≡ r
  unfolding sum
  sum_is a b r e = (some_from _ _ _ e).1

  product_is : (a b r : ℤ) → product m a b ≡ some r → m.rounding (a *ℤ b) (Q * Q) ≡ r
  unfolding product
  product_is a b r e = (some_from _ _ _ e).1

  pub sum_zero_left : (b r : ℤ) → Number m b → sum m (pos 0) b ≡ some r → r ≡ b
  sum_zero_left b r h e = sym (sum_is (pos 0) b r e) ∙ ap (λ z. m.rounding z Q) (+ℤ_idl b) ∙ h.unchanged

  pub sum_zero_right : (b r : ℤ) → Number m b → sum m b (pos 0) ≡ some r → r ≡ b
  sum_zero_right b r h e = sym (sum_is b (pos 0) r e) ∙ ap (λ z. m.rounding z Q) (+ℤ_idr b) ∙ h.unchanged

  pub product_zero : (a r : ℤ) → product m a (pos 0) ≡ some r → r ≡ pos 0
  product_zero a r e = sym (product_is a (pos 0) r e) ∙ ap (λ z. m.rounding z (Q * Q)) (*ℤ-zero a) ∙ rounding_zero (Q * Q) (mul-pos R.some_scale R.some_scale)

  pub product_one : (a r : ℤ) → Number m a → product m a (pos Q) ≡ some r → r ≡ a
  product_one a r h e = sym (product_is a (pos Q) r e) ∙ R.one_for_each (a *ℤ pos Q) a (Q * Q) Q (mul-pos R.some_scale R.some_scale) R.some_scale (times_times a Q Q) ∙ h.unchanged
