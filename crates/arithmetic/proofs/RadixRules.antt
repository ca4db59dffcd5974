-- The rules, shown once for p digits in radix B with B^q units to 1. Each follows from a law of rounding and the limits.
-- A number is what rounding leaves unchanged and is at most high, and the former says that it has p digits. The exact sum of
-- two numbers is a whole number of units, so that its rounding is close. An accepted product or lift is exactly zero, and then
-- rounds to zero, or is rounded to at least low, which is B^(2p) units or more: so its rounding is close, and a product has an
-- error part. An error part is no larger than the rounded result, since that is close, and so is at most high. The grain k is
-- k · half · B^(q−p) units, since U is 2 · B^(p−1) and the radix is 2 · half; as k · half is below B^p, it has p digits.
use Rattle.std.proofs.Common.{◌≡◌, ℕ, ◌-◌, ◌*◌, ◌/◌, ◌^◌, ◌<◌, ◌≤◌, ◌&&◌, T, eqb, leb, ◌⊎◌, List, length, ℤ, pos, ◌+ℤ◌, ◌-ℤ◌, ◌*ℤ◌, neg_ℤ, nat_abs, sym, refl, ap, ◌∙◌, subst, inl, inr, ⊎_elim, le_trans, le_refl, lt_of_le_of_lt, mul-le-mul_right, add-sub_of_le, mul-pos, one-mul, le_of_mul-le-mul_right, mul-div_cancel, arith, eqb→eq, leb→le, pow-add}
use mathlib.Core.Option.{some}
use Rattle.std.specs.List.{All}
use lib.IntN.{*ℤ_comm}
use lib.Signed.{quot_z}
use Rattle.std.proofs.lemmas.Int.{ints}
use Rattle.integers.proofs.Ring.{ring, at, num, ◌⊕◌, ◌⊗◌, ⊖◌}
use Rattle.integers.proofs.Integers.{abs_mul, abs_neg, quot_exact, times_times}
use Rattle.integers.proofs.Naturals.{some_power}
use Rattle.integers.proofs.Tests.{some_from, either, both}
use Rattle.rounding.specs.Digits.{Digits}
use Rattle.rounding.specs.Radix.{rounding}
use Rattle.rounding.specs.Laws.{Laws, ProductPart}
use Rattle.rounding.proofs.Rounded.{H_is}
use Rattle.rounding.proofs.Errors.{more_than_H}
use Rattle.rounding.proofs.Laws.{laws}
use Rattle.arithmetic.specs.Meaning.{Meaning, Admission, number, Number}
use Rattle.arithmetic.specs.Operations.{sum, product, lift, grain, in_range, sum_error, product_error}
use Rattle.arithmetic.specs.Rules.{Close, Rules}
use Rattle.arithmetic.specs.Radix.{radix}

-- what a format has to fulfil, in plain comparisons; `half` is half of the radix
pub record Lawful (B p q low high : ℕ) : Type 0 where
  pub half : ℕ
  pub even : B ≡ 2 * half
  pub base : 2 ≤ B
  pub digits : 1 ≤ p
  pub fine : 1000 ≤ 2 * B ^ (p - 1)
  pub grains : 192 * half < B ^ p
  pub room : p ≤ q
  pub low_above : B ^ p * B ^ p ≤ low
  pub low_one : low ≤ B ^ q
  pub high_one : B ^ q ≤ high

module _ (B p q low high : ℕ) (admit : List ℕ → Admission) (pattern : ℤ → List ℕ) (L : Lawful B p q low high) where
  abbrev m : Meaning
  m = radix B p q low high admit pattern

  abbrev Q : ℕ
  Q = B ^ q

  abbrev U : ℕ
  U = 2 * B ^ (p - 1)

  abbrev N : ℤ → ℕ → ℤ
  N = rounding B p Q

  some_Q : 0 < Q
  some_Q = some_power B q (omega arith)

  law : Laws B p Q
  law = laws B p Q L.base L.digits some_Q

  large : (r : ℕ) → low ≤ r → B ^ (p - 1) < r
  large r h = more_than_H B p Q L.base L.digits some_Q r (le_trans L.low_above h)

  -- ---- numbers
  is_number : (a : ℤ) → Digits B p (nat_abs a) → nat_abs a ≤ high → Number m a
  is_number a k l = record { unchanged = law.number_stays a k; bounded = l }

  has_digits : (a : ℤ) → Number m a → Digits B p (nat_abs a)
  has_digits a h = law.what_stays a h.unchanged

  negative_is_number : (a : ℤ) → Number m a → Number m (neg_ℤ a)
  negative_is_number a h = record { unchanged = law.odd a Q some_Q ∙ ap neg_ℤ h.unchanged; bounded = rw (abs_neg a) h.bounded }

  one_is_number : Number m (pos Q)
  one_is_number = is_number (pos Q) (record { m = 1; e = q; is = sym (one-mul Q); few = omega arith }) L.high_one

  -- ---- what is accepted
  zero_rounded : (d : ℕ) → 0 < d → N (pos 0) d ≡ pos 0
  zero_rounded d h = own_negative (N (pos 0) d) (law.odd (pos 0) d h)
    where
      own_negative : (x : ℤ) → x ≡ neg_ℤ x → x ≡ pos 0
      own_negative x e = omega (arith, ints)

  -- n / d is rounded to r and accepted: both are zero, or r is at least low
  record Accepted (n : ℤ) (d : ℕ) (r : ℤ) : Type 0 where
    is : N n d ≡ r
    bounded : nat_abs r ≤ high
    close : Close m n d r
    lies : ((n ≡ pos 0) × (r ≡ pos 0)) ⊎ (low ≤ nat_abs r)

  in_range_is : (exact n r : ℤ) (d : ℕ) → 0 < d → (exact ≡ pos 0 → n ≡ pos 0) → in_range m exact (N n d) ≡ some r → Accepted n d r
  in_range_is exact n r d h z e = let t = some_from _ _ _ e in subst (Accepted n d) t.1 (⊎_elim nothing within (either (eqb (nat_abs exact) 0) _ t.0))
    where
      nothing : T (eqb (nat_abs exact) 0) → Accepted n d (N n d)
      nothing k = rw (z (none exact (eqb→eq _ _ k)), zero_rounded d h)
          (record { is = zero_rounded d h; bounded = omega arith; close = record { by_exact = rw off (omega arith); by_rounded = rw off (omega arith) }; lies = inl (refl, refl) })
        where
          off : nat_abs (pos 0 *ℤ pos d -ℤ pos 0 *ℤ pos Q) ≡ 0
          off = omega (arith, ints)

          none : (x : ℤ) → nat_abs x ≡ 0 → x ≡ pos 0
          none x k = omega (arith, ints)

      within : T (leb low (nat_abs (N n d)) && leb (nat_abs (N n d)) high) → Accepted n d (N n d)
      within k = let w = both (leb low (nat_abs (N n d))) _ k in let c = law.fraction_close n d h (large _ (leb→le _ _ w.0)) in
          record { is = refl; bounded = leb→le _ _ w.1; close = record { by_exact = c.by_exact; by_rounded = c.by_rounded }; lies = inr (leb→le _ _ w.0) }

  lift_close : (a r : ℤ) (k : ℕ) → k ≤ 192 → Number m a → lift m a k ≡ some r → Close m (a *ℤ pos U) (Q * (U - k)) r
  unfolding lift
  lift_close a r k l ha e = (in_range_is a (a *ℤ pos U) r (Q * (U - k)) (mul-pos some_Q (omega arith)) (λ z. rw z (omega (arith, ints))) e).close

  -- ---- error parts
  -- what a close result lacks of the exact one is no larger than the result
  part_size : (n r e : ℤ) (d : ℕ) → 0 < d → (r +ℤ e) *ℤ pos d ≡ n *ℤ pos Q → Close m n d r → nat_abs e ≤ nat_abs r
  part_size n r e d h s c = le_of_mul-le-mul_right {k = d} (omega (arith, mul-le-mul_right (nat_abs e * d) L.fine, rw off at c.by_rounded)) h
    where
      off : nat_abs (r *ℤ pos d -ℤ n *ℤ pos Q) ≡ nat_abs e * d
      off = ap (λ x. nat_abs (r *ℤ pos d -ℤ x)) (sym s) ∙ ap nat_abs (ring (at r ⊗ num d ⊕ (⊖ ((at r ⊕ at e) ⊗ num d))) ((⊖ at e) ⊗ num d) (omega arith)) ∙
          abs_mul (neg_ℤ e) (pos d) ∙ ap (λ x. x * d) (abs_neg e)

  -- ---- sums
  module _ (a b r : ℤ) (ha : Number m a) (hb : Number m b) (e : sum m a b ≡ some r) where
    sum_is : T (leb (nat_abs (N (a +ℤ b) Q)) high) × (N (a +ℤ b) Q ≡ r)
    unfolding sum
    sum_is = some_from _ _ _ e

    sum_close : Close m (a +ℤ b) Q r
    sum_close = subst (Close m (a +ℤ b) Q) sum_is.1 (record { by_exact = (law.whole_close (a +ℤ b)).by_exact; by_rounded = (law.whole_close (a +ℤ b)).by_rounded })

    sum_error_is_number : Number m (sum_error a b r)
    sum_error_is_number = is_number _ (rw sum_is.1 at (law.sum_part a b (has_digits a ha) (has_digits b hb)))
        (le_trans (part_size (a +ℤ b) r _ Q some_Q (ring ((at r ⊕ (at (a +ℤ b) ⊕ (⊖ at r))) ⊗ num Q) (at (a +ℤ b) ⊗ num Q) (omega arith)) sum_close) (rw sum_is.1 at (leb→le _ _ sum_is.0)))

  -- ---- products
  module _ (a b r : ℤ) (ha : Number m a) (hb : Number m b) (e : product m a b ≡ some r) where
    product_is : Accepted (a *ℤ b) (Q * Q) r
    unfolding product
    product_is = in_range_is (a *ℤ b) (a *ℤ b) r (Q * Q) (mul-pos some_Q some_Q) (λ z. z) e

    part : ProductPart B p Q a b r
    part = ⊎_elim nothing within product_is.lies
      where
        nothing : (a *ℤ b ≡ pos 0) × (r ≡ pos 0) → ProductPart B p Q a b r
        nothing z = record { e = pos 0; is_number = law.what_stays (pos 0) (zero_rounded Q some_Q); exact = rw (z.0, z.1) (omega (arith, ints)) }

        within : low ≤ nat_abs r → ProductPart B p Q a b r
        within k = rw product_is.is at (law.product_part q refl a b (has_digits a ha) (has_digits b hb) (rw product_is.is (le_trans L.low_above k)))

    -- the quotient by Q is exact
    part_is : product_error m a b r ≡ part.e
    unfolding product_error
    part_is = ap (λ x. quot_z (x -ℤ r *ℤ pos Q) (pos Q)) (sym part.exact) ∙
        ap (λ x. quot_z x (pos Q)) (ring ((at r ⊕ at part.e) ⊗ num Q ⊕ (⊖ (at r ⊗ num Q))) (at part.e ⊗ num Q) (omega arith)) ∙ quot_exact part.e Q some_Q

    product_error_is_exact : pos Q *ℤ (r +ℤ product_error m a b r) ≡ a *ℤ b
    product_error_is_exact = rw part_is (*ℤ_comm (pos Q) (r +ℤ part.e) ∙ part.exact)

    product_error_is_number : Number m (product_error m a b r)
    product_error_is_number = rw part_is (is_number part.e part.is_number (le_trans small product_is.bounded))
      where
        small : nat_abs part.e ≤ nat_abs r
        small = part_size (a *ℤ b) r part.e (Q * Q) (mul-pos some_Q some_Q) (sym (times_times (r +ℤ part.e) Q Q) ∙ ap (λ y. y *ℤ pos Q) part.exact) product_is.close

  -- ---- grains
  abbrev units : ℕ → ℕ
  units k = k * L.half * B ^ (q - p)

  grain_shape : (k : ℕ) → units k * U ≡ k * Q
  grain_shape k = omega (arith, ap (λ x. k * x) powers, ap (λ x. k * (x * B ^ (p - 1) * B ^ (q - p))) L.even)
    where
      powers : Q ≡ B * B ^ (p - 1) * B ^ (q - p)
      powers = ap (λ x. B ^ x) (sym (add-sub_of_le L.room)) ∙ pow-add B p (q - p) ∙ ap (λ x. x * B ^ (q - p)) (H_is B p L.base L.digits)

  grain_is : (k : ℕ) → grain m k ≡ pos (units k)
  unfolding grain
  grain_is k = ap (λ x. pos (x / U)) (sym (grain_shape k)) ∙ ap pos (mul-div_cancel (units k) (omega arith))

  grain_is_exact : (k : ℕ) → k ≤ 192 → grain m k *ℤ pos U ≡ pos k *ℤ pos Q
  grain_is_exact k h = rw (grain_is k) (ap pos (grain_shape k))

  grain_is_number : (k : ℕ) → k ≤ 192 → Number m (grain m k)
  grain_is_number k h = rw (grain_is k) (is_number (pos (units k)) (record { m = k * L.half; e = q - p; is = refl; few = few }) (le_trans small L.high_one))
    where
      few : k * L.half < B ^ p
      few = lt_of_le_of_lt (mul-le-mul_right L.half h) L.grains

      small : units k ≤ Q
      small = le_of_mul-le-mul_right {k = U} (omega (arith, grain_shape k, mul-le-mul_right Q h, mul-le-mul_right Q L.fine)) (omega arith)

  pub radix_rules : ((bytes : List ℕ) (a : ℤ) → admit bytes ≡ number a → Number m a) → ((a : ℤ) → Number m a → admit (pattern a) ≡ number a) → ((a : ℤ) → length (pattern a) ≡ 8)
      → ((a : ℤ) → All (λ x. x < 256) (pattern a)) → Rules m
  radix_rules admitted written eight bytes = record {
    some_scale = some_Q;
    fine = L.fine;
    low_above_zero = omega (arith, large low (le_refl low));
    low_at_most_one = L.low_one;
    one_at_most_high = L.high_one;
    one_for_each = law.alike;
    twice_is_once = law.twice;
    sum_close = sum_close;
    product_close = λ a b r ha hb e. (product_is a b r ha hb e).close;
    lift_close = lift_close;
    one_is_number = one_is_number;
    sum_error_is_number = sum_error_is_number;
    product_error_is_exact = product_error_is_exact;
    product_error_is_number = product_error_is_number;
    grain_is_exact = grain_is_exact;
    grain_is_number = grain_is_number;
    negative_is_number = negative_is_number;
    admitted_is_number = admitted;
    pattern_is_admitted = written;
    pattern_is_eight = eight;
    pattern_is_bytes = bytes;
  }
