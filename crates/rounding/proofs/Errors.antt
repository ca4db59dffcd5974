-- The errors of rounding, with signs. A whole number of units that is rounded at exponent 0 is exact; any other value that
-- is rounded to more than β^(p−1) units has a significand of at least β^(p−1), so that half a unit of its last digit is at
-- most 1/U of it. The error part of a sum is that of the sizes. A product of two numbers whose exponents add up to q or more
-- is a whole number of units, with at most 2 p digits before its zeros, and its error part is a number; where they add up to
-- less, the product is below β^(2p) units, and so is its rounding.
use Rattle.std.proofs.Common.{◌≡◌, ℕ, suc, ◌+◌, ◌-◌, ◌*◌, ◌^◌, ◌<◌, ◌≤◌, ◌⊎◌, ℤ, pos, negsuc, ◌+ℤ◌, ◌-ℤ◌, ◌*ℤ◌, neg_ℤ, nat_abs, sym, refl, ap, ◌∙◌, subst, inl, inr, le_trans, mul-le-mul_right, mul-le-mul_left, mul-pos, le_of_mul-le-mul_right, arith, pow-add}
use native.Mathlib.Nat.{le_of_mul-le-mul_left, pow-succ', pow-zero, pow-le-pow_right}
use native.Mathlib.Decide.{dec_le}
use Rattle.std.proofs.lemmas.Int.{ints}
use Rattle.integers.proofs.Ring.{ring, num, ◌⊕◌, ◌⊗◌, ⊖◌}
use Rattle.integers.proofs.Integers.{abs_mul}
use Rattle.integers.proofs.Naturals.{some_power, dist, dist_bound, product_less}
use Rattle.rounding.specs.Radix.{rounded, rounding}
use Rattle.rounding.specs.Digits.{Digits, Number}
use Rattle.rounding.specs.Laws.{Close, ProductPart}
use Rattle.rounding.proofs.Rounded.{Rounds, rounds, one_rounds, Tight, tight, exact_out, some_B, H_is}
use Rattle.rounding.proofs.Parts as sizes
use Rattle.rounding.proofs.Signs.{N, apart, abs_rounding, off_rounding}

-- the size of a sum
size_of_sum : (a b : ℤ) → (nat_abs (a +ℤ b) ≡ nat_abs a + nat_abs b) ⊎ (nat_abs (a +ℤ b) ≡ dist (nat_abs a) (nat_abs b))
size_of_sum (pos a) (pos b) = inl refl
size_of_sum (negsuc a) (negsuc b) = inl (omega arith)
size_of_sum (pos a) (negsuc b) = inr (omega (arith, ints))
size_of_sum (negsuc a) (pos b) = inr (omega (arith, ints))

-- the distance of two negatives
both_neg : (a b : ℕ) → nat_abs (neg_ℤ (pos a) -ℤ neg_ℤ (pos b)) ≡ dist a b
both_neg a b = omega (arith, ints)

-- R units are at most i where they err little from i · E / Q units and 2 E is at most Q
small_by : (U R Q N i E : ℕ) → U * (R * (Q * Q)) ≤ U * (N * Q) + N * Q → N ≡ i * E → 2 * E ≤ Q → 0 < U → 0 < Q → R ≤ i
small_by U R Q N i E h e k pU pQ = le_of_mul-le-mul_right {k = Q * Q} (second (le_of_mul-le-mul_left {k = U} first pU)) (mul-pos pQ pQ)
  where
    first : U * (R * (Q * Q)) ≤ U * (2 * (N * Q))
    first = omega (arith, mul-le-mul_right (N * Q) pU)

    second : R * (Q * Q) ≤ 2 * (N * Q) → R * (Q * Q) ≤ i * (Q * Q)
    second w = omega (arith, mul-le-mul_left (i * Q) k, ap (λ x. x * Q) e)

-- a product of two numbers of p digits that is a whole number z of units, of at most 2 p digits before its zeros
record Whole (β p Q n : ℕ) : Type 0 where
  i : ℕ
  g : ℕ
  is : n ≡ i * β ^ g * Q
  few : i < β ^ p * β ^ p

module _ (β p Q : ℕ) (base : 2 ≤ β) (digits : 1 ≤ p) (scale : 1 ≤ Q) where
  abbrev R : ℕ → ℕ → ℕ
  R n d = rounded β p n d

  abbrev U : ℕ
  U = 2 * β ^ (p - 1)

  -- ---- the relative error
  close_from : (z : ℤ) (d : ℕ) → Tight U (nat_abs z * Q) (R (nat_abs z * Q) d * d) → Close β p Q z d (N β p Q base digits scale z d)
  close_from z d t = record {
    by_exact = rw (off_rounding β p Q base digits scale z d) (dist_bound U _ _ _ t.down_exact t.up_exact);
    by_rounded = rw (off_rounding β p Q base digits scale z d, abs_rounding β p Q base digits scale z d) (dist_bound U _ _ _ t.down_rounded t.up_rounded);
  }

  pub whole_close : (z : ℤ) → Close β p Q z Q (N β p Q base digits scale z Q)
  whole_close z = close_from z Q (tight β p base digits (nat_abs z * Q) Q _ scale a (λ e. inl (exact e)))
    where
      a : Rounds β p (nat_abs z * Q) Q (R (nat_abs z * Q) Q)
      a = rounds β p base digits (nat_abs z * Q) Q scale

      exact : a.e ≡ 0 → R (nat_abs z * Q) Q * Q ≡ nat_abs z * Q
      exact e = exact_out β p base digits _ Q _ (nat_abs z) scale a (ap (λ x. nat_abs z * x) (rw (e, pow-zero β) (sym (once Q))))
        where
          once : (x : ℕ) → x * 1 ≡ x
          once x = omega arith

  large_tight : (n d : ℕ) → 0 < d → β ^ (p - 1) < R n d → Tight U n (R n d * d)
  large_tight n d h k = tight β p base digits n d (R n d) h (rounds β p base digits n d h) (λ e. inr k)

  pub fraction_close : (z : ℤ) (d : ℕ) → 0 < d → β ^ (p - 1) < nat_abs (N β p Q base digits scale z d) → Close β p Q z d (N β p Q base digits scale z d)
  fraction_close z d h k = close_from z d (large_tight (nat_abs z * Q) d h (rw (abs_rounding β p Q base digits scale z d) at k))

  -- ---- the error part of a whole number of units
  -- n / d, where it is z units, is rounded as those
  rounds_whole : (n d z : ℕ) → 0 < d → n ≡ z * d → Rounds β p z 1 (R n d)
  rounds_whole n d z h e = subst (Rounds β p z 1) (one_rounds β p base digits z 1 n d _ _ (omega arith) h (sym e ∙ sym (once n)) (rounds β p base digits z 1 (omega arith)) (rounds β p base digits n d h)) (rounds β p base digits z 1 (omega arith))
    where
      once : (x : ℕ) → x * 1 ≡ x
      once x = omega arith

  whole_off : (z : ℤ) → nat_abs (z -ℤ N β p Q base digits scale z Q) ≡ dist (nat_abs z) (R (nat_abs z * Q) Q)
  unfolding rounding
  whole_off (pos n) = apart n (R (n * Q) Q) ∙ turn (R (n * Q) Q) n
    where
      turn : (x y : ℕ) → dist x y ≡ dist y x
      turn x y = omega arith
  whole_off (negsuc n) = both_neg (suc n) (R (suc n * Q) Q)

  pub sum_part : (a b : ℤ) → Number β p a → Number β p b → Number β p ((a +ℤ b) -ℤ N β p Q base digits scale (a +ℤ b) Q)
  sum_part a b h k = subst (Digits β p) (sym (whole_off (a +ℤ b))) (sizes.sum_part β p base digits _ _ (nat_abs a) (nat_abs b) (rounds_whole _ Q _ scale refl) h k (size_of_sum a b))

  -- ---- the error part of a product
  product_size : (a b : ℤ) (k : Digits β p (nat_abs a)) (l : Digits β p (nat_abs b)) → nat_abs (a *ℤ b) ≡ k.m * l.m * (β ^ k.e * β ^ l.e)
  product_size a b k l = abs_mul a b ∙ ap (λ x. x * nat_abs b) k.is ∙ ap (λ x. k.m * β ^ k.e * x) l.is ∙ regroup k.m (β ^ k.e) l.m (β ^ l.e)
    where
      regroup : (m x n y : ℕ) → m * x * (n * y) ≡ m * n * (x * y)
      regroup m x n y = omega arith

  -- exponents that add up to q or more
  whole : (q : ℕ) → Q ≡ β ^ q → (a b : ℤ) (k : Digits β p (nat_abs a)) (l : Digits β p (nat_abs b)) → q ≤ k.e + l.e → Whole β p Q (nat_abs (a *ℤ b))
  whole q s a b k l h = record { i = k.m * l.m; g = k.e + l.e - q; is = product_size a b k l ∙ ap (λ x. k.m * l.m * x) powers ∙ regroup (k.m * l.m) (β ^ (k.e + l.e - q)) Q; few = product_less k.m l.m (β ^ p) k.few l.few }
    where
      regroup : (m x y : ℕ) → m * (y * x) ≡ m * x * y
      regroup m x y = omega arith

      split : k.e + l.e ≡ q + (k.e + l.e - q)
      split = omega arith

      powers : β ^ k.e * β ^ l.e ≡ Q * β ^ (k.e + l.e - q)
      powers = sym (pow-add β k.e l.e) ∙ ap (λ x. β ^ x) split ∙ pow-add β q (k.e + l.e - q) ∙ ap (λ x. x * β ^ (k.e + l.e - q)) (sym s)

  pub more_than_H : (r : ℕ) → β ^ p * β ^ p ≤ r → β ^ (p - 1) < r
  more_than_H r h = le_trans (larger (β ^ (p - 1)) (some_power β (p - 1) (some_B β p base digits))) (rw (H_is β p base digits) at h)
    where
      larger : (x : ℕ) → 0 < x → x < β * x * (β * x)
      larger x h = square (β * x) (omega (arith, mul-le-mul_right x base))
        where
          square : (y : ℕ) → x < y → x < y * y
          square y k = omega (arith, mul-le-mul_left y (one k))
            where
              one : x < y → 1 ≤ y
              one k = omega arith

  -- exponents that add up to less: the product rounds below β^(2p) units
  too_small : (q : ℕ) → Q ≡ β ^ q → (a b : ℤ) (k : Digits β p (nat_abs a)) (l : Digits β p (nat_abs b)) → k.e + l.e < q → β ^ p * β ^ p ≤ R (nat_abs (a *ℤ b) * Q) (Q * Q) → ⊥
  too_small q s a b k l h big = clash (k.m * l.m) (β ^ p * β ^ p) _ (product_less k.m l.m (β ^ p) k.few l.few) big
      (small_by U _ Q (nat_abs (a *ℤ b)) (k.m * l.m) (β ^ k.e * β ^ l.e) t.up_exact (product_size a b k l) doubled (some_U (some_power β (p - 1) (some_B β p base digits))) scale)
    where
      t : Tight U (nat_abs (a *ℤ b) * Q) (R (nat_abs (a *ℤ b) * Q) (Q * Q) * (Q * Q))
      t = large_tight (nat_abs (a *ℤ b) * Q) (Q * Q) (mul-pos scale scale) (more_than_H _ big)

      some_U : {x : ℕ} → 0 < x → 0 < 2 * x
      some_U h = omega arith

      clash : (i x r : ℕ) → i < x → x ≤ r → r ≤ i → ⊥
      clash i x r h k l = omega arith

      doubled : 2 * (β ^ k.e * β ^ l.e) ≤ Q
      doubled = le_trans (mul-le-mul_right (β ^ k.e * β ^ l.e) base) (rw s (subst (λ (x : ℕ). x ≤ β ^ q) (pow-succ' β (k.e + l.e) ∙ ap (λ x. β * x) (pow-add β k.e l.e)) (pow-le-pow_right (some_B β p base digits) h)))

  -- the part between a product and its rounding, where the product is a whole number of units
  part_by : (c : ℤ) → Whole β p Q (nat_abs c) → (e : ℤ) × Number β p e × ((N β p Q base digits scale c (Q * Q) +ℤ e) *ℤ pos Q ≡ c)
  unfolding rounding
  part_by (pos n) w = (pos z -ℤ pos r, subst (Digits β p) (turn r z ∙ sym (apart z r)) few, ring ((num r ⊕ (num z ⊕ (⊖ num r))) ⊗ num Q) (num (z * Q)) (omega arith) ∙ ap pos (sym w.is))
    where
      z : ℕ
      z = w.i * β ^ w.g

      r : ℕ
      r = R (n * Q) (Q * Q)

      turn : (x y : ℕ) → dist y x ≡ dist x y
      turn x y = omega arith

      few : Digits β p (dist z r)
      few = sizes.product_part β p base digits z r w.i w.g (rounds_whole (n * Q) (Q * Q) z (mul-pos scale scale) (ap (λ x. x * Q) w.is ∙ regroup z Q)) refl w.few
        where
          regroup : (x y : ℕ) → x * y * y ≡ x * (y * y)
          regroup x y = omega arith
  part_by (negsuc n) w = (neg_ℤ (pos z) -ℤ neg_ℤ (pos r), subst (Digits β p) (sym (both_neg z r)) few, ring (((⊖ num r) ⊕ ((⊖ num z) ⊕ (⊖ (⊖ num r)))) ⊗ num Q) (⊖ num (z * Q)) (omega arith) ∙ ap (λ (x : ℕ). neg_ℤ (pos x)) (sym w.is))
    where
      z : ℕ
      z = w.i * β ^ w.g

      r : ℕ
      r = R (suc n * Q) (Q * Q)

      few : Digits β p (dist z r)
      few = sizes.product_part β p base digits z r w.i w.g (rounds_whole (suc n * Q) (Q * Q) z (mul-pos scale scale) (ap (λ x. x * Q) w.is ∙ regroup z Q)) refl w.few
        where
          regroup : (x y : ℕ) → x * y * y ≡ x * (y * y)
          regroup x y = omega arith

  pub product_part : (q : ℕ) → Q ≡ β ^ q → (a b : ℤ) → Number β p a → Number β p b → β ^ p * β ^ p ≤ nat_abs (N β p Q base digits scale (a *ℤ b) (Q * Q)) → ProductPart β p Q a b (N β p Q base digits scale (a *ℤ b) (Q * Q))
  product_part q s a b k l big = made (part_by (a *ℤ b) (go (dec_le q (k.e + l.e))))
    where
      made : ((e : ℤ) × Number β p e × ((N β p Q base digits scale (a *ℤ b) (Q * Q) +ℤ e) *ℤ pos Q ≡ a *ℤ b)) → ProductPart β p Q a b (N β p Q base digits scale (a *ℤ b) (Q * Q))
      made t = record { e = t.0; is_number = t.1; exact = t.2 }

      go : Dec (q ≤ k.e + l.e) → Whole β p Q (nat_abs (a *ℤ b))
      go (yes h) = whole q s a b k l h
      go (no h) = absurd (too_small q s a b k l (omega arith) (rw (abs_rounding β p Q base digits scale (a *ℤ b) (Q * Q)) at big))
