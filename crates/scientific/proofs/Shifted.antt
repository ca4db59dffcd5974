-- Zeros behind a fraction stand behind what it is rounded to, where its whole part has d digits or more; and behind any whole
-- number, since one of fewer digits is left unchanged. The sign stays.
use Rattle.std.proofs.Common.{◌≡◌, ℕ, suc, ◌+◌, ◌-◌, ◌*◌, ◌^◌, ◌<◌, ◌≤◌, ◌⊎◌, ℤ, pos, negsuc, ◌*ℤ◌, neg_ℤ, nat_abs, sym, refl, ap, ◌∙◌, subst, ⊎_elim, mul-le-mul_right, mul_assoc, mul-one, mul-pos, arith, lit≤}
use native.Mathlib.Nat.{pow-succ'}
use native.Mathlib.Decide.{ℕ_discrete}
use Rattle.integers.proofs.Naturals.{cancel, before}
use Rattle.rounding.specs.Radix.{rounded, rounding}
use Rattle.rounding.proofs.Nearest.{Nearest}
use Rattle.rounding.proofs.Rounded.{Rounds, rounds, one_rounds, stays, H_is}
use Rattle.rounding.proofs.Signs.{odd}
use Rattle.integers.proofs.Integers.{abs_mul, no_sign}
use Rattle.integers.proofs.Ring.{ring, num, ◌⊗◌, ⊖◌}
use Rattle.scientific.specs.Forms.{with_zeros}
use Rattle.scientific.proofs.Tens.{some_ten, joined, ten}

nearest_with : (n D m x : ℕ) → 0 < x → Nearest n D m → Nearest (n * x) (D * x) m
nearest_with n D m x p a = record {
  not_above = omega (arith, mul-le-mul_right x a.not_above);
  not_below = omega (arith, mul-le-mul_right x a.not_below);
  even_down = λ e. a.even_down (cancel (2 * n) (2 * (m * D) + D) x p (omega arith));
  even_up = λ e. a.even_up (cancel (2 * (m * D)) (2 * n + D) x p (omega arith));
}

module _ (d : ℕ) (P : 1 ≤ d) where
  -- ---- fractions
  module _ (n den k : ℕ) (D : 0 < den) where
    a : Rounds 10 d n den (rounded 10 d n den)
    a = rounds 10 d ten P n den D

    shifted : ((a.e ≡ 0) → (k ≡ 0) ⊎ (den * 10 ^ (d - 1) ≤ n)) → Rounds 10 d (n * 10 ^ k) den (rounded 10 d n den * 10 ^ k)
    shifted full = record {
      e = a.e + k;
      m = a.m;
      is = ap (λ (x : ℕ). x * 10 ^ k) a.is ∙ mul_assoc a.m (10 ^ a.e) (10 ^ k) ∙ ap (λ (x : ℕ). a.m * x) powers;
      under = rw (← powers) (wider (10 ^ k) (some_ten k) a.under);
      least = least;
      near = subst (λ (x : ℕ). Nearest (n * 10 ^ k) x a.m) (mul_assoc den (10 ^ a.e) (10 ^ k) ∙ ap (λ (x : ℕ). den * x) powers) (nearest_with n (den * 10 ^ a.e) a.m (10 ^ k) (some_ten k) a.near);
    }
      where
        powers : 10 ^ a.e * 10 ^ k ≡ 10 ^ (a.e + k)
        powers = joined a.e k (a.e + k) refl

        wider : (x : ℕ) → 0 < x → n < den * 10 ^ d * 10 ^ a.e → n * x < den * 10 ^ d * (10 ^ a.e * x)
        wider x p h = omega (arith, mul-le-mul_right x h)

        least : (j : ℕ) → a.e + k ≡ suc j → den * 10 ^ d * 10 ^ j ≤ n * 10 ^ k
        least j q = go (ℕ_discrete a.e 0)
          where
            up : (x y : ℕ) → den * 10 ^ d * x ≤ n → x * y ≡ 10 ^ j → den * 10 ^ d * 10 ^ j ≤ n * y
            up x y h e = rw (← e) (omega (arith, mul-le-mul_right y h))

            own : (x H : ℕ) → den * H ≤ n → den * (10 * H) * x ≤ n * (10 * x)
            own x H h = omega (arith, mul-le-mul_right (10 * x) h)

            go : Dec (a.e ≡ 0) → den * 10 ^ d * 10 ^ j ≤ n * 10 ^ k
            go (yes z) = ⊎_elim (λ e. absurd (omega arith)) (λ h. let e : k ≡ suc j = omega arith in rw (e, pow-succ' 10 j, H_is 10 d ten P) (own (10 ^ j) (10 ^ (d - 1)) h)) (full z)
            go (no z) = let i = before a.e (omega arith) in up (10 ^ i.0) (10 ^ k) (a.least i.0 i.1) (joined i.0 k j (omega (arith, i.1)))

    is_shifted : Rounds 10 d (n * 10 ^ k) den (rounded 10 d n den * 10 ^ k) → rounded 10 d (n * 10 ^ k) den ≡ rounded 10 d n den * 10 ^ k
    is_shifted b = one_rounds 10 d ten P (n * 10 ^ k) den (n * 10 ^ k) den _ _ D D refl (rounds 10 d ten P (n * 10 ^ k) den D) b

    fraction_with : (k ≡ 0) ⊎ (den * 10 ^ (d - 1) ≤ n) → rounded 10 d (n * 10 ^ k) den ≡ rounded 10 d n den * 10 ^ k
    fraction_with full = is_shifted (shifted (λ e. full))

  -- ---- whole numbers
  whole_with : (n k : ℕ) → rounded 10 d (n * 10 ^ k) 1 ≡ rounded 10 d n 1 * 10 ^ k
  whole_with n k = go (ℕ_discrete b.e 0)
    where
      b : Rounds 10 d n 1 (rounded 10 d n 1)
      b = a n 1 k (lit≤ tt)

      left : (e : ℕ) → n ≤ 10 ^ d → rounded 10 d (n * 10 ^ e) 1 ≡ n * 10 ^ e
      left e h = ap (λ (x : ℕ). rounded 10 d x 1) (sym (mul-one (n * 10 ^ e))) ∙ stays 10 d ten P n e 1 (lit≤ tt) h

      few : (e : ℕ) → e ≡ 0 → n < 1 * 10 ^ d * 10 ^ e → n ≤ 10 ^ d
      few e q h = omega (arith, rw q at h)

      go : Dec (b.e ≡ 0) → rounded 10 d (n * 10 ^ k) 1 ≡ rounded 10 d n 1 * 10 ^ k
      go (yes z) = let h = few b.e z b.under in left k h ∙ ap (λ (x : ℕ). x * 10 ^ k) (sym (ap (λ (x : ℕ). rounded 10 d x 1) (sym (mul-one n)) ∙ left 0 h ∙ mul-one n))
      go (no z) = is_shifted n 1 k (lit≤ tt) (shifted n 1 k (lit≤ tt) (λ e. absurd (z e)))

  -- ---- with a sign
  module _ (Q : ℕ) (scale : 1 ≤ Q) where
    same : (n m D den : ℕ) → 0 < D → 0 < den → n * (Q * den) ≡ m * D → rounded 10 d (n * Q) D ≡ rounded 10 d (m * 1) den
    same n m D den h k e = one_rounds 10 d ten P (n * Q) D (m * 1) den _ _ h k (plain n m e) (rounds 10 d ten P (n * Q) D h) (rounds 10 d ten P (m * 1) den k)
      where
        plain : (n m : ℕ) → n * (Q * den) ≡ m * D → n * Q * den ≡ m * 1 * D
        plain n m e = omega arith

    -- equal fractions, one as a multiple of 1/Q and one as a whole number
    pub rescaled : (z n : ℤ) (D den : ℕ) → 0 < D → 0 < den → z *ℤ pos (Q * den) ≡ n *ℤ pos D → rounding 10 d Q z D ≡ rounding 10 d 1 n den
    unfolding rounding
    rescaled (pos z) (pos n) D den h k e = ap pos (same z n D den h k (ap nat_abs e))
    rescaled (negsuc z) (negsuc n) D den h k e = ap (λ (x : ℕ). neg_ℤ (pos x)) (same (suc z) (suc n) D den h k (sym (abs_mul (negsuc z) (pos (Q * den))) ∙ ap nat_abs e ∙ abs_mul (negsuc n) (pos D)))
    rescaled (pos z) (negsuc n) D den h k e = absurd (no_sign (z * (Q * den)) (suc n * D) (mul-pos (omega arith) h) e)
    rescaled (negsuc z) (pos n) D den h k e = absurd (no_sign (n * D) (suc z * (Q * den)) (mul-pos (omega arith) (mul-pos scale k)) (sym e))

  -- zeros stand behind the rounding where they stand behind the rounding of the size
  behind : (n : ℤ) (den k : ℕ) → 0 < den → rounded 10 d (nat_abs n * 10 ^ k) den ≡ rounded 10 d (nat_abs n) den * 10 ^ k → rounding 10 d 1 (with_zeros n k) den ≡ with_zeros (rounding 10 d 1 n den) k
  unfolding rounding
  behind (pos n) den k D e = ap pos (plain n e)
    where
      plain : (n : ℕ) → rounded 10 d (n * 10 ^ k) den ≡ rounded 10 d n den * 10 ^ k → rounded 10 d (n * 10 ^ k * 1) den ≡ rounded 10 d (n * 1) den * 10 ^ k
      plain n e = rw (mul-one (n * 10 ^ k), mul-one n) e
  behind (negsuc n) den k D e = odd 10 d 1 ten P (lit≤ tt) (pos (suc n * 10 ^ k)) den D ∙ ap (λ (x : ℕ). neg_ℤ (pos x)) (plain (suc n) e) ∙ ring (⊖ num (rounded 10 d (suc n * 1) den * 10 ^ k)) ((⊖ num (rounded 10 d (suc n * 1) den)) ⊗ num (10 ^ k)) (omega arith)
    where
      plain : (n : ℕ) → rounded 10 d (n * 10 ^ k) den ≡ rounded 10 d n den * 10 ^ k → rounded 10 d (n * 10 ^ k * 1) den ≡ rounded 10 d (n * 1) den * 10 ^ k
      plain n e = rw (mul-one (n * 10 ^ k), mul-one n) e

  pub fraction_behind : (n : ℤ) (den k : ℕ) → 0 < den → (k ≡ 0) ⊎ (den * 10 ^ (d - 1) ≤ nat_abs n) → rounding 10 d 1 (with_zeros n k) den ≡ with_zeros (rounding 10 d 1 n den) k
  fraction_behind n den k D full = behind n den k D (fraction_with (nat_abs n) den k D full)

  pub whole_behind : (n : ℤ) (k : ℕ) → rounding 10 d 1 (with_zeros n k) 1 ≡ with_zeros (rounding 10 d 1 n 1) k
  whole_behind n k = behind n 1 k (lit≤ tt) (whole_with (nat_abs n) k)
