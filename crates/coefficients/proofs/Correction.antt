-- One order after one more zero: how far the correction is from the exact error. All in one unit.
use Rattle.std.proofs.Common.{◌≡◌, ℕ, ◌+◌, ◌*◌, ◌≤◌, ℤ, pos, ◌+ℤ◌, ◌-ℤ◌, ◌*ℤ◌, neg_ℤ, nat_abs, ap, ◌∙◌, mul-le-mul_left, arith}
use Rattle.std.proofs.lemmas.Int.{ints}
use Rattle.integers.proofs.Ring.{ring, at, num, ◌⊕◌, ◌⊗◌, ⊖◌}
use Rattle.integers.proofs.Integers.{abs_mul, abs_tri}
use Rattle.arithmetic.proofs.Near.{Near}
use Rattle.coefficients.proofs.Gamma.{gamma_step}

-- the size of a is at most that of b and of the difference
pub abs_within : (a b : ℤ) → nat_abs a ≤ nat_abs b + nat_abs (a -ℤ b)
abs_within a b = omega (arith, ints)

apart : (c g h c₁ w W xc₀ ε₁ xε₀ : ℤ) →
    c -ℤ (ε₁ +ℤ W +ℤ xε₀) ≡ (c -ℤ (g +ℤ h)) +ℤ ((g -ℤ (c₁ +ℤ w)) +ℤ ((w -ℤ W) +ℤ ((h -ℤ xc₀) +ℤ ((c₁ -ℤ ε₁) +ℤ (xc₀ -ℤ xε₀)))))
apart c g h c₁ w W xc₀ ε₁ xε₀ = omega (arith, ints)

six : (a b c d e f : ℤ) → nat_abs (a +ℤ (b +ℤ (c +ℤ (d +ℤ (e +ℤ f))))) ≤ nat_abs a + (nat_abs b + (nat_abs c + (nat_abs d + (nat_abs e + nat_abs f))))
six a b c d e f = omega (arith, abs_tri a (b +ℤ (c +ℤ (d +ℤ (e +ℤ f)))), abs_tri b (c +ℤ (d +ℤ (e +ℤ f))), abs_tri c (d +ℤ (e +ℤ f)), abs_tri d (e +ℤ f), abs_tri e f)

product_apart : (x a b : ℤ) → nat_abs (x *ℤ a -ℤ x *ℤ b) ≡ nat_abs x * nat_abs (a -ℤ b)
product_apart x a b = ap nat_abs (ring (at x ⊗ at a ⊕ (⊖ (at x ⊗ at b))) (at x ⊗ (at a ⊕ (⊖ at b))) (omega arith)) ∙ abs_mul x (a -ℤ b)

pub record Old (V a : ℕ) (c ε : ℤ) (es : ℕ) : Type 0 where
  pub error : nat_abs ε ≤ es
  pub corrected : (V + 2) * nat_abs (c -ℤ ε) ≤ a * es

pub correction_step : (U V a : ℕ) (x c₀ c₁ W w g h c ε₀ ε₁ : ℤ) (es₀ es₁ : ℕ) → V + 2 + a ≡ U → 1 ≤ a →
    Old V a c₀ ε₀ es₀ → Old V a c₁ ε₁ es₁ → Near U w W → Near U g (c₁ +ℤ w) → Near U h (x *ℤ c₀) → Near U c (g +ℤ h) →
    V * nat_abs (c -ℤ (ε₁ +ℤ W +ℤ x *ℤ ε₀)) ≤ (a + 2) * (es₁ + nat_abs x * es₀ + nat_abs W)
correction_step U V a x c₀ c₁ W w g h c ε₀ ε₁ es₀ es₁ e some o₀ o₁ nw ng nh nc =
    gamma_step U V a (es₁ + X * es₀) (d₁ + X * d₀) (nat_abs W) (nat_abs (w -ℤ W)) (rg + rh) (nat_abs (c -ℤ (g +ℤ h))) _ e some
    (omega (arith, o₁.corrected, mul-le-mul_left X o₀.corrected))
    nw.by_exact
    (omega (arith, ng.by_exact, nh.by_exact, sum_c, prod_c))
    (omega (arith, nc.by_exact, abs_tri g h, abs_within g (c₁ +ℤ w), abs_within h (x *ℤ c₀), sum_c, prod_c))
    (omega (arith, ap nat_abs (apart c g h c₁ w W (x *ℤ c₀) ε₁ (x *ℤ ε₀)), six (c -ℤ (g +ℤ h)) (g -ℤ (c₁ +ℤ w)) (w -ℤ W) (h -ℤ x *ℤ c₀) (c₁ -ℤ ε₁) (x *ℤ c₀ -ℤ x *ℤ ε₀), product_apart x c₀ ε₀))
  where
    X : ℕ
    X = nat_abs x

    d₀ : ℕ
    d₀ = nat_abs (c₀ -ℤ ε₀)

    d₁ : ℕ
    d₁ = nat_abs (c₁ -ℤ ε₁)

    rg : ℕ
    rg = nat_abs (g -ℤ (c₁ +ℤ w))

    rh : ℕ
    rh = nat_abs (h -ℤ x *ℤ c₀)

    sum_c : nat_abs (c₁ +ℤ w) ≤ es₁ + d₁ + nat_abs W + nat_abs (w -ℤ W)
    sum_c = omega (arith, abs_tri c₁ w, abs_within c₁ ε₁, abs_within w W, o₁.error)

    prod_c : nat_abs (x *ℤ c₀) ≤ X * es₀ + X * d₀
    prod_c = omega (arith, abs_mul x c₀, mul-le-mul_left X k)
      where
        k : nat_abs c₀ ≤ es₀ + d₀
        k = omega (arith, abs_within c₀ ε₀, o₀.error)

-- the error of one order after one more zero, in units of Q to the −(j+1)
pub error_step : (q qj : ℕ) (x s s₀ S S₀ S₁ W : ℤ) → pos q *ℤ (S₁ +ℤ W) ≡ pos q *ℤ S +ℤ x *ℤ S₀ →
    (s +ℤ x *ℤ s₀) *ℤ pos q -ℤ S₁ *ℤ pos (q * qj) ≡ (s *ℤ pos q -ℤ S *ℤ pos (q * qj)) +ℤ W *ℤ pos (q * qj) +ℤ x *ℤ (s₀ *ℤ pos q -ℤ S₀ *ℤ pos qj)
error_step q qj x s s₀ S S₀ S₁ W h =
    ring ((at s ⊕ at x ⊗ at s₀) ⊗ num q ⊕ (⊖ (at S₁ ⊗ num (q * qj))))
    (num q ⊗ (at s ⊕ at x ⊗ at s₀) ⊕ num (q * qj) ⊗ at W ⊕ (⊖ (num qj ⊗ (num q ⊗ (at S₁ ⊕ at W))))) (omega arith)
    ∙ ap (λ z. pos q *ℤ (s +ℤ x *ℤ s₀) +ℤ pos (q * qj) *ℤ W +ℤ neg_ℤ (pos qj *ℤ z)) h
    ∙ ring (num q ⊗ (at s ⊕ at (x *ℤ s₀)) ⊕ num (q * qj) ⊗ at W ⊕ (⊖ (num qj ⊗ (num q ⊗ at S ⊕ at (x *ℤ S₀)))))
    ((at s ⊗ num q ⊕ (⊖ (at S ⊗ num (q * qj)))) ⊕ at W ⊗ num (q * qj) ⊕ (num q ⊗ at (x *ℤ s₀) ⊕ (⊖ (num qj ⊗ at (x *ℤ S₀))))) (omega arith)
    ∙ ap (λ z. (s *ℤ pos q -ℤ S *ℤ pos (q * qj)) +ℤ W *ℤ pos (q * qj) +ℤ z)
    (ring (num q ⊗ (at x ⊗ at s₀) ⊕ (⊖ (num qj ⊗ (at x ⊗ at S₀)))) (at x ⊗ (at s₀ ⊗ num q ⊕ (⊖ (at S₀ ⊗ num qj)))) (omega arith))
