-- A closed coefficient encloses the exact one, and what a verdict says.
use Rattle.std.proofs.Common.{◌≡◌, ℕ, zero, suc, ◌+◌, ◌-◌, ◌*◌, ◌^◌, ◌<◌, ◌≤◌, ℤ, pos, ◌+ℤ◌, ◌-ℤ◌, ◌*ℤ◌, neg_ℤ, nat_abs, refl, ap, ◌∙◌, subst, mul-le-mul_right, arith, lit≤}
use native.Mathlib.Nat.{pow-succ'}
use mathlib.Core.Option.{some}
use Rattle.integers.proofs.Naturals.{some_power}
use Rattle.integers.proofs.Ring.{ring, at, num, ◌⊕◌, ◌⊗◌, ⊖◌}
use Rattle.integers.proofs.Integers.{abs_mul, abs_tri, abs_neg}
use Rattle.arithmetic.specs.Meaning.{Meaning, Number}
use Rattle.arithmetic.specs.Operations.{sum, product, lift, grain, Split, sum_split, sum_error, size}
use Rattle.arithmetic.specs.Rules.{Rules}
use Rattle.arithmetic.proofs.Near.{Natural, near_natural}
use Rattle.arithmetic.proofs.Accepted.{sum_number, product_number, lift_number, size_number, sum_near, product_near, lift_near}
use Rattle.coefficients.specs.Row.{Cell, done}
use Rattle.coefficients.specs.Closing.{Closed, closed, close}
use Rattle.coefficients.specs.Exact.{signed}
use Rattle.coefficients.proofs.Work.{passed, Parted, parted}
use Rattle.coefficients.proofs.Gamma.{powers_cut}
use Rattle.coefficients.proofs.Bounds.{closing_α, closing_bound}
use Rattle.coefficients.proofs.Invariant.{Holds, err, natural_without, pow_three}

-- the sign of the order changes no distance
pub signed_off : (k : ℕ) (a s : ℤ) (q Q : ℕ) → nat_abs (signed k a *ℤ pos q -ℤ signed k s *ℤ pos Q) ≡ nat_abs (a *ℤ pos q -ℤ s *ℤ pos Q)
signed_off zero a s q Q = refl
signed_off (suc k) a s q Q = ap nat_abs (flipped (signed k a) (signed k s)) ∙ abs_neg (signed k a *ℤ pos q -ℤ signed k s *ℤ pos Q) ∙ signed_off k a s q Q
  where
    flipped : (A S : ℤ) → neg_ℤ A *ℤ pos q -ℤ neg_ℤ S *ℤ pos Q ≡ neg_ℤ (A *ℤ pos q -ℤ S *ℤ pos Q)
    flipped A S = ring ((⊖ at A) ⊗ num q ⊕ (⊖ ((⊖ at S) ⊗ num Q))) (⊖ (at A ⊗ num q ⊕ (⊖ (at S ⊗ num Q)))) (omega arith)

pub signed_number : (m : Meaning) → Rules m → (k : ℕ) (a : ℤ) → Number m a → Number m (signed k a)
signed_number m R zero a h = h
signed_number m R (suc k) a h = R.negative_is_number (signed k a) (signed_number m R k a h)

regrouped : (T X M U Y : ℕ) → T * T * T * X * M ≤ U * (U * U * U * Y) → T * T * T * X * M ≤ U * U * (U * U * Y)
regrouped T X M U Y h = omega arith

cut_at : (U r M : ℕ) → 3 * suc r + M ≡ U → (U + 1) * (U + 1) * (U + 1) * (U + 1) ^ (3 * r) * M ≤ U * U * (U * U * U ^ (3 * r))
cut_at U r M e = regrouped (U + 1) ((U + 1) ^ (3 * r)) M U (U ^ (3 * r)) (rw (pow_three (U + 1) r, pow-succ' U (3 * suc r), pow_three U r) at (powers_cut (3 * suc r) U M e))

around : (v s S C : ℤ) (q Q : ℕ) → v *ℤ pos q -ℤ s *ℤ pos Q ≡ (C *ℤ pos q -ℤ (s *ℤ pos Q -ℤ S *ℤ pos q)) +ℤ neg_ℤ (((S +ℤ C) -ℤ v) *ℤ pos q)
around v s S C q Q = ring (at v ⊗ num q ⊕ (⊖ (at s ⊗ num Q))) ((at C ⊗ num q ⊕ (⊖ (at s ⊗ num Q ⊕ (⊖ (at S ⊗ num q))))) ⊕ (⊖ ((at S ⊕ at C ⊕ (⊖ at v)) ⊗ num q))) (omega arith)

around_size : (d e : ℤ) (q : ℕ) → nat_abs (d +ℤ neg_ℤ (e *ℤ pos q)) ≤ nat_abs d + nat_abs e * q
around_size d e q = omega (arith, abs_tri d (neg_ℤ (e *ℤ pos q)), abs_neg (e *ℤ pos q), abs_mul e (pos q))

all_in : (N D c α b q : ℕ) → N ≤ D + c * q → D ≤ α * q → c + α ≤ b → N ≤ b * q
all_in N D c α b q h k l = omega (arith, mul-le-mul_right q l)

-- ---- operations on natural numbers
pub record Above (m : Meaning) (r : ℤ) (low high : ℕ) : Type 0 where
  pub natural : r ≡ pos (nat_abs r)
  pub above : m.U * low ≤ (m.U + 1) * high
  pub number : Number m r

-- a value and its bound, around the exact sum s of order k in units of 1/(Q q)
pub record Enclosed (m : Meaning) (k : ℕ) (s : ℤ) (q : ℕ) (v : Closed) : Type 0 where
  pub value_number : Number m v.value
  pub bound_number : Number m v.bound
  pub bound_natural : v.bound ≡ pos (nat_abs v.bound)
  pub encloses : nat_abs (v.value *ℤ pos q -ℤ signed k s *ℤ pos m.Q) ≤ nat_abs v.bound * q

module _ (m : Meaning) (R : Rules m) where
  some_U : 0 < m.U
  some_U = omega (arith, R.fine)

  pub sum_above : (a b r : ℤ) → Number m a → Number m b → a ≡ pos (nat_abs a) → b ≡ pos (nat_abs b) → sum m a b ≡ some r → Above m r (nat_abs a + nat_abs b) (nat_abs r)
  sum_above a b r ha hb na nb e = record { natural = n.is; above = n.exact_below; number = sum_number m R a b r e }
    where
      n : Natural m.U r (nat_abs a + nat_abs b)
      n = near_natural m.U r _ some_U (rw (na, nb) at (sum_near m R a b r ha hb e))

  pub product_above : (a b r : ℤ) → Number m a → Number m b → a ≡ pos (nat_abs a) → b ≡ pos (nat_abs b) → product m a b ≡ some r → Above m r (nat_abs a * nat_abs b) (nat_abs r * m.Q)
  product_above a b r ha hb na nb e = record { natural = natural_without r m.Q R.some_scale n.is; above = rw (abs_mul r (pos m.Q)) at n.exact_below; number = product_number m R a b r e }
    where
      n : Natural m.U (r *ℤ pos m.Q) (nat_abs a * nat_abs b)
      n = near_natural m.U _ _ some_U (rw (na, nb) at (product_near m R a b r ha hb e))

  pub lift_above : (a r : ℤ) (k v : ℕ) → k ≤ 192 → Number m a → a *ℤ pos m.U ≡ pos v → lift m a k ≡ some r → Above m r v (nat_abs r * (m.U - k))
  lift_above a r k v hk ha na e = record { natural = natural_without r (m.U - k) left n.is; above = rw (abs_mul r (pos (m.U - k))) at n.exact_below; number = lift_number m R a r k hk e }
    where
      left : 0 < m.U - k
      left = omega (arith, R.fine)

      n : Natural m.U (r *ℤ pos (m.U - k)) v
      n = near_natural m.U _ _ some_U (rw na at (lift_near m R a r k hk ha e))

  pub natural_times : (a : ℤ) → a ≡ pos (nat_abs a) → a *ℤ pos m.U ≡ pos (nat_abs a * m.U)
  natural_times a n = rw n

  pub enclosed_cell : (n k : ℕ) (s : ℤ) (q : ℕ) (c : Cell) (v : Closed) → 1 ≤ n → n ≤ 64 → Holds m (n - 1) s q c → close m c n (suc k) ≡ done v → Enclosed m (suc k) s q v
  unfolding closed sum_split
  enclosed_cell n k s q c v h₁ h₂ o e =
      passed 1 _ _ v e (λ vc i₁ e₁.
      passed 2 _ _ v e₁ (λ γ i₂ e₂.
      passed 3 _ _ v e₂ (λ p i₃ e₃.
      passed 4 _ _ v e₃ (λ α i₄ e₄.
      passed 5 _ _ v e₄ (λ t i₅ e₅.
      passed 6 _ _ v e₅ (λ b i₆ e₆.
      closes vc γ p α t b (parted _ _ _ i₁) i₂ i₃ i₄ i₅ i₆ e₆))))))
    where
      closes : (vc : Split) (γ p α t b : ℤ) → Parted (sum m c.S c.C) (sum_error c.S c.C) vc → lift m (grain m (2 * (n - 1))) (2 * (n - 1)) ≡ some γ →
          product m γ c.E ≡ some p → lift m p (3 * n) ≡ some α → sum m (size vc.error) α ≡ some t → lift m t 2 ≡ some b →
          done (record { value = signed (suc k) vc.main; bound = b }) ≡ done v → Enclosed m (suc k) s q v
      closes vc γ p α t b q₁ i₂ i₃ i₄ i₅ i₆ l = subst (Enclosed m (suc k) s q) end (record {
        value_number = signed_number m R (suc k) vc.main (sum_number m R c.S c.C vc.main q₁.main_is);
        bound_number = b_up.number;
        bound_natural = b_up.natural;
        encloses = rw (signed_off (suc k) vc.main s q m.Q) whole;
      })
        where
          end : record { value = signed (suc k) vc.main; bound = b } ≡ v
          end = cc

          r : ℕ
          r = n - 1

          γ_up : Above m γ (2 * r * m.Q) (nat_abs γ * (m.U - 2 * r))
          γ_up = lift_above (grain m (2 * r)) γ (2 * r) (2 * r * m.Q) (omega arith) (R.grain_is_number (2 * r) (omega arith)) (R.grain_is_exact (2 * r) (omega arith)) i₂

          p_up : Above m p (nat_abs γ * nat_abs c.E) (nat_abs p * m.Q)
          p_up = product_above γ c.E p γ_up.number o.E_number γ_up.natural o.natural i₃

          α_up : Above m α (nat_abs p * m.U) (nat_abs α * (m.U - 3 * n))
          α_up = lift_above p α (3 * n) (nat_abs p * m.U) (omega arith) p_up.number (natural_times p p_up.natural) i₄

          c_number : Number m vc.error
          c_number = rw q₁.error_is (R.sum_error_is_number c.S c.C vc.main o.S_number o.C_number q₁.main_is)

          t_up : Above m t (nat_abs vc.error + nat_abs α) (nat_abs t)
          t_up = sum_above (size vc.error) α t (size_number m R vc.error c_number) α_up.number refl α_up.natural i₅

          b_up : Above m b (nat_abs t * m.U) (nat_abs b * (m.U - 2))
          b_up = lift_above t b 2 (nat_abs t * m.U) (lit≤ tt) t_up.number (natural_times t t_up.natural) i₆

          D : ℕ
          D = nat_abs (c.C *ℤ pos q -ℤ err m s q c)

          sum_up : 3 * suc (n - 1) + (m.U - 3 * n) ≡ m.U
          sum_up = omega (arith, R.fine, h₁, h₂)

          α_bound : D ≤ nat_abs α * q
          α_bound = closing_α m.U (m.U + 1) (m.U - 2 * r) (2 * r) (m.U ^ (3 * r)) ((m.U + 1) ^ (3 * r)) (m.U - 3 * n) m.Q (nat_abs c.E) (nat_abs γ) (nat_abs p) (nat_abs α) D o.es q
              o.corrected o.sizes γ_up.above p_up.above α_up.above (cut_at m.U r (m.U - 3 * n) sum_up) (omega (arith, R.fine, h₂)) R.some_scale some_U (some_power m.U (3 * r) some_U)

          b_bound : nat_abs vc.error + nat_abs α ≤ nat_abs b
          b_bound = closing_bound m.U (m.U - 2) _ (nat_abs t) (nat_abs b) (omega (arith, R.fine)) t_up.above b_up.above

          whole : nat_abs (vc.main *ℤ pos q -ℤ s *ℤ pos m.Q) ≤ nat_abs b * q
          whole = all_in _ D (nat_abs vc.error) (nat_abs α) (nat_abs b) q (rw (around vc.main s c.S c.C q m.Q, q₁.error_is) (around_size (c.C *ℤ pos q -ℤ err m s q c) (sum_error c.S c.C vc.main) q)) α_bound b_bound
