-- What a verdict says of the exact coefficient.
use Rattle.std.proofs.Common.{◌≡◌, ℕ, ◌+◌, ◌-◌, ◌*◌, ◌<◌, ◌≤◌, Bool, true, false, cond, T, ℤ, pos, ◌+ℤ◌, ◌-ℤ◌, ◌*ℤ◌, neg_ℤ, nat_abs, refl, subst, mul-le-mul_right, arith, lit≤}
use mathlib.Core.Option.{some}
use lib.Signed.{le_z, lt_z}
use Rattle.std.proofs.lemmas.Int.{ints}
use Rattle.integers.proofs.Ring.{ring, at, num, ◌⊕◌, ◌⊗◌, ⊖◌}
use Rattle.integers.proofs.Integers.{abs_mul, abs_tri}
use Rattle.arithmetic.specs.Meaning.{Meaning, Number}
use Rattle.arithmetic.specs.Operations.{sum, lift, size}
use Rattle.arithmetic.specs.Rules.{Rules}
use Rattle.arithmetic.proofs.Near.{Near, exact_size, rounded_size}
use Rattle.arithmetic.proofs.Accepted.{sum_number, size_number, sum_near}
use Rattle.coefficients.specs.Row.{done}
use Rattle.coefficients.specs.Closing.{Closed, Verdict, right, wrong, left_open, judged, verdict}
use Rattle.coefficients.specs.Exact.{signed}
use Rattle.coefficients.proofs.Work.{passed}
use Rattle.coefficients.proofs.Bounds.{near_cut, far_cut}
use Rattle.coefficients.proofs.Closing.{Enclosed, Above, sum_above, lift_above, natural_times}

right_from : (a b : Bool) → cond a right (cond b wrong left_open) ≡ right → T a
right_from true b e = tt
right_from false true e = let z : ◌≡◌ {A = ℕ} 0 1 = cc in absurd (omega arith)
right_from false false e = let z : ◌≡◌ {A = ℕ} 0 1 = cc in absurd (omega arith)

wrong_from : (a b : Bool) → cond a right (cond b wrong left_open) ≡ wrong → T b
wrong_from true b e = let z : ◌≡◌ {A = ℕ} 0 1 = cc in absurd (omega arith)
wrong_from false true e = tt
wrong_from false false e = let z : ◌≡◌ {A = ℕ} 0 1 = cc in absurd (omega arith)

-- a claim, a value and the exact number, in units of 1/(Q q)
apart : (c v s : ℤ) (q Q : ℕ) → c *ℤ pos q -ℤ s *ℤ pos Q ≡ (c -ℤ v) *ℤ pos q +ℤ (v *ℤ pos q -ℤ s *ℤ pos Q)
apart c v s q Q = ring (at c ⊗ num q ⊕ (⊖ (at s ⊗ num Q))) ((at c ⊕ (⊖ at v)) ⊗ num q ⊕ (at v ⊗ num q ⊕ (⊖ (at s ⊗ num Q)))) (omega arith)

at_most : (c v s : ℤ) (q Q b : ℕ) → nat_abs (v *ℤ pos q -ℤ s *ℤ pos Q) ≤ b * q → nat_abs (c *ℤ pos q -ℤ s *ℤ pos Q) ≤ (nat_abs (c -ℤ v) + b) * q
at_most c v s q Q b h = rw (apart c v s q Q) (omega (arith, abs_tri ((c -ℤ v) *ℤ pos q) (v *ℤ pos q -ℤ s *ℤ pos Q), abs_mul (c -ℤ v) (pos q)))

back : (a b : ℤ) → nat_abs a ≤ nat_abs (a +ℤ b) + nat_abs b
back a b = omega (arith, ints)

at_least : (c v s : ℤ) (q Q b : ℕ) → nat_abs (v *ℤ pos q -ℤ s *ℤ pos Q) ≤ b * q → nat_abs (c -ℤ v) * q ≤ nat_abs (c *ℤ pos q -ℤ s *ℤ pos Q) + b * q
at_least c v s q Q b h = rw (apart c v s q Q) (omega (arith, back ((c -ℤ v) *ℤ pos q) (v *ℤ pos q -ℤ s *ℤ pos Q), abs_mul (c -ℤ v) (pos q)))

pub record Judged (m : Meaning) (k : ℕ) (s : ℤ) (q : ℕ) (c : ℤ) (t : ℕ) (v : Verdict) : Type 0 where
  pub if_right : v ≡ right → nat_abs (c *ℤ pos q -ℤ signed k s *ℤ pos m.Q) ≤ t * q
  pub if_wrong : v ≡ wrong → t * q < nat_abs (c *ℤ pos q -ℤ signed k s *ℤ pos m.Q)

module _ (m : Meaning) (R : Rules m) (k : ℕ) (s : ℤ) (q : ℕ) (some_q : 0 < q) (v : Closed) (en : Enclosed m k s q v) (c : ℤ) (t : ℕ) (c_number : Number m c) (t_number : Number m (pos t)) where
  pub verdict_says : (r : Verdict) → verdict m v c (pos t) ≡ done r → Judged m k s q c t r
  unfolding verdict
  verdict_says r e =
      passed 1 _ _ r e (λ d i₁ e₁.
      passed 2 _ _ r e₁ (λ a i₂ e₂.
      passed 3 _ _ r e₂ (λ near i₃ e₃.
      passed 4 _ _ r e₃ (λ b i₄ e₄.
      passed 5 _ _ r e₄ (λ far i₅ e₅.
      says d a near b far i₁ i₂ i₃ i₄ i₅ e₅)))))
    where
      says : (d a near b far : ℤ) → sum m c (neg_ℤ v.value) ≡ some d → sum m (size d) v.bound ≡ some a → lift m a 3 ≡ some near → sum m (pos t) v.bound ≡ some b → lift m b 3 ≡ some far →
          done (judged (pos t) (size d) near far) ≡ done r → Judged m k s q c t r
      says d a near b far i₁ i₂ i₃ i₄ i₅ l = subst (Judged m k s q c t) end (record { if_right = if_right; if_wrong = if_wrong })
        where
          end : judged (pos t) (size d) near far ≡ r
          end = cc

          M : ℕ
          M = m.U - 3

          three : M + 3 ≡ m.U
          three = omega (arith, R.fine)

          d_near : Near m.U d (c -ℤ v.value)
          d_near = sum_near m R c (neg_ℤ v.value) d c_number (R.negative_is_number v.value en.value_number) i₁

          d_number : Number m (size d)
          d_number = size_number m R d (sum_number m R c (neg_ℤ v.value) d i₁)

          a_up : Above m a (nat_abs d + nat_abs v.bound) (nat_abs a)
          a_up = sum_above m R (size d) v.bound a d_number en.bound_number refl en.bound_natural i₂

          near_up : Above m near (nat_abs a * m.U) (nat_abs near * (m.U - 3))
          near_up = lift_above m R a near 3 (nat_abs a * m.U) (lit≤ tt) a_up.number (natural_times m R a a_up.natural) i₃

          b_up : Above m b (t + nat_abs v.bound) (nat_abs b)
          b_up = sum_above m R (pos t) v.bound b t_number en.bound_number refl en.bound_natural i₄

          far_up : Above m far (nat_abs b * m.U) (nat_abs far * (m.U - 3))
          far_up = lift_above m R b far 3 (nat_abs b * m.U) (lit≤ tt) b_up.number (natural_times m R b b_up.natural) i₅

          within : nat_abs (c -ℤ v.value) + nat_abs v.bound ≤ nat_abs near
          within = near_cut m.U M _ (nat_abs d) (nat_abs v.bound) (nat_abs a) (nat_abs near) three (exact_size m.U d (c -ℤ v.value) d_near) a_up.above near_up.above

          beyond : nat_abs far < nat_abs d → t + nat_abs v.bound < nat_abs (c -ℤ v.value)
          beyond h = far_cut m.U M _ (nat_abs d) (nat_abs v.bound) t (nat_abs b) (nat_abs far) three (rounded_size m.U d (c -ℤ v.value) d_near) b_up.above far_up.above h

          if_right : judged (pos t) (size d) near far ≡ right → nat_abs (c *ℤ pos q -ℤ signed k s *ℤ pos m.Q) ≤ t * q
          if_right h = omega (arith, at_most c v.value (signed k s) q m.Q (nat_abs v.bound) en.encloses, mul-le-mul_right q few)
            where
              low : T (le_z near (pos t))
              low = right_from (le_z near (pos t)) (lt_z far (size d)) h

              few : nat_abs (c -ℤ v.value) + nat_abs v.bound ≤ t
              few = omega (arith, within, under near t near_up.natural low)
                where
                  under : (z : ℤ) (t : ℕ) → z ≡ pos (nat_abs z) → T (le_z z (pos t)) → nat_abs z ≤ t
                  under z t n h = omega (arith, ints)

          if_wrong : judged (pos t) (size d) near far ≡ wrong → t * q < nat_abs (c *ℤ pos q -ℤ signed k s *ℤ pos m.Q)
          if_wrong h = omega (arith, at_least c v.value (signed k s) q m.Q (nat_abs v.bound) en.encloses, mul-le-mul_right q (beyond below), some_q)
            where
              low : T (lt_z far (size d))
              low = wrong_from (le_z near (pos t)) (lt_z far (size d)) h

              below : nat_abs far < nat_abs d
              below = over far (nat_abs d) far_up.natural low
                where
                  over : (z : ℤ) (t : ℕ) → z ≡ pos (nat_abs z) → T (lt_z z (pos t)) → nat_abs z < t
                  over z t n h = omega (arith, ints)
