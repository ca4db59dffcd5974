-- Two values around one exact number, given in two scales, differ by at most both bounds.
use Rattle.std.proofs.Common.{◌≡◌, ℕ, zero, suc, ◌+◌, ◌*◌, ◌<◌, ◌≤◌, ℤ, pos, ◌+ℤ◌, ◌-ℤ◌, ◌*ℤ◌, neg_ℤ, nat_abs, sym, refl, ap, ◌∙◌, mul-le-mul_right, mul-pos, le_of_mul-le-mul_right, arith}
use Rattle.std.proofs.lemmas.Int.{ints}
use Rattle.integers.proofs.Ring.{ring, at, num, ◌⊕◌, ◌⊗◌, ⊖◌}
use Rattle.integers.proofs.Integers.{abs_mul, abs_tri, abs_neg}
use Rattle.coefficients.specs.Exact.{signed}

crossed : (P Q p q : ℕ) (v v' s s' : ℤ) → (v *ℤ pos Q -ℤ v' *ℤ pos P) *ℤ pos (p * q) ≡
    ((v *ℤ pos p -ℤ s *ℤ pos P) *ℤ pos (Q * q) +ℤ neg_ℤ ((v' *ℤ pos q -ℤ s' *ℤ pos Q) *ℤ pos (P * p))) +ℤ (s *ℤ pos q -ℤ s' *ℤ pos p) *ℤ pos (P * Q)
crossed P Q p q v v' s s' = apart P Q p q v v' ∙ sym (joined P Q p q (v *ℤ pos p) (v' *ℤ pos q) s s')
  where
    apart : (P Q p q : ℕ) (v v' : ℤ) → (v *ℤ pos Q -ℤ v' *ℤ pos P) *ℤ pos (p * q) ≡ (v *ℤ pos p) *ℤ pos (Q * q) +ℤ neg_ℤ ((v' *ℤ pos q) *ℤ pos (P * p))
    apart P Q p q v v' = ring ((at v ⊗ num Q ⊕ (⊖ (at v' ⊗ num P))) ⊗ num (p * q)) ((at v ⊗ num p) ⊗ num (Q * q) ⊕ (⊖ ((at v' ⊗ num q) ⊗ num (P * p)))) (omega arith)

    joined : (P Q p q : ℕ) (a c s s' : ℤ) → ((a -ℤ s *ℤ pos P) *ℤ pos (Q * q) +ℤ neg_ℤ ((c -ℤ s' *ℤ pos Q) *ℤ pos (P * p))) +ℤ (s *ℤ pos q -ℤ s' *ℤ pos p) *ℤ pos (P * Q) ≡ a *ℤ pos (Q * q) +ℤ neg_ℤ (c *ℤ pos (P * p))
    joined P Q p q a c s s' = ring ((((at a ⊕ (⊖ (at s ⊗ num P))) ⊗ num (Q * q)) ⊕ (⊖ ((at c ⊕ (⊖ (at s' ⊗ num Q))) ⊗ num (P * p)))) ⊕ (at s ⊗ num q ⊕ (⊖ (at s' ⊗ num p))) ⊗ num (P * Q)) (at a ⊗ num (Q * q) ⊕ (⊖ (at c ⊗ num (P * p)))) (omega arith)

crossed_size : (a b d : ℤ) (x y z : ℕ) → d ≡ pos 0 → nat_abs ((a *ℤ pos x +ℤ neg_ℤ (b *ℤ pos y)) +ℤ d *ℤ pos z) ≤ nat_abs a * x + nat_abs b * y
crossed_size a b d x y z e = rw (e, nothing (a *ℤ pos x +ℤ neg_ℤ (b *ℤ pos y)) z) (omega (arith, abs_tri (a *ℤ pos x) (neg_ℤ (b *ℤ pos y)), abs_neg (b *ℤ pos y), abs_mul a (pos x), abs_mul b (pos y)))
  where
    nothing : (t : ℤ) (z : ℕ) → t +ℤ pos 0 *ℤ pos z ≡ t
    nothing t z = omega (arith, ints)

crossed_sum : (N A B e e' P Q p q : ℕ) → N * (p * q) ≤ A * (Q * q) + B * (P * p) → A ≤ e * p → B ≤ e' * q → N * (p * q) ≤ (e * Q + e' * P) * (p * q)
crossed_sum N A B e e' P Q p q h ha hb = omega (arith, mul-le-mul_right (Q * q) ha, mul-le-mul_right (P * p) hb)

-- two values around one exact number, in two scales: S / P^k and S' / Q^k, where S Q^k ≡ S' P^k
pub agree_by : (P Q p q : ℕ) (v v' s s' : ℤ) (e e' : ℕ) → 0 < p → 0 < q → s *ℤ pos q ≡ s' *ℤ pos p →
    nat_abs (v *ℤ pos p -ℤ s *ℤ pos P) ≤ e * p → nat_abs (v' *ℤ pos q -ℤ s' *ℤ pos Q) ≤ e' * q →
    nat_abs (v *ℤ pos Q -ℤ v' *ℤ pos P) ≤ e * Q + e' * P
agree_by P Q p q v v' s s' e e' hp hq same h h' =
    le_of_mul-le-mul_right (crossed_sum (nat_abs (v *ℤ pos Q -ℤ v' *ℤ pos P)) _ _ e e' P Q p q all h h') (mul-pos hp hq)
  where
    gone : (a b : ℤ) → a ≡ b → a -ℤ b ≡ pos 0
    gone a b e = omega (arith, ints)

    all : nat_abs (v *ℤ pos Q -ℤ v' *ℤ pos P) * (p * q) ≤ nat_abs (v *ℤ pos p -ℤ s *ℤ pos P) * (Q * q) + nat_abs (v' *ℤ pos q -ℤ s' *ℤ pos Q) * (P * p)
    all = rw (← abs_mul (v *ℤ pos Q -ℤ v' *ℤ pos P) (pos (p * q)), crossed P Q p q v v' s s') (crossed_size (v *ℤ pos p -ℤ s *ℤ pos P) (v' *ℤ pos q -ℤ s' *ℤ pos Q) (s *ℤ pos q -ℤ s' *ℤ pos p) (Q * q) (P * p) (P * Q) (gone (s *ℤ pos q) (s' *ℤ pos p) same))

pub signed_times : (k : ℕ) (s : ℤ) (q : ℕ) → signed k s *ℤ pos q ≡ signed k (s *ℤ pos q)
signed_times zero s q = refl
signed_times (suc k) s q = ring ((⊖ at (signed k s)) ⊗ num q) (⊖ (at (signed k s) ⊗ num q)) (omega arith) ∙ ap neg_ℤ (signed_times k s q)
