-- Whole numbers with zeros behind them.
use Rattle.std.proofs.Common.{◌≡◌, ℕ, ◌+◌, ◌*◌, ◌^◌, ℤ, pos, ◌+ℤ◌, ◌-ℤ◌, ◌*ℤ◌, nat_abs, refl, ap, ◌∙◌, arith}
use Rattle.integers.proofs.Ring.{ring, at, num, ◌⊕◌, ◌⊗◌, ⊖◌}
use Rattle.integers.proofs.Integers.{abs_mul, spread, times_times}
use Rattle.scientific.specs.Forms.{size_of, with_zeros}
use Rattle.scientific.proofs.Tens.{joined}

pub size_with : (n : ℤ) (k : ℕ) → nat_abs (with_zeros n k) ≡ size_of (nat_abs n) k
size_with n k = abs_mul n (pos (10 ^ k))

pub with_more : (n : ℤ) (i j k : ℕ) → i + j ≡ k → with_zeros (with_zeros n i) j ≡ with_zeros n k
with_more n i j k e = times_times n (10 ^ i) (10 ^ j) ∙ ap (λ (x : ℕ). n *ℤ pos x) (joined i j k e)

-- zeros behind a sum or a difference stand behind its parts, and those behind the factors behind a product
pub with_sum : (a b : ℤ) (k : ℕ) → with_zeros (a +ℤ b) k ≡ with_zeros a k +ℤ with_zeros b k
with_sum a b k = spread a b (10 ^ k)

pub with_difference : (a b : ℤ) (k : ℕ) → with_zeros (a -ℤ b) k ≡ with_zeros a k -ℤ with_zeros b k
with_difference a b k = ring ((at a ⊕ (⊖ at b)) ⊗ num (10 ^ k)) (at a ⊗ num (10 ^ k) ⊕ (⊖ (at b ⊗ num (10 ^ k)))) (omega arith)

pub with_product : (a b : ℤ) (i j : ℕ) → with_zeros a i *ℤ with_zeros b j ≡ with_zeros (a *ℤ b) (i + j)
with_product a b i j = ring ((at a ⊗ num (10 ^ i)) ⊗ (at b ⊗ num (10 ^ j))) ((at a ⊗ at b) ⊗ num (10 ^ i * 10 ^ j)) (omega arith) ∙ ap (λ (x : ℕ). (a *ℤ b) *ℤ pos x) (joined i j (i + j) refl)
