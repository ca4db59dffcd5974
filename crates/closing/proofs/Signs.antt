-- The sign of a coefficient by the parity of its order.
use Rattle.std.proofs.Common.{◌≡◌, ℕ, zero, suc, ◌%◌, ℤ, neg_ℤ, refl, ap, ◌∙◌, arith}
use lib.IntN.{neg_ℤ-neg_ℤ}
use Rattle.coefficients.specs.Exact.{signed}

mutual
  pub signed_even : (k : ℕ) (v : ℤ) → k % 2 ≡ 0 → signed k v ≡ v
  signed_even zero v e = refl
  signed_even (suc k) v e = ap neg_ℤ (signed_odd k v (omega arith)) ∙ neg_ℤ-neg_ℤ v

  pub signed_odd : (k : ℕ) (v : ℤ) → k % 2 ≡ 1 → signed k v ≡ neg_ℤ v
  signed_odd zero v e = absurd (omega arith)
  signed_odd (suc k) v e = ap neg_ℤ (signed_even k v (omega arith))
