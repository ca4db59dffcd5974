-- What is so of each count of digits that a decimal arithmetic may have is so of all.
use Rattle.std.proofs.Common.{◌≡◌, ℕ, zero, suc, ◌+◌, ◌-◌, ◌≤◌, subst, arith}

pub each_precision : (P : ℕ → Type 0) → P 4 → P 5 → P 6 → P 7 → P 8 → (d : ℕ) → 4 ≤ d → d ≤ 8 → P d
each_precision P a b c e f d h k = subst P (let i : d - 4 + 4 ≡ d = omega arith in i) (by (d - 4) (omega arith))
  where
    by : (n : ℕ) → n ≤ 4 → P (n + 4)
    by zero h = a
    by (suc zero) h = b
    by (suc (suc zero)) h = c
    by (suc (suc (suc zero))) h = e
    by (suc (suc (suc (suc zero)))) h = f
    by (suc (suc (suc (suc (suc n))))) h = absurd (omega arith)
