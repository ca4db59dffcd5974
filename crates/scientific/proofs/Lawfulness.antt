-- The formats of four to eight decimal digits have what the laws of a radix ask: for each by closed comparisons.
use Rattle.std.proofs.Common.{ℕ, zero, suc, ◌≤◌, refl, arith, lit≤}
use Rattle.arithmetic.proofs.RadixRules.{Lawful}
use Rattle.scientific.specs.Forms.{lowest, highest}

-- what holds at four, five, six, seven and eight holds of every d from 4 to 8
pub each : (P : ℕ → Type 0) → P 4 → P 5 → P 6 → P 7 → P 8 → (d : ℕ) → 4 ≤ d → d ≤ 8 → P d
each P a b c e f zero h k = absurd (omega arith)
each P a b c e f (suc zero) h k = absurd (omega arith)
each P a b c e f (suc (suc zero)) h k = absurd (omega arith)
each P a b c e f (suc (suc (suc zero))) h k = absurd (omega arith)
each P a b c e f (suc (suc (suc (suc zero)))) h k = a
each P a b c e f (suc (suc (suc (suc (suc zero))))) h k = b
each P a b c e f (suc (suc (suc (suc (suc (suc zero)))))) h k = c
each P a b c e f (suc (suc (suc (suc (suc (suc (suc zero))))))) h k = e
each P a b c e f (suc (suc (suc (suc (suc (suc (suc (suc zero)))))))) h k = f
each P a b c e f (suc (suc (suc (suc (suc (suc (suc (suc (suc d))))))))) h k = absurd (omega arith)

pub lawful : (d : ℕ) → 4 ≤ d → d ≤ 8 → Lawful 10 d 70 lowest highest
unfolding lowest highest
lawful = each (λ d. Lawful 10 d 70 lowest highest)
    (record { half = 5; even = refl; base = lit≤ tt; digits = lit≤ tt; fine = lit≤ tt; grains = lit≤ tt; room = lit≤ tt; low_above = lit≤ tt; low_one = lit≤ tt; high_one = lit≤ tt })
    (record { half = 5; even = refl; base = lit≤ tt; digits = lit≤ tt; fine = lit≤ tt; grains = lit≤ tt; room = lit≤ tt; low_above = lit≤ tt; low_one = lit≤ tt; high_one = lit≤ tt })
    (record { half = 5; even = refl; base = lit≤ tt; digits = lit≤ tt; fine = lit≤ tt; grains = lit≤ tt; room = lit≤ tt; low_above = lit≤ tt; low_one = lit≤ tt; high_one = lit≤ tt })
    (record { half = 5; even = refl; base = lit≤ tt; digits = lit≤ tt; fine = lit≤ tt; grains = lit≤ tt; room = lit≤ tt; low_above = lit≤ tt; low_one = lit≤ tt; high_one = lit≤ tt })
    (record { half = 5; even = refl; base = lit≤ tt; digits = lit≤ tt; fine = lit≤ tt; grains = lit≤ tt; room = lit≤ tt; low_above = lit≤ tt; low_one = lit≤ tt; high_one = lit≤ tt })
