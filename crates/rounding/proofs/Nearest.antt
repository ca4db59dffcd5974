-- The whole number nearest to a fraction n / d. Division gives a quotient and a remainder; the remainder, against half of d,
-- says which of the two whole numbers around n / d is nearer, and at a half the even one is taken. Hence it lies at most a
-- half away and is even at a half. From these two facts alone it follows that a larger fraction has no smaller
-- nearest whole number.
use Rattle.std.proofs.Common.{◌≡◌, ℕ, suc, ◌+◌, ◌*◌, ◌/◌, ◌%◌, ◌<◌, ◌≤◌, Bool, true, false, cond, ◌&&◌, ◌||◌, eqb, ltb, refl, mul-le-mul_right, mod-lt, mul-pos, arith, ltb-false, ltb-true, eqb-true}
use native.Mathlib.Nat.{mod-add-div'}
use native.Mathlib.Decide.{dec_le}
use borrow.Author.Tests.{eqb_apart}
use Rattle.integers.proofs.Naturals.{cancel}
use Rattle.rounding.specs.Radix.{nearest}

-- m is nearest to n / d: within a half, and even at a half
pub record Nearest (n d m : ℕ) : Type 0 where
  pub not_above : 2 * (m * d) ≤ 2 * n + d
  pub not_below : 2 * n ≤ 2 * (m * d) + d
  pub even_down : 2 * n ≡ 2 * (m * d) + d → m % 2 ≡ 0
  pub even_up : 2 * (m * d) ≡ 2 * n + d → m % 2 ≡ 0

up_case : (n d q r : ℕ) → q * d + r ≡ n → r < d → d < 2 * r → Nearest n d (suc q)
up_case n d q r e h k = record { not_above = omega arith; not_below = omega arith; even_down = λ x. absurd (omega arith); even_up = λ x. absurd (omega arith) }

tie_up : (n d q r : ℕ) → q * d + r ≡ n → r < d → d ≡ 2 * r → q % 2 ≡ 1 → Nearest n d (suc q)
tie_up n d q r e h k o = record { not_above = omega arith; not_below = omega arith; even_down = λ x. omega arith; even_up = λ x. omega arith }

tie_down : (n d q r : ℕ) → q * d + r ≡ n → r < d → d ≡ 2 * r → ¬ (q % 2 ≡ 1) → Nearest n d q
tie_down n d q r e h k o = record { not_above = omega arith; not_below = omega arith; even_down = λ x. omega arith; even_up = λ x. omega arith }

down_case : (n d q r : ℕ) → q * d + r ≡ n → r < d → 2 * r < d → Nearest n d q
down_case n d q r e h k = record { not_above = omega arith; not_below = omega arith; even_down = λ x. absurd (omega arith); even_up = λ x. absurd (omega arith) }

nearest_by : (n d q r : ℕ) → q * d + r ≡ n → r < d → (b₁ b₂ b₃ : Bool) → ltb d (2 * r) ≡ b₁ → eqb d (2 * r) ≡ b₂ → eqb (q % 2) 1 ≡ b₃ → Nearest n d (cond (b₁ || (b₂ && b₃)) (suc q) q)
nearest_by n d q r e h true b₂ b₃ t₁ t₂ t₃ = up_case n d q r e h (ltb-true d (2 * r) t₁)
nearest_by n d q r e h false true true t₁ t₂ t₃ = tie_up n d q r e h (eqb-true d (2 * r) t₂) (eqb-true (q % 2) 1 t₃)
nearest_by n d q r e h false true false t₁ t₂ t₃ = tie_down n d q r e h (eqb-true d (2 * r) t₂) (eqb_apart (q % 2) 1 t₃)
nearest_by n d q r e h false false b₃ t₁ t₂ t₃ = down_case n d q r e h (omega (arith, ltb-false d (2 * r) t₁, eqb_apart d (2 * r) t₂))

pub nearest_is : (n d : ℕ) → 0 < d → Nearest n d (nearest n d)
unfolding nearest
nearest_is n d h = nearest_by n d (n / d) (n % d) (omega (arith, mod-add-div' n d)) (mod-lt n h) _ _ _ refl refl refl

-- a larger fraction has no smaller nearest whole number: were it smaller by one, both fractions would lie a half between the
-- two, and both whole numbers would be even
halves : (n d n' d' m m' : ℕ) → n' * d ≤ n * d' → 2 * n ≤ 2 * (m * d) + d → 2 * (m' * d') ≤ 2 * n' + d' → suc m ≤ m' →
    (2 * n * d' ≡ (2 * (m * d) + d) * d') × (2 * (m' * d') * d ≡ (2 * n' + d') * d) × (m' * (d * d') ≡ suc m * (d * d'))
halves n d n' d' m m' e a b l = omega (arith, mul-le-mul_right d' a, mul-le-mul_right d b, mul-le-mul_right (d * d') l)

pub nearest_mono : (n d n' d' m m' : ℕ) → 0 < d → 0 < d' → n' * d ≤ n * d' → Nearest n d m → Nearest n' d' m' → m' ≤ m
nearest_mono n d n' d' m m' h h' e a b = go (dec_le m' m)
  where
    go : Dec (m' ≤ m) → m' ≤ m
    go (yes l) = l
    go (no l) = absurd (both (halves n d n' d' m m' e a.not_below b.not_above (omega arith)))
      where
        both : (2 * n * d' ≡ (2 * (m * d) + d) * d') × (2 * (m' * d') * d ≡ (2 * n' + d') * d) × (m' * (d * d') ≡ suc m * (d * d')) → ⊥
        both t = omega (arith, a.even_down (cancel (2 * n) (2 * (m * d) + d) d' h' t.0), b.even_up (cancel (2 * (m' * d')) (2 * n' + d') d h t.1), cancel m' (suc m) (d * d') (mul-pos h h') t.2)
