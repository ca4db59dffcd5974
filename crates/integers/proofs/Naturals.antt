-- Natural numbers: a common factor, powers, and how far two numbers lie apart.
use Rattle.std.proofs.Common.{◌≡◌, ℕ, zero, suc, ◌+◌, ◌-◌, ◌*◌, ◌^◌, ◌<◌, ◌≤◌, refl, subst, inl, inr, le_of_mul-le-mul_right, mul-le-mul_left, mul-le-mul_right, arith}
use native.Mathlib.Nat.{pow-zero, pow-le-pow_right}
use native.Mathlib.Decide.{dec_le}
use Rattle.std.proofs.lemmas.Bool.{cases_lt}
use lib.Pow.{pow-lt}

pub cancel : (x y c : ℕ) → 0 < c → x * c ≡ y * c → x ≡ y
cancel x y c h e = omega (arith, le_of_mul-le-mul_right {m = x} {n = y} {k = c} (omega arith) h, le_of_mul-le-mul_right {m = y} {n = x} {k = c} (omega arith) h)

pub some_power : (b k : ℕ) → 0 < b → 0 < b ^ k
some_power b k h = rw (pow-zero b) at (pow-le-pow_right h {i = 0} {j = k} (omega arith))

-- powers of 2 in order have exponents in order
pub pow_le_back : (a b : ℕ) → 2 ^ a ≤ 2 ^ b → a ≤ b
pow_le_back a b h = elim (cases_lt b a) [ inl l ↦ absurd (over (2 ^ a) (2 ^ b) h (pow-lt l)) | inr g ↦ g ]
  where
    over : (x y : ℕ) → x ≤ y → y < x → ⊥
    over x y h k = omega arith

-- two factors below x have a product below x · x
pub product_less : (m n x : ℕ) → m < x → n < x → m * n < x * x
product_less m n x h k = omega (arith, mul-le-mul_right n h, mul-le-mul_left x k)

-- a number above 0 has one before it
pub before : (e : ℕ) → 0 < e → (k : ℕ) × (e ≡ suc k)
before zero h = absurd (omega arith)
before (suc k) h = (k, refl)

-- the distance of two numbers
abbrev pub dist : ℕ → ℕ → ℕ
dist a b = (a - b) + (b - a)

dist_up : (a c x : ℕ) → dist (a * x) ((a + c) * x) ≡ dist a (a + c) * x
dist_up a c x = rw k (omega arith)
  where
    k : dist a (a + c) ≡ c
    k = omega arith

dist_down : (a c x : ℕ) → dist ((a + c) * x) (a * x) ≡ dist (a + c) a * x
dist_down a c x = rw k (omega arith)
  where
    k : dist (a + c) a ≡ c
    k = omega arith

pub dist_times : (a b x : ℕ) → dist (a * x) (b * x) ≡ dist a b * x
dist_times a b x = go (dec_le a b)
  where
    go : Dec (a ≤ b) → dist (a * x) (b * x) ≡ dist a b * x
    go (yes l) = subst (λ (z : ℕ). dist (a * x) (z * x) ≡ dist a z * x) (omega arith) (dist_up a (b - a) x)
    go (no l) = subst (λ (z : ℕ). dist (z * x) (b * x) ≡ dist z b * x) (omega arith) (dist_down b (a - b) x)

-- a multiple of a distance is small where both differences are
pub dist_bound : (U x n y : ℕ) → U * x ≤ U * n + y → U * n ≤ U * x + y → U * dist x n ≤ y
dist_bound U x n y h k = go (dec_le x n)
  where
    low : (c : ℕ) → U * (x + c) ≤ U * x + y → U * dist x (x + c) ≤ y
    low c k = rw same (omega arith)
      where
        same : dist x (x + c) ≡ c
        same = omega arith

    high : (c : ℕ) → U * (n + c) ≤ U * n + y → U * dist (n + c) n ≤ y
    high c k = rw same (omega arith)
      where
        same : dist (n + c) n ≡ c
        same = omega arith

    go : Dec (x ≤ n) → U * dist x n ≤ y
    go (yes l) = let q : x + (n - x) ≡ n = omega arith in subst (λ (z : ℕ). U * dist x z ≤ y) q (low (n - x) (rw q k))
    go (no l) = let q : n + (x - n) ≡ x = omega arith in subst (λ (z : ℕ). U * dist z n ≤ y) q (high (x - n) (rw q h))
