-- The inequalities of the closing and of the verdict, over the natural numbers. U is 1/u.
use Rattle.std.proofs.Common.{◌≡◌, ℕ, ◌+◌, ◌*◌, ◌<◌, ◌≤◌, ap, mul-le-mul_right, mul-le-mul_left, mul-pos, lt_of_not-le, not-le_of_lt, arith}
use native.Mathlib.Nat.{le_of_mul-le-mul_left}

-- ---- the closing; T is U + 1
α₁ : (A P D a ES B E q : ℕ) → P * D ≤ a * ES → A * ES ≤ B * (E * q) → P * (A * D) ≤ a * (B * (E * q))
α₁ A P D a ES B E q h k = omega (arith, mul-le-mul_left A h, mul-le-mul_left a k)

α₂ : (P X a Q U T γ Y : ℕ) → P * X ≤ a * Y → U * (a * Q) ≤ T * (γ * P) → 0 < P → U * Q * X ≤ T * γ * Y
α₂ P X a Q U T γ Y h k p = le_of_mul-le-mul_left {k = P} (omega (arith, mul-le-mul_left (U * Q) h, mul-le-mul_right Y k)) p

α₃ : (U Q X T γ B E q e : ℕ) → U * Q * X ≤ T * γ * (B * (E * q)) → U * (γ * E) ≤ T * (e * Q) → 0 < Q → U * U * X ≤ T * T * B * (e * q)
α₃ U Q X T γ B E q e h k p = le_of_mul-le-mul_left {k = Q} (omega (arith, mul-le-mul_left U h, mul-le-mul_left (T * B * q) k)) p

α₄ : (U X T B e q α M : ℕ) → U * U * X ≤ T * T * B * (e * q) → U * (e * U) ≤ T * (α * M) → U * U * (U * U * X) ≤ T * T * T * B * M * (α * q)
α₄ U X T B e q α M h k = omega (arith, mul-le-mul_left (U * U) h, mul-le-mul_left (T * T * B * q) k)

pub closing_α : (U T P a A B M Q E γ e α D ES q : ℕ) → P * D ≤ a * ES → A * ES ≤ B * (E * q) → U * (a * Q) ≤ T * (γ * P) → U * (γ * E) ≤ T * (e * Q) → U * (e * U) ≤ T * (α * M) →
    T * T * T * B * M ≤ U * U * (U * U * A) → 0 < P → 0 < Q → 0 < U → 0 < A → D ≤ α * q
closing_α U T P a A B M Q E γ e α D ES q h₁ h₂ h₃ h₄ h₅ cut pP pQ pU pA =
    le_of_mul-le-mul_left {k = U * U * (U * U * A)} (last (U * U) A D (α * q) (T * T * T * B * M) fourth cut) (mul-pos (mul-pos pU pU) (mul-pos (mul-pos pU pU) pA))
  where
    fourth : U * U * (U * U * (A * D)) ≤ T * T * T * B * M * (α * q)
    fourth = α₄ U (A * D) T B e q α M (α₃ U Q (A * D) T γ B E q e (α₂ P (A * D) a Q U T γ (B * (E * q)) (α₁ A P D a ES B E q h₁ h₂) h₃ pP) h₄ pQ) h₅

    last : (H A D Y Z : ℕ) → H * (H * (A * D)) ≤ Z * Y → Z ≤ H * (H * A) → H * (H * A) * D ≤ H * (H * A) * Y
    last H A D Y Z h k = omega (arith, h, mul-le-mul_right Y k)

two_cut : (U M : ℕ) → M + 2 ≡ U → (U + 1) * (U + 1) * M ≤ U * U * U
two_cut U M e = omega (arith, ap (λ z. U * U * z) e, ap (λ z. U * z) e)

three_cut : (U M : ℕ) → M + 3 ≡ U → (U + 1) * (U + 1) * (U + 1) * M ≤ U * U * (U * U)
three_cut U M e = omega (arith, ap (λ z. U * U * U * z) e, ap (λ z. U * U * z) e, ap (λ z. U * z) e)

pub closing_bound : (U M c s b : ℕ) → M + 2 ≡ U → U * c ≤ (U + 1) * s → U * (s * U) ≤ (U + 1) * (b * M) → c ≤ b
closing_bound U M c s b e h k = le_of_mul-le-mul_left {k = U * U * U} (go (U + 1) (two_cut U M e) h k) (mul-pos (mul-pos p p) p)
  where
    p : 0 < U
    p = omega arith

    go : (T : ℕ) → T * T * M ≤ U * U * U → U * c ≤ T * s → U * (s * U) ≤ T * (b * M) → U * U * U * c ≤ U * U * U * b
    go T z h k = omega (arith, mul-le-mul_right b z, mul-le-mul_left (U * U) h, mul-le-mul_left T k)

-- ---- the verdict
-- e is the exact distance, d the rounded one
thrice : (U T M y s z : ℕ) → U * U * y ≤ T * T * s → U * (s * U) ≤ T * (z * M) → T * T * T * M ≤ U * U * (U * U) → 0 < U → y ≤ z
thrice U T M y s z h k cut p = le_of_mul-le-mul_left {k = U * U * (U * U)} (omega (arith, mul-le-mul_left (U * U) h, mul-le-mul_left (T * T) k, mul-le-mul_right z cut)) (mul-pos (mul-pos p p) (mul-pos p p))

pub near_cut : (U M e d b s near : ℕ) → M + 3 ≡ U → U * e ≤ (U + 1) * d → U * (d + b) ≤ (U + 1) * s → U * (s * U) ≤ (U + 1) * (near * M) → e + b ≤ near
near_cut U M e d b s near m h₁ h₂ h₃ = thrice U (U + 1) M (e + b) s near (omega (arith, mul-le-mul_left U h₁, mul-le-mul_left (U + 1) h₂)) h₃ (three_cut U M m) (omega arith)

far_below : (U M e d b T s far : ℕ) → M + 3 ≡ U → U * d ≤ (U + 1) * e → U * (T + b) ≤ (U + 1) * s → U * (s * U) ≤ (U + 1) * (far * M) → e ≤ T + b → d ≤ far
far_below U M e d b T s far m h₁ h₂ h₃ k = thrice U (U + 1) M d s far (omega (arith, mul-le-mul_left U h₁, mul-le-mul_left (U + 1) h₂, mul-le-mul_left (U * (U + 1)) k)) h₃ (three_cut U M m) (omega arith)

pub far_cut : (U M e d b T s far : ℕ) → M + 3 ≡ U → U * d ≤ (U + 1) * e → U * (T + b) ≤ (U + 1) * s → U * (s * U) ≤ (U + 1) * (far * M) → far < d → T + b < e
far_cut U M e d b T s far m h₁ h₂ h₃ k = lt_of_not-le (λ l. not-le_of_lt k (far_below U M e d b T s far m h₁ h₂ h₃ l))
