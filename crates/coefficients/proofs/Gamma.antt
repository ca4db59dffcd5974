-- The inequalities of the running error bound, over the natural numbers. U is 1/u.
use Rattle.std.proofs.Common.{◌≡◌, ℕ, zero, suc, ◌+◌, ◌*◌, ◌^◌, ◌<◌, ◌≤◌, ap, mul-le-mul_right, mul-le-mul_left, mul-pos, pow-suc, arith}
use native.Mathlib.Nat.{le_of_mul-le-mul_left, pow-zero}

-- ---- one order, one more zero: the correction's error
-- G bounds the old errors, D that of the old corrections; r0, r and r3 are the roundings
total : (U G D w r0 r r3 N : ℕ) → U * r0 ≤ w → U * r ≤ G + D + w + r0 → U * r3 ≤ G + D + w + r0 + r → N ≤ D + r0 + r + r3 →
    U * U * U * N ≤ U * (U + 1) * (U + 1) * D + U * (2 * U + 1) * G + (3 * (U * U) + 3 * U + 1) * w
total U G D w r0 r r3 N h0 h h3 k = omega (arith, mul-le-mul_left (U * U * U) k, mul-le-mul_left (U * U) h3, mul-le-mul_left (U * U) h, mul-le-mul_left U h, mul-le-mul_left (U * U) h0, mul-le-mul_left U h0)

old_part : (U P a G D : ℕ) → P + a ≡ U → P * D ≤ a * G →
    P * (U * (U + 1) * (U + 1) * D + U * (2 * U + 1) * G) ≤ U * U * ((a + 2) * U + 1) * G
old_part U P a G D e h = omega (arith, mul-le-mul_left (U * (U + 1) * (U + 1)) h, ap (λ x. x * (U * U * G)) e, ap (λ x. x * (U * G)) e)

old_cut : (U V a : ℕ) → V + 2 + a ≡ U → V * ((a + 2) * U + 1) ≤ (a + 2) * ((V + 2) * U)
old_cut U V a e = omega arith

new_cut : (U V a : ℕ) → V + 2 + a ≡ U → 1 ≤ a → V * (3 * (U * U) + 3 * U + 1) ≤ (a + 2) * (U * U * U)
new_cut U V a e h = omega (arith, mul-le-mul_right (3 * (U * U) + 3 * U + 1) k, mul-le-mul_right (U * U * U) h)
  where
    k : V + 3 ≤ U
    k = omega arith

-- from the three parts to the whole
joined : (P T A B X w : ℕ) → T ≤ A + X * w → P * A ≤ B → P * T ≤ B + P * (X * w)
joined P T A B X w h k = omega (arith, mul-le-mul_left P h)

widened : (H U P V b G w X Y N : ℕ) → P * (H * U * N) ≤ H * X * G + P * (Y * w) → V * X ≤ b * (P * U) → V * Y ≤ b * (H * U) →
    P * (H * U) * (V * N) ≤ P * (H * U) * (b * (G + w))
widened H U P V b G w X Y N h hx hy = omega (arith, mul-le-mul_left V h, mul-le-mul_left (H * G) hx, mul-le-mul_left (P * w) hy)

pub gamma_step : (U V a G D w r0 r r3 N : ℕ) → V + 2 + a ≡ U → 1 ≤ a → (V + 2) * D ≤ a * G →
    U * r0 ≤ w → U * r ≤ G + D + w + r0 → U * r3 ≤ G + D + w + r0 + r → N ≤ D + r0 + r + r3 →
    V * N ≤ (a + 2) * (G + w)
gamma_step U V a G D w r0 r r3 N e h hD h0 h1 h3 k = le_of_mul-le-mul_left {k = (V + 2) * (U * U * U)} whole (mul-pos two (mul-pos (mul-pos some some) some))
  where
    some : 0 < U
    some = omega arith

    two : 0 < V + 2
    two = omega arith

    whole : (V + 2) * (U * U * U) * (V * N) ≤ (V + 2) * (U * U * U) * ((a + 2) * (G + w))
    whole = widened (U * U) U (V + 2) V (a + 2) G w ((a + 2) * U + 1) (3 * (U * U) + 3 * U + 1) N
        (joined (V + 2) (U * U * U * N) (U * (U + 1) * (U + 1) * D + U * (2 * U + 1) * G) (U * U * ((a + 2) * U + 1) * G) (3 * (U * U) + 3 * U + 1) w
        (total U G D w r0 r r3 N h0 h1 h3 k) (old_part U (V + 2) a G D e hD))
        (old_cut U V a e) (new_cut U V a e h)

-- ---- (1 + u)^N (1 − N u) ≤ 1, where M = U − N
pub powers_cut : (N U M : ℕ) → N + M ≡ U → (U + 1) ^ N * M ≤ U ^ suc N
powers_cut zero U M e = rw (pow-zero (U + 1), pow-suc U 0, pow-zero U) (omega arith)
powers_cut (suc N) U M e = rw (pow-suc (U + 1) N, pow-suc U (suc N)) (omega (arith, mul-le-mul_right U (powers_cut N U (M + 1) (omega arith)), mul-le-mul_left ((U + 1) ^ N) k))
  where
    k : (U + 1) * M ≤ U * (M + 1)
    k = omega arith

-- ---- one order, one more zero: the sum of sizes
-- es ≤ (1 + u)^m e turns into es' ≤ (1 + u)^(m+3) e', with A = U^m and B = (U+1)^m
sizes_old : (U A B X es0 es1 w w' e0 e1 : ℕ) → A ≤ B → A * es0 ≤ B * e0 → A * es1 ≤ B * e1 → U * w ≤ (U + 1) * w' →
    U * A * (es1 + w + X * es0) ≤ (U + 1) * B * (e1 + w' + X * e0)
sizes_old U A B X es0 es1 w w' e0 e1 hab h0 h1 hw =
    omega (arith, mul-le-mul_left (U * X) h0, mul-le-mul_left U h1, mul-le-mul_left A hw, mul-le-mul_right ((U + 1) * w') hab)

sizes_new : (U X w' e0 e1 f t e' : ℕ) → U * (e1 + w') ≤ (U + 1) * f → U * (X * e0) ≤ (U + 1) * t → U * (f + t) ≤ (U + 1) * e' →
    U * U * (e1 + w' + X * e0) ≤ (U + 1) * (U + 1) * e'
sizes_new U X w' e0 e1 f t e' hf ht he = omega (arith, mul-le-mul_left U hf, mul-le-mul_left U ht, mul-le-mul_left (U + 1) he)

chained : (T A es B m e H K : ℕ) → T * A * es ≤ (T + 1) * B * m → H * m ≤ K * e → H * T * A * es ≤ K * (T + 1) * B * e
chained T A es B m e H K h k = omega (arith, mul-le-mul_left H h, mul-le-mul_left ((T + 1) * B) k)

pub sizes_step : (U A B X es0 es1 w w' e0 e1 f t e' : ℕ) → A ≤ B → A * es0 ≤ B * e0 → A * es1 ≤ B * e1 →
    U * w ≤ (U + 1) * w' → U * (e1 + w') ≤ (U + 1) * f → U * (X * e0) ≤ (U + 1) * t → U * (f + t) ≤ (U + 1) * e' →
    U * U * U * A * (es1 + w + X * es0) ≤ (U + 1) * (U + 1) * (U + 1) * B * e'
sizes_step U A B X es0 es1 w w' e0 e1 f t e' hab h0 h1 hw hf ht he =
    chained U A (es1 + w + X * es0) B (e1 + w' + X * e0) e' (U * U) ((U + 1) * (U + 1)) (sizes_old U A B X es0 es1 w w' e0 e1 hab h0 h1 hw) (sizes_new U X w' e0 e1 f t e' hf ht he)
