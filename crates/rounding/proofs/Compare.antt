-- Comparisons of floats are comparisons of the numbers that they stand for. The model compares two fractions over a common
-- denominator; a unit is a common denominator too, and the order does not depend on which is taken. The size of a float is
-- a float too, which stands for the magnitude.
use Rattle.std.proofs.Common.{◌≡◌, ℕ, zero, suc, ◌+◌, ◌*◌, ◌^◌, ◌<◌, Bool, true, false, not, ◌||◌, T, ltb, ℤ, pos, refl, ap, ◌∙◌, mul_comm, lt_of_mul-lt-mul_right, mul-lt-mul_of_pos_right, mul-pos, arith, ltb→lt, lt→ltb, pow_pos}
use lib.Signed.{lt_z}
use borrow.Author.Differences as D
use borrow.Author.Differences.{neg_is, lt_T, lt_in}
use lib.Ieee.{Float, nan, inf, fin, Format, low, up, down, lt, le, below, level, fits}
use Rattle.std.proofs.lemmas.Bool.Decides.{nat_tests}
use Rattle.std.specs.Float.{float_with_sign}
use lib.Ieee.Fits.{down_pos}
use lib.Ieee.Scale.{finite}
use Rattle.integers.proofs.Tests.{decided}
use Rattle.rounding.specs.Value.{signed, magnitude, value}
use Rattle.rounding.proofs.Floats.{Held, own, extended}

-- the order of a / c and b / c is that of A and B
scaled : (a b A B L c : ℕ) → 0 < c → 0 < L → a * L ≡ A * c → b * L ≡ B * c → (a < b → A < B) × (A < B → a < b)
scaled a b A B L c C P e f =
    ((λ h. lt_of_mul-lt-mul_right c (first a b A B L c (mul-lt-mul_of_pos_right h P) e f)), λ h. lt_of_mul-lt-mul_right L (second a b A B L c (mul-lt-mul_of_pos_right h C) e f))
  where
    first : (a b A B L c : ℕ) → a * L < b * L → a * L ≡ A * c → b * L ≡ B * c → A * c < B * c
    first a b A B L c h e f = omega arith

    second : (a b A B L c : ℕ) → A * c < B * c → a * L ≡ A * c → b * L ≡ B * c → a * L < b * L
    second a b A B L c h e f = omega arith

abbrev Order : ℤ → ℤ → Type 0
Order u v = D.up u + D.down v < D.up v + D.down u

-- `below` says the order of the signed sizes
below_out : (s : Bool) (a : ℕ) (t : Bool) (b : ℕ) → T (below s a t b) → Order (signed s a) (signed t b)
below_out false a false b h = omega (arith, ltb→lt a b h)
below_out false a true b h = absurd h
below_out true a false b h = omega (arith, ltb→lt 0 (a + b) h, neg_is (pos a))
below_out true a true b h = omega (arith, ltb→lt b a h, neg_is (pos a), neg_is (pos b))

below_in : (s : Bool) (a : ℕ) (t : Bool) (b : ℕ) → Order (signed s a) (signed t b) → T (below s a t b)
below_in false a false b h = lt→ltb a b (omega arith)
below_in false a true b h = absurd (omega (arith, neg_is (pos b)))
below_in true a false b h = lt→ltb 0 (a + b) (omega (arith, neg_is (pos a)))
below_in true a true b h = lt→ltb b a (omega (arith, neg_is (pos a), neg_is (pos b)))

-- the order of the signed sizes does not change with the unit
order_scaled : (s : Bool) (a : ℕ) (t : Bool) (b A B L c : ℕ) → 0 < c → 0 < L → a * L ≡ A * c → b * L ≡ B * c → below s a t b ≡ below s A t B
order_scaled false a false b A B L c C P e f = let r = scaled a b A B L c C P e f in decided (ltb a b) (ltb A B) (λ h. lt→ltb A B (r.0 (ltb→lt a b h))) (λ h. lt→ltb a b (r.1 (ltb→lt A B h)))
order_scaled false a true b A B L c C P e f = refl
order_scaled true a false b A B L c C P e f =
    let r = scaled 0 (a + b) 0 (A + B) L c C P (nil L c) (both a b A B L c e f) in
    decided (ltb 0 (a + b)) (ltb 0 (A + B)) (λ h. lt→ltb 0 (A + B) (r.0 (ltb→lt 0 (a + b) h))) (λ h. lt→ltb 0 (a + b) (r.1 (ltb→lt 0 (A + B) h)))
  where
    nil : (L c : ℕ) → 0 * L ≡ 0 * c
    nil L c = omega arith

    both : (a b A B L c : ℕ) → a * L ≡ A * c → b * L ≡ B * c → (a + b) * L ≡ (A + B) * c
    both a b A B L c e f = omega arith
order_scaled true a true b A B L c C P e f = let r = scaled b a B A L c C P f e in decided (ltb b a) (ltb B A) (λ h. lt→ltb B A (r.0 (ltb→lt b a h))) (λ h. lt→ltb b a (r.1 (ltb→lt B A h)))

pub lt_value : (f : Format) (x y : Float) → Held f x → Held f y → lt x y ≡ lt_z (value f x) (value f y)
unfolding lt value
lt_value f nan y hx hy = absurd hx.1
lt_value f (inf s) y hx hy = absurd hx.1
lt_value f (fin s m e) nan hx hy = absurd hy.1
lt_value f (fin s m e) (inf t) hx hy = absurd hy.1
lt_value f (fin s m e) (fin t n d) hx hy =
    let A = magnitude f (fin s m e) in
    let B = magnitude f (fin t n d) in
    order_scaled s (m * up e * down d) t (n * up d * down e) A B (2 ^ low f) (down e * down d) (mul-pos (down_pos e) (down_pos d)) (pow_pos (low f))
    (extended (m * up e) (down d) (2 ^ low f) (down e) A (own f s m e hx.0))
    (extended (n * up d) (down e) (2 ^ low f) (down d) B (own f t n d hy.0) ∙ ap (λ (z : ℕ). B * z) (mul_comm (down d) (down e)))
    ∙ decided (below s A t B) (lt_z (signed s A) (signed t B)) (λ h. lt_in (signed s A) (signed t B) (below_out s A t B h)) (λ h. below_in s A t B (lt_T (signed s A) (signed t B) h))

-- of two finite numbers one is at most the other, or the other is below it
turned : (s : Bool) (a : ℕ) (t : Bool) (b : ℕ) → (below s a t b || level s a t b) ≡ not (below t b s a)
turned false a false b = grind (arith, nat_tests)
turned false a true b = grind (arith, nat_tests)
turned true a false b = grind (arith, nat_tests)
turned true a true b = grind (arith, nat_tests)

finite_le : (x y : Float) → T (finite x) → T (finite y) → le x y ≡ not (lt y x)
unfolding le lt
finite_le nan y hx hy = absurd hx
finite_le (inf s) y hx hy = absurd hx
finite_le (fin s m e) nan hx hy = absurd hy
finite_le (fin s m e) (inf t) hx hy = absurd hy
finite_le (fin s m e) (fin t n d) hx hy = turned s (m * up e * down d) t (n * up d * down e)

pub le_value : (f : Format) (x y : Float) → Held f x → Held f y → le x y ≡ not (lt_z (value f y) (value f x))
le_value f x y hx hy = finite_le x y hx.1 hy.1 ∙ ap not (lt_value f y x hy hx)

-- the size of x as a float
pub abs_held : (f : Format) (x : Float) → Held f x → Held f (float_with_sign false x)
unfolding float_with_sign fits
abs_held f nan h = absurd h.1
abs_held f (inf s) h = absurd h.1
abs_held f (fin s zero e) h = h
abs_held f (fin s (suc m) e) h = h

pub abs_value : (f : Format) (x : Float) → value f (float_with_sign false x) ≡ pos (magnitude f x)
unfolding float_with_sign value magnitude
abs_value f nan = refl
abs_value f (inf s) = refl
abs_value f (fin s m e) = refl
