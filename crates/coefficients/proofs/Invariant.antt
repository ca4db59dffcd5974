-- What a cell holds after n zeros, of the exact S of its order, and that an accepted addition keeps it.
-- r is n − 1, or 0 for a new row: so many additions rounded anything.
use Rattle.std.proofs.Common.{◌≡◌, ℕ, zero, suc, ◌+◌, ◌-◌, ◌*◌, ◌^◌, ◌<◌, ◌≤◌, ℤ, pos, negsuc, ◌+ℤ◌, ◌-ℤ◌, ◌*ℤ◌, nat_abs, sym, refl, ap, ◌∙◌, mul-le-mul_right, mul-le-mul_left, arith}
use native.Mathlib.Nat.{pow-succ', pow-le-pow_left}
use Rattle.std.proofs.lemmas.Int.{ints}
use Rattle.integers.proofs.Ring.{ring, at, num, ◌⊕◌, ◌⊗◌, ⊖◌}
use Rattle.integers.proofs.Integers.{abs_mul, abs_tri, spread, times_times, *ℤ_assoc}
use Rattle.arithmetic.specs.Meaning.{Meaning, Number}
use Rattle.arithmetic.specs.Operations.{size}
use Rattle.arithmetic.specs.Rules.{Rules}
use Rattle.arithmetic.proofs.Near.{Near, near_times, Natural, near_natural, exact_size}
use Rattle.arithmetic.proofs.Accepted.{sum_number, product_number, size_number, sum_near, product_near, sum_zero_left, sum_zero_right, product_zero, product_one, zero_is_number}
use Rattle.coefficients.specs.Row.{Cell, no_cell, one_cell}
use Rattle.coefficients.proofs.Correction.{error_step, correction_step}
use Rattle.coefficients.proofs.Work.{Did}
use Rattle.coefficients.proofs.Gamma.{sizes_step}

-- the exact error of a cell of order j, for the exact sum s, with q = Q^j
abbrev pub err : Meaning → ℤ → ℕ → Cell → ℤ
err m s q c = s *ℤ pos m.Q -ℤ c.S *ℤ pos q

pub record Holds (m : Meaning) (r : ℕ) (s : ℤ) (q : ℕ) (c : Cell) : Type 0 where
  pub S_number : Number m c.S
  pub C_number : Number m c.C
  pub E_number : Number m c.E
  pub es : ℕ
  pub error : nat_abs (err m s q c) ≤ es
  pub corrected : (m.U - 2 * r) * nat_abs (c.C *ℤ pos q -ℤ err m s q c) ≤ 2 * r * es
  pub natural : c.E ≡ pos (nat_abs c.E)
  pub sizes : m.U ^ (3 * r) * es ≤ (m.U + 1) ^ (3 * r) * (nat_abs c.E * q)
  pub young : r ≡ 0 → (c.C ≡ pos 0) × (c.E ≡ pos 0) × (es ≡ 0)

pub pow_three : (U r : ℕ) → U ^ (3 * suc r) ≡ U * U * U * U ^ (3 * r)
pow_three U r = ap (λ x. U ^ x) three ∙ rw (pow-succ' U (suc (suc (3 * r))), pow-succ' U (suc (3 * r)), pow-succ' U (3 * r)) (omega arith)
  where
    three : 3 * suc r ≡ suc (suc (suc (3 * r)))
    three = omega arith

regroup : (S' β S p : ℤ) → S' +ℤ (β +ℤ ((S +ℤ p) -ℤ S')) ≡ S +ℤ (p +ℤ β)
regroup S' β S p = omega (arith, ints)

-- the exact errors, as sizes
sizes_add : (ε₁ W x ε₀ : ℤ) (es₀ es₁ : ℕ) → nat_abs ε₀ ≤ es₀ → nat_abs ε₁ ≤ es₁ → nat_abs (ε₁ +ℤ W +ℤ x *ℤ ε₀) ≤ es₁ + nat_abs W + nat_abs x * es₀
sizes_add ε₁ W x ε₀ es₀ es₁ h₀ h₁ = omega (arith, abs_tri (ε₁ +ℤ W) (x *ℤ ε₀), abs_tri ε₁ W, abs_mul x ε₀, mul-le-mul_left (nat_abs x) h₀)

-- a natural number times a positive one
pub natural_without : (t : ℤ) (q : ℕ) → 0 < q → t *ℤ pos q ≡ pos (nat_abs (t *ℤ pos q)) → t ≡ pos (nat_abs t)
natural_without (pos n) q h e = refl
natural_without (negsuc n) (suc q) h e = absurd (omega (arith, ints))
natural_without (negsuc n) zero h e = absurd (omega arith)

by_zero : (r : ℕ) (P : ℕ → Type 0) → (r ≡ 0 → P 0) → (1 ≤ r → P r) → P r
by_zero zero P f g = f refl
by_zero (suc r) P f g = g (omega arith)

-- the shapes of the steps' inequalities
reshape : (V N r A B C : ℕ) → V * N ≤ (2 * r + 2) * (A + B + C) → V * N ≤ 2 * suc r * (A + C + B)
reshape V N r A B C h = omega arith

scale_sum : (U a b f q : ℕ) → U * (a + b) ≤ (U + 1) * f → U * (a * q + b * q) ≤ (U + 1) * (f * q)
scale_sum U a b f q h = omega (arith, mul-le-mul_right q h)

scale_product : (U X e t Q q : ℕ) → U * (X * e) ≤ (U + 1) * (t * Q) → U * (X * (e * q)) ≤ (U + 1) * (t * (Q * q))
scale_product U X e t Q q h = omega (arith, mul-le-mul_right q h)

early : (U N w es : ℕ) → U * N ≤ w → w ≤ es → (U - 2 * 1) * N ≤ 2 * 1 * es
early U N w es h k = omega (arith, mul-le-mul_right N l)
  where
    l : U - 2 * 1 ≤ U
    l = omega arith

zero_size : (z : ℤ) (e : ℕ) → nat_abs z ≤ e → e ≡ 0 → z ≡ pos 0
zero_size (pos n) e h k = ap pos (omega arith)
zero_size (negsuc n) e h k = absurd (omega arith)

alone : (w W x : ℤ) → w -ℤ (pos 0 +ℤ W +ℤ x *ℤ pos 0) ≡ w -ℤ W
alone w W x = ring (at w ⊕ (⊖ (num 0 ⊕ at W ⊕ at x ⊗ num 0))) (at w ⊕ (⊖ at W)) (omega arith)

module _ (m : Meaning) (R : Rules m) (x : ℤ) (x_number : Number m x) (c c₀ c' : Cell) (d : Did m x c c₀ c') where
  abbrev Q : ℕ
  Q = m.Q

  abbrev U : ℕ
  U = m.U

  abbrev W : ℤ
  W = d.β +ℤ d.σ

  module _ (S_n : Number m c.S) (C_n : Number m c.C) (E_n : Number m c.E) (S₀N : Number m c₀.S) (C₀N : Number m c₀.C) (E₀N : Number m c₀.E) where
    p_n : Number m d.p
    p_n = product_number m R x c₀.S d.p d.p_is

    β_n : Number m d.β
    β_n = rw d.β_is (R.product_error_is_number x c₀.S d.p x_number S₀N d.p_is)

    σ_n : Number m d.σ
    σ_n = rw d.σ_is (R.sum_error_is_number c.S d.p c'.S S_n p_n d.S_is)

    w_n : Number m d.w
    w_n = sum_number m R d.β d.σ d.w d.w_is

    g_n : Number m d.g
    g_n = sum_number m R c.C d.w d.g d.g_is

    h_n : Number m d.h
    h_n = product_number m R x c₀.C d.h d.h_is

    f_n : Number m d.f
    f_n = sum_number m R c.E (size d.w) d.f d.f_is

    t_n : Number m d.t
    t_n = product_number m R (size x) c₀.E d.t d.t_is

    S'_n : Number m c'.S
    S'_n = sum_number m R c.S d.p c'.S d.S_is

    C'_n : Number m c'.C
    C'_n = sum_number m R d.g d.h c'.C d.C_is

    E'_n : Number m c'.E
    E'_n = sum_number m R d.f d.t c'.E d.E_is

    -- the splits lose nothing
    lossless : pos Q *ℤ (c'.S +ℤ W) ≡ pos Q *ℤ c.S +ℤ x *ℤ c₀.S
    lossless = ap (λ z. pos Q *ℤ z) parts ∙ ring (num Q ⊗ (at c.S ⊕ at (d.p +ℤ d.β))) (num Q ⊗ at c.S ⊕ num Q ⊗ at (d.p +ℤ d.β)) (omega arith) ∙ ap (λ z. pos Q *ℤ c.S +ℤ z) made
      where
        made : pos Q *ℤ (d.p +ℤ d.β) ≡ x *ℤ c₀.S
        made = rw d.β_is (R.product_error_is_exact x c₀.S d.p x_number S₀N d.p_is)

        parts : c'.S +ℤ (d.β +ℤ d.σ) ≡ c.S +ℤ (d.p +ℤ d.β)
        parts = rw d.σ_is (regroup c'.S d.β c.S d.p)

    w_near : Near U d.w W
    w_near = sum_near m R d.β d.σ d.w β_n σ_n d.w_is

    g_near : Near U d.g (c.C +ℤ d.w)
    g_near = sum_near m R c.C d.w d.g C_n w_n d.g_is

    h_near : Near U (d.h *ℤ pos Q) (x *ℤ c₀.C)
    h_near = product_near m R x c₀.C d.h x_number C₀N d.h_is

    C_near : Near U c'.C (d.g +ℤ d.h)
    C_near = sum_near m R d.g d.h c'.C g_n h_n d.C_is

    f_near : Near U d.f (c.E +ℤ size d.w)
    f_near = sum_near m R c.E (size d.w) d.f E_n (size_number m R d.w w_n) d.f_is

    t_near : Near U (d.t *ℤ pos Q) (size x *ℤ c₀.E)
    t_near = product_near m R (size x) c₀.E d.t (size_number m R x x_number) E₀N d.t_is

    E_near : Near U c'.E (d.f +ℤ d.t)
    E_near = sum_near m R d.f d.t c'.E f_n t_n d.E_is

    some_U : 0 < U
    some_U = omega (arith, R.fine)

    module _ (r : ℕ) (small : r ≤ 62) (s s₀ : ℤ) (q : ℕ) (o : Holds m r s (Q * q) c) (o₀ : Holds m r s₀ q c₀) where
      abbrev QJ : ℕ
      QJ = Q * q

      abbrev ε₁ : ℤ
      ε₁ = err m s QJ c

      abbrev ε₀ : ℤ
      ε₀ = err m s₀ q c₀

      abbrev ε' : ℤ
      ε' = err m (s +ℤ x *ℤ s₀) QJ c'

      error_is : ε' ≡ ε₁ +ℤ W *ℤ pos QJ +ℤ x *ℤ ε₀
      error_is = error_step Q q x s s₀ c.S c₀.S c'.S W lossless

      abbrev es' : ℕ
      es' = o.es + nat_abs (W *ℤ pos QJ) + nat_abs x * o₀.es

      error' : nat_abs ε' ≤ es'
      error' = rw error_is (sizes_add ε₁ (W *ℤ pos QJ) x ε₀ o₀.es o.es o₀.error o.error)

      -- the roundings of the correction, in units of the order
      w_scaled : Near U (d.w *ℤ pos QJ) (W *ℤ pos QJ)
      w_scaled = near_times U d.w W QJ w_near

      g_scaled : Near U (d.g *ℤ pos QJ) (c.C *ℤ pos QJ +ℤ d.w *ℤ pos QJ)
      g_scaled = rw (← spread c.C d.w QJ) (near_times U d.g (c.C +ℤ d.w) QJ g_near)

      h_scaled : Near U (d.h *ℤ pos QJ) (x *ℤ (c₀.C *ℤ pos q))
      h_scaled = rw (← *ℤ_assoc x c₀.C (pos q), ← times_times d.h Q q) (near_times U (d.h *ℤ pos Q) (x *ℤ c₀.C) q h_near)

      C_scaled : Near U (c'.C *ℤ pos QJ) (d.g *ℤ pos QJ +ℤ d.h *ℤ pos QJ)
      C_scaled = rw (← spread d.g d.h QJ) (near_times U c'.C (d.g +ℤ d.h) QJ C_near)

      room : (U - 2 * suc r) + 2 + 2 * r ≡ U
      room = omega (arith, R.fine)

      room_before : U - 2 * r ≡ (U - 2 * suc r) + 2
      room_before = omega (arith, R.fine)

      corrected_later : 1 ≤ r → (U - 2 * suc r) * nat_abs (c'.C *ℤ pos QJ -ℤ ε') ≤ 2 * suc r * es'
      corrected_later k = rw error_is (reshape (U - 2 * suc r) _ r o.es (nat_abs x * o₀.es) (nat_abs (W *ℤ pos QJ))
          (correction_step U (U - 2 * suc r) (2 * r) x (c₀.C *ℤ pos q) (c.C *ℤ pos QJ) (W *ℤ pos QJ) (d.w *ℤ pos QJ) (d.g *ℤ pos QJ) (d.h *ℤ pos QJ) (c'.C *ℤ pos QJ) ε₀ ε₁ o₀.es o.es room (omega arith)
          (record { error = o₀.error; corrected = rw room_before at o₀.corrected }) (record { error = o.error; corrected = rw room_before at o.corrected })
          w_scaled g_scaled h_scaled C_scaled))

      corrected_early : r ≡ 0 → (U - 2 * 1) * nat_abs (c'.C *ℤ pos QJ -ℤ ε') ≤ 2 * 1 * es'
      corrected_early k = rw (error_is, no_ε₁, no_ε₀, C_is_w, alone (d.w *ℤ pos QJ) (W *ℤ pos QJ) x) (early U _ (nat_abs (W *ℤ pos QJ)) es' w_scaled.by_exact (omega arith))
        where
          no_ε₁ : ε₁ ≡ pos 0
          no_ε₁ = zero_size ε₁ o.es o.error (o.young k).2

          no_ε₀ : ε₀ ≡ pos 0
          no_ε₀ = zero_size ε₀ o₀.es o₀.error (o₀.young k).2

          g_is_w : d.g ≡ d.w
          g_is_w = sum_zero_left m R d.w d.g w_n (rw (o.young k).0 at d.g_is)

          h_is_0 : d.h ≡ pos 0
          h_is_0 = product_zero m R x d.h (rw (o₀.young k).0 at d.h_is)

          C_is_w : c'.C ≡ d.w
          C_is_w = sum_zero_right m R d.g c'.C g_n (rw h_is_0 at d.C_is) ∙ g_is_w

      -- the sizes
      f_natural : Natural U d.f (nat_abs c.E + nat_abs d.w)
      f_natural = near_natural U d.f _ some_U (rw o.natural at f_near)

      t_natural : Natural U (d.t *ℤ pos Q) (nat_abs x * nat_abs c₀.E)
      t_natural = near_natural U (d.t *ℤ pos Q) _ some_U (rw o₀.natural at t_near)

      t_is_natural : d.t ≡ pos (nat_abs d.t)
      t_is_natural = natural_without d.t Q R.some_scale t_natural.is

      E_natural : Natural U c'.E (nat_abs d.f + nat_abs d.t)
      E_natural = near_natural U c'.E _ some_U (rw (f_natural.is, t_is_natural) at E_near)

      sizes' : U ^ (3 * suc r) * es' ≤ (U + 1) ^ (3 * suc r) * (nat_abs c'.E * QJ)
      sizes' = rw (pow_three U r, pow_three (U + 1) r) (sizes_step U (U ^ (3 * r)) ((U + 1) ^ (3 * r)) (nat_abs x) o₀.es o.es (nat_abs (W *ℤ pos QJ)) (nat_abs d.w * QJ)
          (nat_abs c₀.E * q) (nat_abs c.E * QJ) (nat_abs d.f * QJ) (nat_abs d.t * QJ) (nat_abs c'.E * QJ)
          (pow-le-pow_left more (3 * r)) o₀.sizes o.sizes
          (rw (abs_mul d.w (pos QJ)) at (exact_size U (d.w *ℤ pos QJ) (W *ℤ pos QJ) w_scaled))
          (scale_sum U (nat_abs c.E) (nat_abs d.w) (nat_abs d.f) QJ f_natural.exact_below)
          (scale_product U (nat_abs x) (nat_abs c₀.E) (nat_abs d.t) Q q (rw (abs_mul d.t (pos Q)) at t_natural.exact_below))
          (scale_sum U (nat_abs d.f) (nat_abs d.t) (nat_abs c'.E) QJ E_natural.exact_below))
        where
          more : U ≤ U + 1
          more = omega arith

      corrected' : (U - 2 * suc r) * nat_abs (c'.C *ℤ pos QJ -ℤ ε') ≤ 2 * suc r * es'
      corrected' = by_zero r (λ k. (U - 2 * suc k) * nat_abs (c'.C *ℤ pos QJ -ℤ ε') ≤ 2 * suc k * es') corrected_early corrected_later

      pub kept : Holds m (suc r) (s +ℤ x *ℤ s₀) QJ c'
      kept = record { S_number = S'_n; C_number = C'_n; E_number = E'_n; es = es'; error = error'; corrected = corrected'; natural = E_natural.is; sizes = sizes'; young = λ k. absurd (omega arith) }

-- ---- a cell in which nothing was rounded
pub exact_cell : (m : Meaning) → Rules m → (r : ℕ) (s : ℤ) (q : ℕ) (c : Cell) → Number m c.S → c.C ≡ pos 0 → c.E ≡ pos 0 → s *ℤ pos m.Q ≡ c.S *ℤ pos q → Holds m r s q c
exact_cell m R r s q c n C_0 E_0 e = record {
  S_number = n;
  C_number = rw C_0 (zero_is_number m R);
  E_number = rw E_0 (zero_is_number m R);
  es = 0;
  error = rw no_error (omega arith);
  corrected = rw (no_error, C_0) (nothing (m.U - 2 * r) (2 * r) q);
  natural = rw E_0;
  sizes = nothing' (m.U ^ (3 * r)) _;
  young = λ k. (C_0, E_0, refl);
}
  where
    no_error : err m s q c ≡ pos 0
    no_error = rw e (same (c.S *ℤ pos q))
      where
        same : (z : ℤ) → z -ℤ z ≡ pos 0
        same z = omega (arith, ints)

    nothing : (a b q : ℕ) → a * nat_abs (pos 0 *ℤ pos q -ℤ pos 0) ≤ b * 0
    nothing a b q = rw k (omega arith)
      where
        k : nat_abs (pos 0 *ℤ pos q -ℤ pos 0) ≡ 0
        k = omega (arith, ints)

    nothing' : (a b : ℕ) → a * 0 ≤ b
    nothing' a b = omega arith

no_rest : (q : ℕ) (x β : ℤ) → 0 < q → pos q *ℤ (x +ℤ β) ≡ x *ℤ pos q → β ≡ pos 0
no_rest q x β h e = zero_size β (nat_abs β) (omega arith) (omega (arith, mul-le-mul_right (nat_abs β) h, none))
  where
    same : (z : ℤ) → z -ℤ z ≡ pos 0
    same z = omega (arith, ints)

    k : pos q *ℤ β ≡ pos 0
    k = ring (num q ⊗ at β) (num q ⊗ (at x ⊕ at β) ⊕ (⊖ (at x ⊗ num q))) (omega arith) ∙ rw e (same (x *ℤ pos q))

    none : q * nat_abs β ≡ 0
    none = sym (abs_mul (pos q) β) ∙ ap nat_abs k

-- the first zero
module _ (m : Meaning) (R : Rules m) (x : ℤ) (x_number : Number m x) (c' : Cell) (d : Did m x no_cell (one_cell m) c') where
  first_p : d.p ≡ x
  first_p = product_one m R x d.p x_number d.p_is

  first_S : c'.S ≡ x
  first_S = sum_zero_left m R d.p c'.S (rw first_p x_number) d.S_is ∙ first_p

  first_β : d.β ≡ pos 0
  first_β = no_rest m.Q x d.β R.some_scale (rw first_p at made)
    where
      made : pos m.Q *ℤ (d.p +ℤ d.β) ≡ x *ℤ pos m.Q
      made = rw d.β_is (R.product_error_is_exact x (pos m.Q) d.p x_number R.one_is_number d.p_is)

  first_σ : d.σ ≡ pos 0
  first_σ = d.σ_is ∙ rw (first_p, first_S) (gone x)
    where
      gone : (z : ℤ) → (pos 0 +ℤ z) -ℤ z ≡ pos 0
      gone z = omega (arith, ints)

  first_w : d.w ≡ pos 0
  first_w = sum_zero_left m R (pos 0) d.w (zero_is_number m R) (rw (first_β, first_σ) at d.w_is)

  first_C : c'.C ≡ pos 0
  first_C = sum_zero_left m R (pos 0) c'.C (zero_is_number m R) (rw (first_g, first_h) at d.C_is)
    where
      first_g : d.g ≡ pos 0
      first_g = sum_zero_left m R (pos 0) d.g (zero_is_number m R) (rw first_w at d.g_is)

      first_h : d.h ≡ pos 0
      first_h = product_zero m R x d.h d.h_is

  first_E : c'.E ≡ pos 0
  first_E = sum_zero_left m R (pos 0) c'.E (zero_is_number m R) (rw (first_f, first_t) at d.E_is)
    where
      first_f : d.f ≡ pos 0
      first_f = sum_zero_left m R (pos 0) d.f (zero_is_number m R) (rw first_w at d.f_is)

      first_t : d.t ≡ pos 0
      first_t = product_zero m R (size x) d.t d.t_is

  pub first : (r q : ℕ) → q ≡ m.Q → Holds m r x q c'
  first r q e = exact_cell m R r x q c' (rw first_S x_number) first_C first_E (rw (first_S, e))
