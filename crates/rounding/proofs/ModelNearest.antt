-- What the library's model of floats keeps of a whole number is nearest to it. With k digits dropped, N = w · 2^k + e, and w
-- or w + 1 is kept as e is below or above half of 2^k. No number of p digits lies between w · 2^k and (w + 1) · 2^k, since w
-- has p digits already; so none is nearer than the nearer of the two, in finer units either.
use Rattle.std.proofs.Common.{◌≡◌, ℕ, zero, suc, ◌+◌, ◌-◌, ◌*◌, ◌/◌, ◌%◌, ◌^◌, ◌<◌, ◌≤◌, not, T, ◌⊎◌, ℤ, pos, neg_ℤ, sym, refl, ap, ◌∙◌, subst, inl, inr, lt_of_lt_of_le, add-zero, mul-le-mul_right, mod-lt, div-add-mod', le-div_iff_mul-le, arith, eqb→eq, leb→le, pow_pos, pow_mono, pow-add}
use Prim.Native.Nat.{compare, Ordering}
use native.Mathlib.Nat.{zero-div, zero-mod}
use Rattle.std.proofs.lemmas.Bool.{cases_eq, cases_lt}
use lib.Dec.{is_le, compare_is_eq, nleb→lt}
use borrow.Author.Differences.{up, down, neg_is}
use lib.Ieee.{nearest, size}
use lib.Ieee.Digits.{size-lt, size_reaches}
use lib.Ieee.Fits.{kept-lt}
use lib.Ieee.Nearest.{closest}
use Rattle.rounding.proofs.BinaryNearest.{Near, Rep, Nearest, times_is, rep_in, rep_coarse}
use Rattle.rounding.proofs.TwoSum.{rep_neg}
use Rattle.rounding.proofs.Split.{step}

-- ---- the nearest multiple
abbrev pub Chosen : ℕ → ℕ → ℕ → ℕ → Type 0
Chosen w r b m = ((m ≡ w) × (r * 2 ≤ b)) ⊎ ((m ≡ suc w) × (b ≤ r * 2))

parity : (w : ℕ) → (w + w % 2 ≡ w) ⊎ (w + w % 2 ≡ suc w)
parity w = elim (cases_eq (w % 2) 0) [ inl e ↦ inl (omega arith) | inr n ↦ inr (omega arith) ]

pub chosen : (w r b : ℕ) → Chosen w r b (nearest w (compare (r * 2) b))
chosen w r b = go (compare (r * 2) b) (leb→le (r * 2) b) (nleb→lt (r * 2) b) (eqb→eq (r * 2) b)
  where
    go : (o : Ordering) → (T (is_le o) → r * 2 ≤ b) → (T (not (is_le o)) → b < r * 2) → (T (compare_is_eq o) → r * 2 ≡ b) → Chosen w r b (nearest w o)
    go Ordering.lt h k e = inl (refl, h tt)
    go Ordering.eq h k e = elim (parity w) [ inl z ↦ inl (z, h tt) | inr z ↦ inr (z, omega (arith, e tt)) ]
    go Ordering.gt h k e = inr (refl, omega (arith, k tt))

pub nearest_neg : (p : ℕ) (x r : ℤ) → Nearest p x r → Nearest p (neg_ℤ x) (neg_ℤ r)
nearest_neg p x r n = record {
  rep = rep_neg p r n.rep;
  best = λ y c f h. let g = n.best (neg_ℤ y) c (rep_neg p y f) (omega (arith, neg_is y, neg_is x)) in omega (arith, neg_is x, neg_is r);
  fine = λ t y c f h.
      let T2 = 2 ^ t in
      let a = times_is T2 (neg_ℤ x) in
      let b = times_is T2 x in
      let d = times_is T2 (neg_ℤ r) in
      let e = times_is T2 r in
      let nx = neg_is x in
      let nr = neg_is r in
      let x1 = ap (λ (z : ℕ). z * T2) nx.0 in
      let x2 = ap (λ (z : ℕ). z * T2) nx.1 in
      let r1 = ap (λ (z : ℕ). z * T2) nr.0 in
      let r2 = ap (λ (z : ℕ). z * T2) nr.1 in
      let g = n.fine t (neg_ℤ y) c (rep_neg p y f) (omega (arith, neg_is y)) in
      omega arith;
}

-- a number of p digits is not between w * M and (w + 1) * M, where w has p digits
no_between : (q k w : ℕ) (y : ℤ) → 2 ^ q ≤ w → Rep (suc q) y → (up y ≤ down y + w * 2 ^ k) ⊎ (down y + suc w * 2 ^ k ≤ up y)
no_between q k w y h f =
    elim (cases_lt (down y + w * 2 ^ k) (up y)) [
      | inr l ↦ inl l
      | inl l ↦
          let M = 2 ^ k in
          let b : 2 ^ q * M ≤ w * M = mul-le-mul_right M h in
          let d = rep_coarse q k y f (inl (omega (arith, pow-add 2 q k))) in
          let g = step d.u d.d w M (omega (arith, d.is)) in
          inr (omega (arith, d.is))
    ]

-- X = w * M + e, and the nearer of w * M and (w + 1) * M
nearer : (X w e M c m : ℕ) (y : ℤ) → X ≡ w * M + e → e ≤ M → ((m ≡ w) × (e * 2 ≤ M)) ⊎ ((m ≡ suc w) × (M ≤ e * 2))
    → (up y ≤ down y + w * M) ⊎ (down y + suc w * M ≤ up y) → Near c (pos X) y → Near c (pos X) (pos (m * M))
nearer X w e M c m y E L (inl (z, h)) (inl o) n = let a = ap (λ (t : ℕ). t * M) z in omega arith
nearer X w e M c m y E L (inl (z, h)) (inr o) n = let a = ap (λ (t : ℕ). t * M) z in omega arith
nearer X w e M c m y E L (inr (z, h)) (inl o) n = let a = ap (λ (t : ℕ). t * M) z in omega arith
nearer X w e M c m y E L (inr (z, h)) (inr o) n = let a = ap (λ (t : ℕ). t * M) z in omega arith

-- the choice in finer units
chosen_times : (w e K m T : ℕ) → Chosen w e K m → ((m ≡ w) × (e * T * 2 ≤ K * T)) ⊎ ((m ≡ suc w) × (K * T ≤ e * T * 2))
chosen_times w e K m T (inl (z, h)) = let a : e * 2 * T ≤ K * T = mul-le-mul_right T h in inl (z, omega arith)
chosen_times w e K m T (inr (z, h)) = let a : K * T ≤ e * 2 * T = mul-le-mul_right T h in inr (z, omega arith)

chosen_le : (w e K m c : ℕ) → Chosen w e K m → w < c → m ≤ c
chosen_le w e K m c (inl (z, h)) l = omega arith
chosen_le w e K m c (inr (z, h)) l = omega arith

-- where k digits are dropped
rounded : (q k N w e m : ℕ) → N ≡ w * 2 ^ k + e → e < 2 ^ k → 2 ^ q ≤ w → w < 2 ^ suc q → Chosen w e (2 ^ k) m → Nearest (suc q) (pos N) (pos (m * 2 ^ k))
rounded q k N w e m E L G H C = record {
  rep = rep_in (suc q) k (pos (m * 2 ^ k)) (omega arith) (record { u = m; d = 0; is = omega arith })
      (let l : m * 2 ^ k ≤ 2 ^ suc q * 2 ^ k = mul-le-mul_right (2 ^ k) (chosen_le w e (2 ^ k) m (2 ^ suc q) C H) in omega (arith, pow-add 2 (suc q) k));
  best = λ y c f h. nearer N w e (2 ^ k) c m y E (omega arith) C (no_between q k w y G f) h;
  fine = λ t y c f h.
      let M = 2 ^ (k + t) in
      let D : M ≡ 2 ^ k * 2 ^ t = pow-add 2 k t in
      let X : N * 2 ^ t ≡ w * M + e * 2 ^ t = omega (arith, ap (λ (z : ℕ). z * 2 ^ t) E, ap (λ (z : ℕ). w * z) D) in
      let A : e * 2 ^ t ≤ M = omega (arith, mul-le-mul_right {m = e} {n = 2 ^ k} (2 ^ t) (omega arith)) in
      let B = subst (λ (z : ℕ). ((m ≡ w) × (e * 2 ^ t * 2 ≤ z)) ⊎ ((m ≡ suc w) × (z ≤ e * 2 ^ t * 2))) (sym D) (chosen_times w e (2 ^ k) m (2 ^ t) C) in
      let R = nearer (N * 2 ^ t) w (e * 2 ^ t) M c m y X A B (no_between q (k + t) w y G f) h in
      let Z : m * M ≡ m * 2 ^ k * 2 ^ t = omega (arith, ap (λ (z : ℕ). m * z) D) in
      subst (λ (z : ℕ). Near c (pos (N * 2 ^ t)) (pos z)) Z R;
}

itself : (q N : ℕ) → N < 2 ^ suc q → Nearest (suc q) (pos N) (pos N)
itself q N h = record {
  rep = record { at = 0; div = record { u = N; d = 0; is = omega arith }; lt = omega (arith, ap (λ (z : ℕ). 2 ^ z) (add-zero (suc q))) };
  best = λ y c f h. omega arith;
  fine = λ t y c f h. omega arith;
}

pub round_nearest : (q N : ℕ) → Nearest (suc q) (pos N) (pos (closest N (2 ^ (size N - suc q)) * 2 ^ (size N - suc q)))
round_nearest q N = go (size N - suc q) refl
  where
    go : (k : ℕ) → size N - suc q ≡ k → Nearest (suc q) (pos N) (pos (closest N (2 ^ k) * 2 ^ k))
    go zero e =
        let l : N < 2 ^ suc q = lt_of_lt_of_le (size-lt N) (pow_mono (omega arith)) in
        let z : N ≡ closest N (2 ^ 0) * 2 ^ 0 = elim (chosen (N / 1) (N % 1) 1) [ inl a ↦ omega arith | inr a ↦ omega arith ] in
        subst (λ (m : ℕ). Nearest (suc q) (pos N) (pos m)) z (itself q N l)
    go (suc j) e =
        let k = suc j in
        rounded q k N (N / 2 ^ k) (N % 2 ^ k) (closest N (2 ^ k)) (sym (div-add-mod' N (2 ^ k))) (mod-lt N (pow_pos k))
        ((le-div_iff_mul-le (pow_pos k)).1 (subst (λ (z : ℕ). z ≤ N) (pow-add 2 q k) (size_reaches N (q + k) (omega arith))))
        (subst (λ (z : ℕ). N / 2 ^ z < 2 ^ suc q) e (kept-lt (suc q) N))
        (chosen (N / 2 ^ k) (N % 2 ^ k) (2 ^ k))

-- nothing is kept of nothing
pub chosen_zero : (u : ℕ) → 0 < u → closest 0 u ≡ 0
chosen_zero u h = elim (chosen (0 / u) (0 % u) u) [ inl a ↦ a.0 ∙ zero-div u | inr a ↦ absurd (clash u (0 % u) h (zero-mod u) a.1) ]
  where
    clash : (u r : ℕ) → 0 < u → r ≡ 0 → u ≤ r * 2 → ⊥
    clash u r h e l = omega arith
