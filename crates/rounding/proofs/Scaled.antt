-- TwoProduct in the units of a format. The product of two whole numbers of units is v · 2^k of them, and v is what is
-- rounded. In units finer by p digits every number but 0 has all its p digits, so Split and TwoProduct apply there as they
-- stand; that a nearest number stays nearest in finer units brings their steps over, and the factor cancels in the end.
-- Where the product is large enough, the partial products are whole numbers of units too.
use Rattle.std.proofs.Common.{◌≡◌, ℕ, suc, ◌+◌, ◌*◌, ◌^◌, ◌<◌, ◌≤◌, ◌⊎◌, ℤ, pos, ◌+ℤ◌, ◌-ℤ◌, ◌*ℤ◌, sym, ap, ◌∙◌, subst, inl, inr, add-zero, mul-le-mul_right, mul_comm, le_of_mul-le-mul_right, arith, pow_pos, pow-add}
use native.Mathlib.Nat.{eq_of_mul-eq-mul_right}
use Rattle.integers.proofs.Naturals.{pow_le_back}
use borrow.Author.Differences.{up, down, same_in, same_out, sum_is_lem, product_is}
use Rattle.rounding.proofs.BinaryNearest.{Under, Within, Over, Div, Rep, Nearest, times, times_is, div_down, rep_times, nearest_times}
use Rattle.rounding.proofs.TwoSum.{Sum, sub_is, one_side, size_over, Normal, normal}
use Rattle.rounding.proofs.Split.{Parts, Factor, split, pow_le}
use Rattle.rounding.proofs.TwoProduct.{Sized, Places, under_within, two_product, div_pow, within_pow, over_pow, size_le}

-- ---- laws of `times`
pub times_sum : (m : ℕ) (a b s : ℤ) → Sum a b s → Sum (times m a) (times m b) (times m s)
times_sum m a b s e =
    let x : (up s + down a + down b) * m ≡ (down s + up a + up b) * m = ap (λ (t : ℕ). t * m) e in
    omega (arith, times_is m a, times_is m b, times_is m s)

pub times_sub : (m : ℕ) (a b : ℤ) → times m (a -ℤ b) ≡ times m a -ℤ times m b
times_sub m a b = same_in (times m (a -ℤ b)) (times m a -ℤ times m b)
    (same_rest (times m b) (times m (a -ℤ b)) (times m a -ℤ times m b) (times m a) (times_sum m b (a -ℤ b) a (sub_is a b)) (sub_is (times m a) (times m b)))
  where
    same_rest : (a x y s : ℤ) → Sum a x s → Sum a y s → up x + down y ≡ up y + down x
    same_rest a x y s e f = omega arith

pub times_back : (m : ℕ) (x y : ℤ) → 0 < m → times m x ≡ times m y → x ≡ y
times_back m x y M e =
    let o = same_out (times m x) (times m y) e in
    let f : (up x + down y) * m ≡ (up y + down x) * m = omega (arith, times_is m x, times_is m y) in
    same_in x y (eq_of_mul-eq-mul_right m M (up x + down y) (up y + down x) f)

pub times_mul : (m n : ℕ) (x y : ℤ) → times m x *ℤ times n y ≡ times (m * n) (x *ℤ y)
times_mul m n x y =
    let a = times_is m x in
    let b = times_is n y in
    let c = times_is (m * n) (x *ℤ y) in
    let d = product_is x y in
    let e = product_is (times m x) (times n y) in
    let g = λ (p q r s : ℕ) (i : p ≡ q) (j : r ≡ s). ap (λ (z : ℕ). z * r) i ∙ ap (λ (z : ℕ). q * z) j in
    let k1 : up (times m x) * up (times n y) ≡ up x * m * (up y * n) = g (up (times m x)) (up x * m) (up (times n y)) (up y * n) a.0 b.0 in
    let k2 : down (times m x) * down (times n y) ≡ down x * m * (down y * n) = g (down (times m x)) (down x * m) (down (times n y)) (down y * n) a.1 b.1 in
    let k3 : up (times m x) * down (times n y) ≡ up x * m * (down y * n) = g (up (times m x)) (up x * m) (down (times n y)) (down y * n) a.0 b.1 in
    let k4 : down (times m x) * up (times n y) ≡ down x * m * (up y * n) = g (down (times m x)) (down x * m) (up (times n y)) (up y * n) a.1 b.0 in
    let l1 : up (x *ℤ y) * (m * n) ≡ (up x * up y + down x * down y) * (m * n) = ap (λ (z : ℕ). z * (m * n)) d.0 in
    let l2 : down (x *ℤ y) * (m * n) ≡ (up x * down y + down x * up y) * (m * n) = ap (λ (z : ℕ). z * (m * n)) d.1 in
    same_in (times m x *ℤ times n y) (times (m * n) (x *ℤ y)) (omega (arith, e, c))

pub times_again : (m n : ℕ) (x : ℤ) → times n (times m x) ≡ times (m * n) x
times_again m n x = same_in (times n (times m x)) (times (m * n) x)
    (omega (arith, times_is n (times m x), times_is (m * n) x, ap (λ (z : ℕ). z * n) (times_is m x).0, ap (λ (z : ℕ). z * n) (times_is m x).1))

-- a multiple of m * k, and so of m with k taken off
pub div_cancel : (m k : ℕ) (x : ℤ) → 0 < k → Div (m * k) (times k x) → Div m x
div_cancel m k x K a =
    let f : (up x + a.d * m) * k ≡ (down x + a.u * m) * k = omega (arith, times_is k x, a.is) in
    record { u = a.u; d = a.d; is = eq_of_mul-eq-mul_right k K (up x + a.d * m) (down x + a.u * m) f }

pub quotient : (m : ℕ) (x : ℤ) → Div m x → (v : ℤ) × (x ≡ times m v)
quotient m x a =
    let v = pos a.u -ℤ pos a.d in
    (v, same_in x (times m v) (omega (arith, a.is, times_is m v, ap (λ (z : ℕ). z * m) (sub_is (pos a.u) (pos a.d)))))

-- ---- every number but 0 has all its digits once the units are fine enough
not_zero_times : (m : ℕ) (x : ℤ) → 0 < up x + down x → m ≤ up (times m x) + down (times m x)
not_zero_times m x h = let l : 1 * m ≤ (up x + down x) * m = mul-le-mul_right m h in omega (arith, times_is m x)

pub sized : (q : ℕ) (x : ℤ) → Rep (suc q) x → 0 < up x + down x → (i : ℕ) × Sized q i (times (2 ^ suc q) x)
sized q x f h = go n.at n.div n.lt n.least
  where
    y : ℤ
    y = times (2 ^ suc q) x

    n : Normal q (times (2 ^ suc q) x)
    n = normal q (times (2 ^ suc q) x) (rep_times (suc q) (suc q) x f)

    go : (i : ℕ) → Div (2 ^ i) (times (2 ^ suc q) x) → Under (2 ^ (suc q + i)) (times (2 ^ suc q) x) → (i ≡ 0) ⊎ Over (2 ^ (q + i)) (times (2 ^ suc q) x) → (i : ℕ) × Sized q i (times (2 ^ suc q) x)
    go i d u (inr o) = (i, record { div = d; lt = u; ge = o })
    go i d u (inl e) = absurd (small (times (2 ^ suc q) x) (2 ^ (suc q + i)) (2 ^ suc q) u (ap (λ (z : ℕ). 2 ^ (suc q + z)) e ∙ ap (λ (z : ℕ). 2 ^ z) (add-zero (suc q))) (not_zero_times (2 ^ suc q) x h))
      where
        small : (y : ℤ) (c d : ℕ) → Under c y → c ≡ d → d ≤ up y + down y → ⊥
        small y c d u e h = elim (one_side y) [ inl z ↦ omega arith | inr z ↦ omega arith ]

-- ---- the split, in fine units
pub parts : (q r t i : ℕ) (a c g d δ e a1 f a2 : ℤ) → suc r ≤ q → Sized q i (times (2 ^ t) a)
    → Factor r a c → Nearest (suc q) c g → Sum g d a → Nearest (suc q) d δ → Sum g δ e → Nearest (suc q) e a1 → Sum a1 f a → Nearest (suc q) f a2
    → Parts q r i (times (2 ^ t) a) (times (2 ^ t) a1) (times (2 ^ t) a2)
parts q r t i a c g d δ e a1 f a2 S z fc ng sd nδ se n1 sf n2 =
    let T = 2 ^ t in
    let p = suc q in
    let h = times (2 ^ suc r) a in
    let swap : times T h ≡ times (2 ^ suc r) (times T a) = times_again (2 ^ suc r) T a ∙ ap (λ (m : ℕ). times m a) (mul_comm (2 ^ suc r) T) ∙ sym (times_again T (2 ^ suc r) a) in
    let fc1 : Sum (times T a) (times (2 ^ suc r) (times T a)) (times T c) = subst (λ (w : ℤ). Sum (times T a) w (times T c)) swap (times_sum T a h c fc) in
    split q r i (times T a) (times T c) (times T g) (times T d) (times T δ) (times T e) (times T a1) (times T f) (times T a2) S z.div z.lt z.ge
    fc1 (nearest_times p t c g ng) (times_sum T g d a sd) (nearest_times p t d δ nδ) (times_sum T g δ e se) (nearest_times p t e a1 n1) (times_sum T a1 f a sf) (nearest_times p t f a2 n2)

-- ---- the product, in fine units
fine_product : (p : ℕ) (a b : ℤ) → times (2 ^ p) a *ℤ times (2 ^ p) b ≡ times (2 ^ (p + p)) (a *ℤ b)
fine_product p a b = times_mul (2 ^ p) (2 ^ p) a b ∙ ap (λ (m : ℕ). times m (a *ℤ b)) (sym (pow-add 2 p p))

pub size_times : (m : ℕ) (x : ℤ) → up (times m x) + down (times m x) ≡ (up x + down x) * m
size_times m x = omega (arith, times_is m x)

-- the exponents of the factors, from the size of the product
pub exponents_low : (q i j e : ℕ) (a b : ℤ) → Sized q i (times (2 ^ suc q) a) → Sized q j (times (2 ^ suc q) b) → Over (2 ^ e) (a *ℤ b) → e ≤ i + j
exponents_low q i j e a b A B o =
    let p = suc q in
    let W = within_pow (p + i) (p + j) (p + p + (i + j)) (times (2 ^ p) a) (times (2 ^ p) b) (omega arith) (under_within (2 ^ (p + i)) (times (2 ^ p) a) A.lt) (under_within (2 ^ (p + j)) (times (2 ^ p) b) B.lt) in
    let s1 = size_le (2 ^ (p + p + (i + j))) (times (2 ^ (p + p)) (a *ℤ b)) (subst (Within (2 ^ (p + p + (i + j)))) (fine_product p a b) W) in
    let l : 2 ^ e * 2 ^ (p + p) ≤ (up (a *ℤ b) + down (a *ℤ b)) * 2 ^ (p + p) = mul-le-mul_right (2 ^ (p + p)) (size_over (2 ^ e) (a *ℤ b) o) in
    let k : 2 ^ (e + (p + p)) ≤ 2 ^ (p + p + (i + j)) = omega (arith, pow-add 2 e (p + p), size_times (2 ^ (p + p)) (a *ℤ b)) in
    let m = pow_le_back (e + (p + p)) (p + p + (i + j)) k in
    omega arith

pub exponents_high : (q i j e : ℕ) (a b : ℤ) → Sized q i (times (2 ^ suc q) a) → Sized q j (times (2 ^ suc q) b) → Within (2 ^ e) (a *ℤ b) → i + j ≤ 2 + e
exponents_high q i j e a b A B w =
    let p = suc q in
    let O = over_pow (q + i) (q + j) (q + q + (i + j)) (times (2 ^ p) a) (times (2 ^ p) b) (omega arith) A.ge B.ge in
    let s1 = size_over (2 ^ (q + q + (i + j))) (times (2 ^ (p + p)) (a *ℤ b)) (subst (Over (2 ^ (q + q + (i + j)))) (fine_product p a b) O) in
    let l : (up (a *ℤ b) + down (a *ℤ b)) * 2 ^ (p + p) ≤ 2 ^ e * 2 ^ (p + p) = mul-le-mul_right (2 ^ (p + p)) (size_le (2 ^ e) (a *ℤ b) w) in
    let k : 2 ^ (q + q + (i + j)) ≤ 2 ^ (e + (p + p)) = omega (arith, pow-add 2 e (p + p), size_times (2 ^ (p + p)) (a *ℤ b)) in
    let m = pow_le_back (q + q + (i + j)) (e + (p + p)) k in
    omega arith

-- a product of parts: v * 2 ^ λ, with v at most 2 ^ n
pub record Whole (λ' n : ℕ) (x : ℤ) : Type 0 where
  pub v : ℤ
  pub is : x ≡ times (2 ^ λ') v
  pub le : Within (2 ^ n) v

within_cancel : (m n : ℕ) (v : ℤ) → Within (2 ^ (m + n)) (times (2 ^ m) v) → Within (2 ^ n) v
within_cancel m n v w =
    let s = size_le (2 ^ (m + n)) (times (2 ^ m) v) w in
    let l : (up v + down v) * 2 ^ m ≤ 2 ^ n * 2 ^ m = omega (arith, pow-add 2 m n, size_times (2 ^ m) v) in
    let k : up v + down v ≤ 2 ^ n = le_of_mul-le-mul_right l (pow_pos m) in
    omega arith

pub whole_div : (p i j k : ℕ) (x y : ℤ) → k + (p + p) ≤ i + j → Div (2 ^ i) (times (2 ^ p) x) → Div (2 ^ j) (times (2 ^ p) y) → Div (2 ^ k) (x *ℤ y)
whole_div p i j k x y h dx dy =
    let P = 2 ^ (p + p) in
    let d0 = div_pow i j (k + (p + p)) (times (2 ^ p) x) (times (2 ^ p) y) h dx dy in
    let d1 : Div (2 ^ k * P) (times P (x *ℤ y)) = subst (λ (m : ℕ). Div m (times P (x *ℤ y))) (pow-add 2 k (p + p)) (subst (Div (2 ^ (k + (p + p)))) (fine_product p x y) d0) in
    div_cancel (2 ^ k) P (x *ℤ y) (pow_pos (p + p)) d1

whole_at : (p i j k n : ℕ) (x y : ℤ) → k + (p + p) ≤ i + j → i + j ≤ k + n → Div (2 ^ i) (times (2 ^ p) x) → Div (2 ^ j) (times (2 ^ p) y)
    → Within (2 ^ (p + i)) (times (2 ^ p) x) → Within (2 ^ (p + j)) (times (2 ^ p) y) → Whole k n (x *ℤ y)
whole_at p i j k n x y h g dx dy wx wy =
    let z = quotient (2 ^ k) (x *ℤ y) (whole_div p i j k x y h dx dy) in
    let w0 = within_pow (p + i) (p + j) (p + p + (k + n)) (times (2 ^ p) x) (times (2 ^ p) y) (omega arith) wx wy in
    let w1 = within_cancel (p + p) (k + n) (x *ℤ y) (subst (Within (2 ^ (p + p + (k + n)))) (fine_product p x y) w0) in
    record { v = z.0; is = z.1; le = within_cancel k n z.0 (subst (Within (2 ^ (k + n))) z.1 w1) }

-- a and b in parts, with the exponents that they have in units finer by p digits. Their product is v * 2 ^ k with a v at most 2 ^ n.
pub record Ready (q r k n : ℕ) (a a1 a2 b b1 b2 : ℤ) : Type 0 where
  pub i : ℕ
  pub j : ℕ
  pub sa : Sized q i (times (2 ^ suc q) a)
  pub sb : Sized q j (times (2 ^ suc q) b)
  pub pa : Parts q r i (times (2 ^ suc q) a) (times (2 ^ suc q) a1) (times (2 ^ suc q) a2)
  pub pb : Parts q r j (times (2 ^ suc q) b) (times (2 ^ suc q) b1) (times (2 ^ suc q) b2)
  pub low : k + (suc q + suc q) ≤ i + j
  pub high : i + j ≤ k + n

first_div : (q r i : ℕ) (a a1 a2 : ℤ) → Parts q r i a a1 a2 → Div (2 ^ i) a1
first_div q r i a a1 a2 P = div_down i (suc r + i) a1 (omega arith) P.div1

second_le : (q r i : ℕ) (a a1 a2 : ℤ) → suc r < q → Parts q r i a a1 a2 → Within (2 ^ (suc q + i)) a2
second_le q r i a a1 a2 S P = omega (arith, P.le2, pow_le (r + i) (suc q + i) (omega arith))

pub wholes : (q r k n : ℕ) (a a1 a2 b b1 b2 : ℤ) → suc r < q → Ready q r k n a a1 a2 b b1 b2
    → Whole k n (a1 *ℤ b1) × Whole k n (a2 *ℤ b1) × Whole k n (a1 *ℤ b2) × Whole k n (a2 *ℤ b2)
wholes q r k n a a1 a2 b b1 b2 S R =
    let p = suc q in
    let i = R.i in
    let j = R.j in
    let T = 2 ^ p in
    let da1 = first_div q r i (times T a) (times T a1) (times T a2) R.pa in
    let db1 = first_div q r j (times T b) (times T b1) (times T b2) R.pb in
    let la2 = second_le q r i (times T a) (times T a1) (times T a2) S R.pa in
    let lb2 = second_le q r j (times T b) (times T b1) (times T b2) S R.pb in (
      whole_at p i j k n a1 b1 R.low R.high da1 db1 R.pa.le1 R.pb.le1,
      whole_at p i j k n a2 b1 R.low R.high R.pa.div2 db1 la2 R.pb.le1,
      whole_at p i j k n a1 b2 R.low R.high da1 R.pb.div2 R.pa.le1 lb2,
      whole_at p i j k n a2 b2 R.low R.high R.pa.div2 R.pb.div2 la2 lb2,
    )

-- ---- TwoProduct
module _ (q r k n : ℕ) where
  abbrev wide : ℤ → ℤ
  wide x = times (2 ^ (k + (suc q + suc q))) x

  wide_is : (x : ℤ) → wide x ≡ times (2 ^ (suc q + suc q)) (times (2 ^ k) x)
  wide_is x = ap (λ (m : ℕ). times m x) (pow-add 2 k (suc q + suc q)) ∙ sym (times_again (2 ^ k) (2 ^ (suc q + suc q)) x)

  -- a product of two numbers of units, in the finest units
  lifted : (x y v m : ℤ) → x *ℤ y ≡ times (2 ^ k) v → Nearest (suc q) v m → Nearest (suc q) (times (2 ^ suc q) x *ℤ times (2 ^ suc q) y) (wide m)
  lifted x y v m e h =
      subst (λ (z : ℤ). Nearest (suc q) z (wide m)) (wide_is v ∙ ap (times (2 ^ (suc q + suc q))) (sym e) ∙ sym (fine_product (suc q) x y)) (nearest_times (suc q) (k + (suc q + suc q)) v m h)

  less : (x y t : ℤ) → Nearest (suc q) (x -ℤ y) t → Nearest (suc q) (wide x -ℤ wide y) (wide t)
  less x y t h =
      subst (λ (z : ℤ). Nearest (suc q) z (wide t)) (times_sub (2 ^ (k + (suc q + suc q))) x y) (nearest_times (suc q) (k + (suc q + suc q)) (x -ℤ y) t h)

  pub two_product_units : (a a1 a2 b b1 b2 v x v11 m11 v21 m21 v12 m12 v22 m22 t1 t2 t3 y : ℤ) → Places q r → Ready q r k n a a1 a2 b b1 b2
      → a *ℤ b ≡ times (2 ^ k) v → Nearest (suc q) v x
      → a1 *ℤ b1 ≡ times (2 ^ k) v11 → Nearest (suc q) v11 m11 → a2 *ℤ b1 ≡ times (2 ^ k) v21 → Nearest (suc q) v21 m21
      → a1 *ℤ b2 ≡ times (2 ^ k) v12 → Nearest (suc q) v12 m12 → a2 *ℤ b2 ≡ times (2 ^ k) v22 → Nearest (suc q) v22 m22
      → Nearest (suc q) (x -ℤ m11) t1 → Nearest (suc q) (t1 -ℤ m21) t2 → Nearest (suc q) (t2 -ℤ m12) t3 → Nearest (suc q) (m22 -ℤ t3) y
      → times (2 ^ k) (x +ℤ y) ≡ a *ℤ b
  two_product_units a a1 a2 b b1 b2 v x v11 m11 v21 m21 v12 m12 v22 m22 t1 t2 t3 y P R e n0 e11 n11 e21 n21 e12 n12 e22 n22 nt1 nt2 nt3 ny =
      let T = 2 ^ suc q in
      let P2 = 2 ^ (suc q + suc q) in
      let s : wide x +ℤ wide y ≡ times T a *ℤ times T b = two_product q r R.i R.j (times T a) (times T a1) (times T a2) (times T b) (times T b1) (times T b2)
      (wide x) (wide m11) (wide m21) (wide m12) (wide m22) (wide t1) (wide t2) (wide t3) (wide y) P R.sa R.sb R.pa R.pb
      (lifted a b v x e n0) (lifted a1 b1 v11 m11 e11 n11) (lifted a2 b1 v21 m21 e21 n21) (lifted a1 b2 v12 m12 e12 n12) (lifted a2 b2 v22 m22 e22 n22)
      (less x m11 t1 nt1) (less t1 m21 t2 nt2) (less t2 m12 t3 nt3) (less m22 t3 y ny) in
      let u : wide (x +ℤ y) ≡ wide x +ℤ wide y = same_sum (wide x) (wide y) (wide (x +ℤ y)) (times_sum (2 ^ (k + (suc q + suc q))) x y (x +ℤ y) (sum_is_lem x y)) in
      times_back P2 (times (2 ^ k) (x +ℤ y)) (a *ℤ b) (pow_pos (suc q + suc q)) (sym (wide_is (x +ℤ y)) ∙ u ∙ s ∙ fine_product (suc q) a b)
    where
      same_sum : (x y s : ℤ) → Sum x y s → s ≡ x +ℤ y
      same_sum x y s h = same_in s (x +ℤ y) (omega (arith, sum_is_lem x y))
