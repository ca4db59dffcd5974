-- TwoProduct, after Dekker: with a and b split, x the rounded product and the four partial products exact, the error a · b −
-- x is a2 · b2 − (((x − a1 · b1) − a2 · b1) − a1 · b2), and each of these four subtractions is exact. Each gives a multiple
-- of the last digit of its operands, and each difference is small, for what is left is the error of x, half a unit of its
-- last digit, and the partial products yet to be subtracted.
use Rattle.std.proofs.Common.{◌≡◌, ℕ, suc, ◌+◌, ◌*◌, ◌^◌, ◌<◌, ◌≤◌, ℤ, ◌+ℤ◌, ◌-ℤ◌, ◌*ℤ◌, sym, refl, ap, ◌∙◌, subst, inl, inr, le_refl, mul-le-mul, arith, pow-add}
use native.Mathlib.Nat.{pow-succ'}
use borrow.Author.Differences.{up, down, same_in, sum_is_lem, product_is}
use Rattle.rounding.proofs.BinaryNearest.{Near, Under, Within, Over, Div, Rep, Nearest, div_down, rep_in, exact, coarse, half}
use Rattle.rounding.proofs.TwoSum.{Sum, sub_is, div_rest, one_side, over_size, size_over}
use Rattle.rounding.proofs.Split.{Parts, pow_le}

-- ---- products of integers
pub dist : (a1 a2 a c : ℤ) → Sum a1 a2 a → Sum (a1 *ℤ c) (a2 *ℤ c) (a *ℤ c)
dist a1 a2 a c e =
    let x : (up a + down a1 + down a2) * up c ≡ (down a + up a1 + up a2) * up c = ap (λ (t : ℕ). t * up c) e in
    let y : (up a + down a1 + down a2) * down c ≡ (down a + up a1 + up a2) * down c = ap (λ (t : ℕ). t * down c) e in
    omega (arith, product_is a c, product_is a1 c, product_is a2 c)

pub dist_r : (c a1 a2 a : ℤ) → Sum a1 a2 a → Sum (c *ℤ a1) (c *ℤ a2) (c *ℤ a)
dist_r c a1 a2 a e =
    let x : up c * (up a + down a1 + down a2) ≡ up c * (down a + up a1 + up a2) = ap (λ (t : ℕ). up c * t) e in
    let y : down c * (up a + down a1 + down a2) ≡ down c * (down a + up a1 + up a2) = ap (λ (t : ℕ). down c * t) e in
    omega (arith, product_is c a, product_is c a1, product_is c a2)

pub div_mul : (m n : ℕ) (x y : ℤ) → Div m x → Div n y → Div (m * n) (x *ℤ y)
div_mul m n x y a b =
    let E : up x + a.d * m ≡ down x + a.u * m = a.is in
    let F : up y + b.d * n ≡ down y + b.u * n = b.is in
    let e1 : (up x + a.d * m) * up y ≡ (down x + a.u * m) * up y = ap (λ (t : ℕ). t * up y) E in
    let e2 : (up x + a.d * m) * down y ≡ (down x + a.u * m) * down y = ap (λ (t : ℕ). t * down y) E in
    let e3 : (up y + b.d * n) * (a.u * m) ≡ (down y + b.u * n) * (a.u * m) = ap (λ (t : ℕ). t * (a.u * m)) F in
    let e4 : (up y + b.d * n) * (a.d * m) ≡ (down y + b.u * n) * (a.d * m) = ap (λ (t : ℕ). t * (a.d * m)) F in
    record { u = a.u * b.u + a.d * b.d; d = a.u * b.d + a.d * b.u; is = omega (arith, product_is x y) }

pub size_le : (c : ℕ) (x : ℤ) → Within c x → up x + down x ≤ c
size_le c x h = elim (one_side x) [ inl e ↦ omega arith | inr e ↦ omega arith ]

pub size_mul : (x y : ℤ) → up (x *ℤ y) + down (x *ℤ y) ≡ (up x + down x) * (up y + down y)
size_mul x y = omega (arith, product_is x y)

pub within_mul : (c d : ℕ) (x y : ℤ) → Within c x → Within d y → Within (c * d) (x *ℤ y)
within_mul c d x y h k = let l = mul-le-mul (size_le c x h) (size_le d y k) in omega (arith, size_mul x y)

pub over_mul : (c d : ℕ) (x y : ℤ) → Over c x → Over d y → Over (c * d) (x *ℤ y)
over_mul c d x y h k = let l = mul-le-mul (size_over c x h) (size_over d y k) in over_size (c * d) (x *ℤ y) (omega (arith, size_mul x y))

-- the same at powers of two
pub div_pow : (m n k : ℕ) (x y : ℤ) → k ≤ m + n → Div (2 ^ m) x → Div (2 ^ n) y → Div (2 ^ k) (x *ℤ y)
div_pow m n k x y h a b = div_down k (m + n) (x *ℤ y) h (subst (λ (t : ℕ). Div t (x *ℤ y)) (sym (pow-add 2 m n)) (div_mul (2 ^ m) (2 ^ n) x y a b))

pub within_pow : (m n k : ℕ) (x y : ℤ) → m + n ≤ k → Within (2 ^ m) x → Within (2 ^ n) y → Within (2 ^ k) (x *ℤ y)
within_pow m n k x y h a b = let l = within_mul (2 ^ m) (2 ^ n) x y a b in omega (arith, pow-add 2 m n, pow_le (m + n) k h)

pub over_pow : (m n k : ℕ) (x y : ℤ) → k ≤ m + n → Over (2 ^ m) x → Over (2 ^ n) y → Over (2 ^ k) (x *ℤ y)
over_pow m n k x y h a b = less (over_mul (2 ^ m) (2 ^ n) x y a b)
  where
    less : Over (2 ^ m * 2 ^ n) (x *ℤ y) → Over (2 ^ k) (x *ℤ y)
    less (inl l) = inl (omega (arith, pow-add 2 m n, pow_le k (m + n) h))
    less (inr l) = inr (omega (arith, pow-add 2 m n, pow_le k (m + n) h))

-- ---- the last line
-- what is known of x, of the four products and of the exact product m, in units of 2 ^ n
pub record Chain (q r n : ℕ) (m x m11 m21 m12 m22 : ℤ) : Type 0 where
  pub near : Near (2 ^ (q + n)) m x
  pub divx : Div (2 ^ (q + n)) x
  pub div11 : Div (2 ^ (q + n)) m11
  pub div21 : Div (2 ^ (suc r + n)) m21
  pub div12 : Div (2 ^ (suc r + n)) m12
  pub div22 : Div (2 ^ n) m22
  pub le21 : Within (2 ^ (suc q + (r + n))) m21
  pub le12 : Within (2 ^ (suc q + (r + n))) m12
  pub le22 : Within (2 ^ (q + n)) m22
  pub all : up m + (down m11 + down m21 + down m12 + down m22) ≡ down m + (up m11 + up m21 + up m12 + up m22)

abbrev All : ℤ → ℤ → ℤ → ℤ → ℤ → Type 0
All m m11 m21 m12 m22 = up m + (down m11 + down m21 + down m12 + down m22) ≡ down m + (up m11 + up m21 + up m12 + up m22)

exact_step : (q k : ℕ) (m d t r : ℤ) → Sum m d t → Div (2 ^ k) m → Div (2 ^ k) t → Within (2 ^ (suc q + k)) d → Nearest (suc q) d r → Div (2 ^ k) r × Sum m r t
exact_step q k m d t r s a b w n =
    let v = div_rest (2 ^ k) m d t s a b in
    let e : r ≡ d = exact (suc q) d r (rep_in (suc q) k d (omega arith) v w) n in
    (subst (Div (2 ^ k)) (sym e) v, subst (λ (z : ℤ). Sum m z t) (sym e) s)

bound1 : (A B C : ℕ) (m x m11 m21 m12 m22 d : ℤ) → Near A m x → Within B m21 → Within B m12 → Within A m22 → All m m11 m21 m12 m22
    → Sum m11 d x → 2 * A + 2 * B ≤ C → Within C d
bound1 A B C m x m11 m21 m12 m22 d a b c e f g h = omega arith

bound2 : (A B C : ℕ) (m x m11 m21 m12 m22 t1 d : ℤ) → Near A m x → Within B m12 → Within A m22 → All m m11 m21 m12 m22
    → Sum m11 t1 x → Sum m21 d t1 → 2 * A + B ≤ C → Within C d
bound2 A B C m x m11 m21 m12 m22 t1 d a c e f g g2 h = omega arith

bound3 : (A C : ℕ) (m x m11 m21 m12 m22 t1 t2 d : ℤ) → Near A m x → Within A m22 → All m m11 m21 m12 m22
    → Sum m11 t1 x → Sum m21 t2 t1 → Sum m12 d t2 → 2 * A ≤ C → Within C d
bound3 A C m x m11 m21 m12 m22 t1 t2 d a e f g g2 g3 h = omega arith

whole : (m x m11 m21 m12 m22 t1 t2 t3 d : ℤ) → All m m11 m21 m12 m22 → Sum m11 t1 x → Sum m21 t2 t1 → Sum m12 t3 t2 → Sum t3 d m22 → Sum x d m
whole m x m11 m21 m12 m22 t1 t2 t3 d f g g2 g3 g4 = omega arith

bound4 : (A C : ℕ) (m x d : ℤ) → Near A m x → Sum x d m → A ≤ C → Within C d
bound4 A C m x d a s h = omega arith

pub chain : (q r n : ℕ) (m x m11 m21 m12 m22 d1 t1 d2 t2 d3 t3 d4 y : ℤ) → suc r < q → Chain q r n m x m11 m21 m12 m22
    → Sum m11 d1 x → Nearest (suc q) d1 t1 → Sum m21 d2 t1 → Nearest (suc q) d2 t2 → Sum m12 d3 t2 → Nearest (suc q) d3 t3 → Sum t3 d4 m22 → Nearest (suc q) d4 y
    → Sum x y m
chain q r n m x m11 m21 m12 m22 d1 t1 d2 t2 d3 t3 d4 y S c s1 n1 s2 n2 s3 n3 s4 n4 =
    let p = suc q in
    let A = 2 ^ (q + n) in
    let B = 2 ^ (p + (r + n)) in
    let a1 = exact_step q (q + n) m11 d1 x t1 s1 c.div11 c.divx (bound1 A B (2 ^ (p + (q + n))) m x m11 m21 m12 m22 d1 c.near c.le21 c.le12 c.le22 c.all s1 (l1 q r n S)) n1 in
    let a2 = exact_step q (suc r + n) m21 d2 t1 t2 s2 c.div21 (div_down (suc r + n) (q + n) t1 (e1 q r n S) a1.0)
    (bound2 A B (2 ^ (p + (suc r + n))) m x m11 m21 m12 m22 t1 d2 c.near c.le12 c.le22 c.all a1.1 s2 (l2 q r n)) n2 in
    let a3 = exact_step q n m12 d3 t2 t3 s3 (div_down n (suc r + n) m12 (e2 r n) c.div12) (div_down n (suc r + n) t2 (e2 r n) a2.0)
    (bound3 A (2 ^ (p + n)) m x m11 m21 m12 m22 t1 t2 d3 c.near c.le22 c.all a1.1 a2.1 s3 (l3 q n)) n3 in
    let s = whole m x m11 m21 m12 m22 t1 t2 t3 d4 c.all a1.1 a2.1 a3.1 s4 in
    let a4 = exact_step q n t3 d4 m22 y s4 a3.0 c.div22 (bound4 A (2 ^ (p + n)) m x d4 c.near s (l4 q n)) n4 in
    whole m x m11 m21 m12 m22 t1 t2 t3 y c.all a1.1 a2.1 a3.1 a4.1
  where
    next : (k l : ℕ) → l ≡ suc k → 2 ^ l ≡ 2 * 2 ^ k
    next k l e = ap (λ (t : ℕ). 2 ^ t) e ∙ pow-succ' 2 k

    e1 : (q r n : ℕ) → suc r < q → suc r + n ≤ q + n
    e1 q r n h = omega arith

    e2 : (r n : ℕ) → n ≤ suc r + n
    e2 r n = omega arith

    l3 : (q n : ℕ) → 2 * 2 ^ (q + n) ≤ 2 ^ (suc q + n)
    l3 q n = omega (arith, next (q + n) (suc q + n) (omega arith))

    l4 : (q n : ℕ) → 2 ^ (q + n) ≤ 2 ^ (suc q + n)
    l4 q n = pow_le (q + n) (suc q + n) (omega arith)

    l2 : (q r n : ℕ) → 2 * 2 ^ (q + n) + 2 ^ (suc q + (r + n)) ≤ 2 ^ (suc q + (suc r + n))
    l2 q r n = omega (arith, next (q + n) (suc q + n) (omega arith), pow_le (suc q + n) (suc q + (r + n)) (omega arith), next (suc q + (r + n)) (suc q + (suc r + n)) (omega arith))

    l1 : (q r n : ℕ) → suc r < q → 2 * 2 ^ (q + n) + 2 * 2 ^ (suc q + (r + n)) ≤ 2 ^ (suc q + (q + n))
    l1 q r n h = omega (arith, l2 q r n, next (suc q + (r + n)) (suc q + (suc r + n)) (omega arith), next (suc q + (suc r + n)) (suc (suc q + (suc r + n))) refl, pow_le (suc (suc q + (suc r + n))) (suc q + (q + n)) (omega arith))

-- ---- the product of two numbers that are split
-- |a| is from 2 ^ (q + i) to below 2 ^ (q + 1 + i), and a is a multiple of 2 ^ i
pub record Sized (q i : ℕ) (a : ℤ) : Type 0 where
  pub div : Div (2 ^ i) a
  pub lt : Under (2 ^ (suc q + i)) a
  pub ge : Over (2 ^ (q + i)) a

pub under_within : (c : ℕ) (x : ℤ) → Under c x → Within c x
under_within c x h = omega arith

-- q + 1 is the number of digits and r + 1 the place of the split
pub record Places (q r : ℕ) : Type 0 where
  pub room : suc r < q
  pub most : suc q ≤ suc r + suc r
  pub least : r + r ≤ q

-- each partial product is a number of p digits
pub parts_rep : (q r i j : ℕ) (a a1 a2 b b1 b2 : ℤ) → Places q r → Parts q r i a a1 a2 → Parts q r j b b1 b2
    → Rep (suc q) (a1 *ℤ b1) × Rep (suc q) (a2 *ℤ b1) × Rep (suc q) (a1 *ℤ b2) × Rep (suc q) (a2 *ℤ b2)
parts_rep q r i j a a1 a2 b b1 b2 P A B =
    let p = suc q in
    let s = suc r in (
      rep_in p (s + i + (s + j)) (a1 *ℤ b1) (omega arith) (div_pow (s + i) (s + j) (s + i + (s + j)) a1 b1 (le_refl (s + i + (s + j))) A.div1 B.div1)
          (within_pow (p + i) (p + j) (p + (s + i + (s + j))) a1 b1 (omega (arith, P)) A.le1 B.le1),
      rep_in p (i + (s + j)) (a2 *ℤ b1) (omega arith) (div_pow i (s + j) (i + (s + j)) a2 b1 (le_refl (i + (s + j))) A.div2 B.div1)
          (within_pow (r + i) (p + j) (p + (i + (s + j))) a2 b1 (omega (arith, P)) A.le2 B.le1),
      rep_in p (s + i + j) (a1 *ℤ b2) (omega arith) (div_pow (s + i) j (s + i + j) a1 b2 (le_refl (s + i + j)) A.div1 B.div2)
          (within_pow (p + i) (r + j) (p + (s + i + j)) a1 b2 (omega (arith, P)) A.le1 B.le2),
      rep_in p (i + j) (a2 *ℤ b2) (omega arith) (div_pow i j (i + j) a2 b2 (le_refl (i + j)) A.div2 B.div2)
          (within_pow (r + i) (r + j) (p + (i + j)) a2 b2 (omega (arith, P)) A.le2 B.le2),
    )

chain_of : (q r i j : ℕ) (a a1 a2 b b1 b2 x : ℤ) → Places q r → Sized q i a → Sized q j b → Parts q r i a a1 a2 → Parts q r j b b1 b2 → Nearest (suc q) (a *ℤ b) x
    → Chain q r (i + j) (a *ℤ b) x (a1 *ℤ b1) (a2 *ℤ b1) (a1 *ℤ b2) (a2 *ℤ b2)
chain_of q r i j a a1 a2 b b1 b2 x P SA SB A B n =
    let p = suc q in
    let s = suc r in
    let k = i + j in
    record {
      near = half p (q + k) (a *ℤ b) x (omega arith)
          (within_pow (p + i) (p + j) (p + suc (q + k)) a b (omega arith) (under_within (2 ^ (p + i)) a SA.lt) (under_within (2 ^ (p + j)) b SB.lt)) n;
      divx = coarse q (q + k) (a *ℤ b) x n (over_pow (q + i) (q + j) (q + (q + k)) a b (omega arith) SA.ge SB.ge);
      div11 = div_pow (s + i) (s + j) (q + k) a1 b1 (omega (arith, P)) A.div1 B.div1;
      div21 = div_pow i (s + j) (s + k) a2 b1 (omega arith) A.div2 B.div1;
      div12 = div_pow (s + i) j (s + k) a1 b2 (omega arith) A.div1 B.div2;
      div22 = div_pow i j k a2 b2 (omega arith) A.div2 B.div2;
      le21 = within_pow (r + i) (p + j) (p + (r + k)) a2 b1 (omega arith) A.le2 B.le1;
      le12 = within_pow (p + i) (r + j) (p + (r + k)) a1 b2 (omega arith) A.le1 B.le2;
      le22 = within_pow (r + i) (r + j) (q + k) a2 b2 (omega (arith, P)) A.le2 B.le2;
      all = four (a *ℤ b) (a1 *ℤ b) (a2 *ℤ b) (a1 *ℤ b1) (a2 *ℤ b1) (a1 *ℤ b2) (a2 *ℤ b2) (dist a1 a2 a b A.sum) (dist_r a1 b1 b2 b B.sum) (dist_r a2 b1 b2 b B.sum);
    }
  where
    four : (m u v m11 m21 m12 m22 : ℤ) → Sum u v m → Sum m11 m12 u → Sum m21 m22 v → All m m11 m21 m12 m22
    four m u v m11 m21 m12 m22 e f g = omega arith

pub two_product : (q r i j : ℕ) (a a1 a2 b b1 b2 x m11 m21 m12 m22 t1 t2 t3 y : ℤ) → Places q r
    → Sized q i a → Sized q j b → Parts q r i a a1 a2 → Parts q r j b b1 b2 → Nearest (suc q) (a *ℤ b) x
    → Nearest (suc q) (a1 *ℤ b1) m11 → Nearest (suc q) (a2 *ℤ b1) m21 → Nearest (suc q) (a1 *ℤ b2) m12 → Nearest (suc q) (a2 *ℤ b2) m22
    → Nearest (suc q) (x -ℤ m11) t1 → Nearest (suc q) (t1 -ℤ m21) t2 → Nearest (suc q) (t2 -ℤ m12) t3 → Nearest (suc q) (m22 -ℤ t3) y
    → x +ℤ y ≡ a *ℤ b
two_product q r i j a a1 a2 b b1 b2 x m11 m21 m12 m22 t1 t2 t3 y P SA SB A B nx n11 n21 n12 n22 nt1 nt2 nt3 ny =
    let p = suc q in
    let R = parts_rep q r i j a a1 a2 b b1 b2 P A B in
    let c = chain_of q r i j a a1 a2 b b1 b2 x P SA SB A B nx in
    let e11 = exact p (a1 *ℤ b1) m11 R.0 n11 in
    let e21 = exact p (a2 *ℤ b1) m21 R.1 n21 in
    let e12 = exact p (a1 *ℤ b2) m12 R.2 n12 in
    let e22 = exact p (a2 *ℤ b2) m22 R.3 n22 in
    let c1 : Chain q r (i + j) (a *ℤ b) x m11 m21 m12 m22 =
    subst (λ (v : ℤ). Chain q r (i + j) (a *ℤ b) x m11 m21 m12 v) (sym e22)
    (subst (λ (v : ℤ). Chain q r (i + j) (a *ℤ b) x m11 m21 v (a2 *ℤ b2)) (sym e12)
    (subst (λ (v : ℤ). Chain q r (i + j) (a *ℤ b) x m11 v (a1 *ℤ b2) (a2 *ℤ b2)) (sym e21)
    (subst (λ (v : ℤ). Chain q r (i + j) (a *ℤ b) x v (a2 *ℤ b1) (a1 *ℤ b2) (a2 *ℤ b2)) (sym e11) c))) in
    let s : Sum x y (a *ℤ b) = chain q r (i + j) (a *ℤ b) x m11 m21 m12 m22 (x -ℤ m11) t1 (t1 -ℤ m21) t2 (t2 -ℤ m12) t3 (m22 -ℤ t3) y P.room c1
    (sub_is x m11) nt1 (sub_is t1 m21) nt2 (sub_is t2 m12) nt3 (sub_is m22 t3) ny in
    same_in (x +ℤ y) (a *ℤ b) (add_same x y (x +ℤ y) (a *ℤ b) (sum_is_lem x y) s)
  where
    add_same : (x y s m : ℤ) → Sum x y s → Sum x y m → up s + down m ≡ up m + down s
    add_same x y s m e f = omega arith
