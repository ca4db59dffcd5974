-- TwoProduct over floats: the rounded product and the tail that the multiplications and subtractions give add up to the
-- exact product. Each float operation gives a nearest number (Floats), so the argument over whole numbers of units (Scaled)
-- applies once it is shown that nothing overflows, by bounds on the sizes, and that the product is large enough for all its
-- partial products to be whole numbers of units.
use Rattle.std.proofs.Common.{◌≡◌, ℕ, zero, suc, ◌+◌, ◌-◌, ◌*◌, ◌/◌, ◌%◌, ◌^◌, ◌<◌, ◌≤◌, T, ℤ, pos, ◌+ℤ◌, ◌-ℤ◌, ◌*ℤ◌, neg_ℤ, sym, refl, ap, ◌∙◌, subst, inl, inr, le_trans, le_of_eq, mul-le-mul_right, mul-pos, le-div_iff_mul-le, zero-mul, le-mul_of_pos_right, le_of_mul-le-mul_right, arith, lit<, lit≤, pow_pos, pow_mono, pow-add}
use Prim.Native.Nat.{compare}
use native.Mathlib.Nat.{pow-succ', div-div-eq-div-mul}
use Rattle.std.proofs.lemmas.Bool.{cases_lt}
use borrow.Author.Differences as D
use borrow.Author.Differences.{same_in, sum_is_lem, neg_is, product_is}
use lib.Ieee.{Float, nan, inf, fin, Format, binary32, binary64, prec, emax, low, up, down, size, sub, mul, round, unlike, fits, of_bits}
use lib.Ieee.Digits.{size-le as digits_le}
use lib.Ieee.Fits.{mul-fits, kept-lt, nearest-le, down_pos}
use lib.Ieee.Order.{kept, drop}
use lib.Ieee.Scale.{finite, grid}
use Rattle.rounding.specs.Value.{value, magnitude, signed}
use Rattle.rounding.specs.ErrorFree.{splitter, place, hi, lo, tail}
use Rattle.rounding.proofs.BinaryNearest.{Near, half, Nearest, Within, Over, times, times_is, keeps_within, keeps_pow, cases_size}
use Rattle.rounding.proofs.TwoSum.{Sum, sub_is, over_size, size_over}
use Rattle.rounding.proofs.Split.{pow_le, Parts}
use Rattle.rounding.proofs.TwoProduct.{Sized, Places, size_le, size_mul}
use Rattle.rounding.proofs.ModelNearest.{nearest_neg}
use Rattle.rounding.proofs.Floats.{digits, Held, value_rep, value_is, value_size, prec_is, mul_nearest, round_under, round_val, size_signed, own}
use Rattle.rounding.proofs.FloatSums.{Op, within_up, sub_op, left_within}
use Rattle.rounding.proofs.Scaled.{times_back, sized, parts, exponents_low, exponents_high, Whole, whole_div, size_times, Ready, wholes, quotient, two_product_units}

-- ---- the split
abbrev q : Format → ℕ
q f = digits f

places : (f : Format) → Places (digits f) (place f)
places binary32 = record { room = lit< tt; most = lit≤ tt; least = lit≤ tt }
places binary64 = record { room = lit< tt; most = lit≤ tt; least = lit≤ tt }

splitter_held : (f : Format) → Held f (splitter f)
unfolding fits of_bits
splitter_held binary32 = (tt, tt)
splitter_held binary64 = (tt, tt)

splitter_value : (f : Format) → value f (splitter f) ≡ pos (suc (2 ^ suc (place f)) * 2 ^ low f)
unfolding value magnitude of_bits
splitter_value binary32 = refl
splitter_value binary64 = refl

-- the splitter times a, in units
abbrev factor : Format → ℤ → ℤ
factor f a = a +ℤ times (2 ^ suc (place f)) a

factor_product : (f : Format) (a : ℤ) → pos (suc (2 ^ suc (place f)) * 2 ^ low f) *ℤ a ≡ factor f a *ℤ pos (2 ^ low f)
factor_product f a = go (2 ^ suc (place f)) (2 ^ low f) a
  where
    go : (S L : ℕ) (a : ℤ) → pos (suc S * L) *ℤ a ≡ (a +ℤ times S a) *ℤ pos L
    go S L a =
        let v = a +ℤ times S a in
        let s : Sum a (times S a) v = sum_is_lem a (times S a) in
        let e : (D.up v + D.down a + D.down (times S a)) * L ≡ (D.down v + D.up a + D.up (times S a)) * L = ap (λ (z : ℕ). z * L) s in
        let t1 = ap (λ (z : ℕ). z * L) (times_is S a).0 in
        let t2 = ap (λ (z : ℕ). z * L) (times_is S a).1 in
        same_in (pos (suc S * L) *ℤ a) (v *ℤ pos L) (omega (arith, product_is (pos (suc S * L)) a, product_is v (pos L)))

factor_within : (f : Format) (n : ℕ) (a : ℤ) → Within (2 ^ n) a → Within (2 ^ (n + (2 + place f))) (factor f a)
factor_within f n a w = go (place f)
  where
    go : (r : ℕ) → Within (2 ^ (n + (2 + r))) (a +ℤ times (2 ^ suc r) a)
    go r =
        let S = 2 ^ suc r in
        let l : (D.up a + D.down a) * S ≤ 2 ^ n * S = mul-le-mul_right S (size_le (2 ^ n) a w) in
        let e : 2 ^ (n + (2 + r)) ≡ 2 * (2 ^ n * S) = ap (λ (z : ℕ). 2 ^ z) (shift n r) ∙ pow-succ' 2 (n + suc r) ∙ ap (λ (z : ℕ). 2 * z) (pow-add 2 n (suc r)) in
        let m : 2 ^ n ≤ 2 ^ n * S = le-mul_of_pos_right (2 ^ n) (pow_pos (suc r)) in
        omega (arith, sum_is_lem a (times S a), times_is S a)
      where
        shift : (n r : ℕ) → n + (2 + r) ≡ suc (n + suc r)
        shift n r = omega arith

-- the splitter's product
pub scaled_op : (f : Format) (n : ℕ) (a : Float) → n + (2 + place f) < low f + suc (emax f) → Held f a → Within (2 ^ n) (value f a) → Op f (n + (2 + place f)) (factor f (value f a)) (mul f (splitter f) a)
scaled_op f n a h ha w =
    let v = factor f (value f a) in
    let wv = factor_within f n (value f a) w in
    let e : value f (splitter f) *ℤ value f a ≡ v *ℤ pos (2 ^ low f) = ap (λ (z : ℤ). z *ℤ value f a) (splitter_value f) ∙ factor_product f (value f a) in
    let r = mul_nearest f (splitter f) a v (splitter_held f) ha e (inr (n + (2 + place f), h, wv)) in
    record { held = (mul-fits f (splitter f) a, r.0); near = r.1; le = keeps_within (suc (digits f)) (n + (2 + place f)) v (value f (mul f (splitter f) a)) (omega arith) r.1 wv }

-- the parts of a
pub record Halves (f : Format) (n : ℕ) (a : Float) : Type 0 where
  pub held1 : Held f (hi f a)
  pub held2 : Held f (lo f a)
  pub cut : (i : ℕ) → Sized (digits f) i (times (2 ^ suc (digits f)) (value f a))
      → Parts (digits f) (place f) i (times (2 ^ suc (digits f)) (value f a)) (times (2 ^ suc (digits f)) (value f (hi f a))) (times (2 ^ suc (digits f)) (value f (lo f a)))

pub halves : (f : Format) (n : ℕ) (a : Float) → n + (6 + place f) < low f + suc (emax f) → Held f a → Within (2 ^ n) (value f a) → Halves f n a
halves f n a h ha w =
    let m = n + (2 + place f) in
    let c = mul f (splitter f) a in
    let d = sub f c a in
    let x = hi f a in
    let y = lo f a in
    let C = scaled_op f n a (omega arith) ha w in
    let A = value f a in
    let G = value f c in
    let w0 = within_up n m A (omega arith) w in
    let Dd = sub_op f m c a (omega arith) C.held ha C.le w0 in
    let X = sub_op f (suc m) c d (omega arith) C.held Dd.held (within_up m (suc m) G (omega arith) C.le) Dd.le in
    let Y = sub_op f (suc (suc m)) a x (omega arith) ha X.held (within_up n (suc (suc m)) A (omega arith) w) X.le in
    record {
      held1 = X.held;
      held2 = Y.held;
      cut = λ i z. parts (digits f) (place f) (suc (digits f)) i A (factor f A) G (neg_ℤ (G -ℤ A)) (neg_ℤ (value f d)) (G -ℤ value f d) (value f x) (A -ℤ value f x) (value f y)
          (below (places f)) z (sum_is_lem A (times (2 ^ suc (place f)) A)) C.near (back G A) (nearest_neg (suc (digits f)) (G -ℤ A) (value f d) Dd.near) (sum_is_lem G (neg_ℤ (value f d))) X.near (sub_is A (value f x)) Y.near;
    }
  where
    below : {q r : ℕ} → Places q r → suc r ≤ q
    below P = omega (arith, P.room)

    back : (g a : ℤ) → Sum g (neg_ℤ (g -ℤ a)) a
    back g a = omega (arith, neg_is (g -ℤ a), sub_is g a)

-- ---- how large a product is, by its rounding
kept_le : (p n den : ℕ) → kept p n den ≤ 2 ^ p
kept_le p n den =
    let k = drop p n den in
    let u = den * 2 ^ k in
    le_trans (nearest-le (n / u) (compare (n % u * 2) u)) (subst (λ (x : ℕ). x < 2 ^ p) (div-div-eq-div-mul n den (2 ^ k)) (kept-lt p (n / den)))

grid_floor : (p n c l : ℕ) → p ≤ l → 2 ^ suc l ≤ kept p n c * 2 ^ drop p n c → 2 ^ l ≤ n / c
grid_floor p n c l h g =
    elim (cases_lt (n / c) (2 ^ l)) [
      | inr k ↦ k
      | inl k ↦
          let s = digits_le (n / c) l k in
          let a : kept p n c * 2 ^ drop p n c ≤ 2 ^ p * 2 ^ drop p n c = mul-le-mul_right (2 ^ drop p n c) (kept_le p n c) in
          let b : 2 ^ (p + drop p n c) ≤ 2 ^ l = pow_mono (few (size (n / c)) p l s h) in
          absurd (clash (2 ^ l) (kept p n c * 2 ^ drop p n c) (2 ^ p * 2 ^ drop p n c) (2 ^ (p + drop p n c)) (2 ^ suc l) g a (pow-add 2 p (drop p n c)) b (pow-succ' 2 l) (pow_pos l))
    ]
  where
    few : (s p l : ℕ) → s ≤ l → p ≤ l → p + (s - p) ≤ l
    few s p l a b = omega arith

    clash : (L g a b M : ℕ) → M ≤ g → g ≤ a → b ≡ a → b ≤ L → M ≡ 2 * L → 0 < L → ⊥
    clash L g a b M h1 h2 h3 h4 h5 h6 = omega arith

pub mul_size : (f : Format) (x y : Float) (l : ℕ) → prec f ≤ l → Held f x → Held f y → T (finite (mul f x y)) → Over (2 ^ suc l) (value f (mul f x y)) → Over (2 ^ (low f + l)) (value f x *ℤ value f y)
unfolding mul value
mul_size f nan y l p hx hy t o = absurd hx.1
mul_size f (inf s) y l p hx hy t o = absurd hx.1
mul_size f (fin s m e) nan l p hx hy t o = absurd hy.1
mul_size f (fin s m e) (inf u) l p hx hy t o = absurd hy.1
mul_size f (fin s m e) (fin u n d) l p hx hy t o =
    let w = unlike s u in
    let num = m * up e * (n * up d) in
    let den = down e * down d in
    let A = magnitude f (fin s m e) in
    let B = magnitude f (fin u n d) in
    let v = value_is f (round f w num den) w (grid f num den) (round_val f w num den (round_under f w num den t)) in
    let g : 2 ^ suc l ≤ grid f num den = le_trans (size_over (2 ^ suc l) (signed w (grid f num den)) (subst (Over (2 ^ suc l)) v o)) (le_of_eq (size_signed w (grid f num den))) in
    let k = grid_floor (prec f) (num * 2 ^ low f) den l p g in
    let b : 2 ^ l * den ≤ num * 2 ^ low f = (le-div_iff_mul-le (mul-pos (down_pos e) (down_pos d))).0 k in
    over_size (2 ^ (low f + l)) (signed s A *ℤ signed u B)
    (le_trans (le_of_eq (pow-add 2 (low f) l)) (le_trans (large (m * up e) (n * up d) (down e) (down d) (2 ^ low f) A B (2 ^ l) (down_pos e) (down_pos d) (own f s m e hx.0) (own f u n d hy.0) b)
    (le_of_eq (sym (size_mul (signed s A) (signed u B) ∙ ap (λ (z : ℕ). z * (D.up (signed u B) + D.down (signed u B))) (size_signed s A) ∙ ap (λ (z : ℕ). A * z) (size_signed u B))))))
  where
    large : (x y e d L A B K : ℕ) → 0 < e → 0 < d → x * L ≡ A * e → y * L ≡ B * d → K * (e * d) ≤ x * y * L → L * K ≤ A * B
    large x y e d L A B K E Dd a b h =
        let i : x * L * (y * L) ≡ A * e * (B * d) = ap (λ (z : ℕ). z * (y * L)) a ∙ ap (λ (z : ℕ). A * e * z) b in
        let j : K * (e * d) * L ≤ x * y * L * L = mul-le-mul_right L h in
        let c : L * K * (e * d) ≤ A * B * (e * d) = omega arith in
        le_of_mul-le-mul_right c (mul-pos E Dd)

-- ---- the last line
pub mul_op : (f : Format) (n : ℕ) (x y : Float) → n < low f + suc (emax f) → Held f x → Held f y → (w : Whole (low f) n (value f x *ℤ value f y)) → Op f n w.v (mul f x y)
mul_op f n x y h hx hy w =
    let r = mul_nearest f x y w.v hx hy w.is (inr (n, h, w.le)) in
    record { held = (mul-fits f x y, r.0); near = r.1; le = keeps_within (suc (digits f)) n w.v (value f (mul f x y)) (omega arith) r.1 w.le }

exact_le : (p n : ℕ) (x r : ℤ) → 0 < p → Nearest p x r → Within (2 ^ n) r → Within (2 ^ suc n) x
exact_le p n x r P h w =
    elim (cases_size (2 ^ suc n) x) [
      | inl k ↦ k
      | inr o ↦ absurd (clash (keeps_pow p (suc n) x r P h o))
    ]
  where
    clash : Over (2 ^ suc n) r → ⊥
    clash (inl o) = omega (arith, pow-succ' 2 n, pow_pos n)
    clash (inr o) = omega (arith, pow-succ' 2 n, pow_pos n)

some_size : (c : ℕ) (a b : ℤ) → 0 < c → Over c (a *ℤ b) → (0 < D.up a + D.down a) × (0 < D.up b + D.down b)
some_size c a b C o =
    let s = size_over c (a *ℤ b) o in
    go (D.up a + D.down a) (D.up b + D.down b) (le_trans (le_trans C s) (le_of_eq (size_mul a b)))
  where
    go : (x y : ℕ) → 0 < x * y → (0 < x) × (0 < y)
    go zero y h = absurd (omega (arith, zero-mul y))
    go (suc x) zero h = absurd (omega arith)
    go (suc x) (suc y) h = (omega arith, omega arith)

product_within : (k n : ℕ) (x v : ℤ) → x ≡ times (2 ^ k) v → Within (2 ^ n) v → Within (2 ^ (k + n)) x
product_within k n x v e w =
    let l : (D.up v + D.down v) * 2 ^ k ≤ 2 ^ n * 2 ^ k = mul-le-mul_right (2 ^ k) (size_le (2 ^ n) v w) in
    subst (Within (2 ^ (k + n))) (sym e) (omega (arith, size_times (2 ^ k) v, pow-add 2 k n))

pub ready : (f : Format) (n l : ℕ) (a b : Float) → n + (6 + place f) < low f + suc (emax f) → suc (digits f) + suc (digits f) ≤ l → Held f a → Held f b
    → Within (2 ^ n) (value f a) → Within (2 ^ n) (value f b) → T (finite (mul f a b)) → Within (2 ^ n) (value f (mul f a b)) → Over (2 ^ suc l) (value f (mul f a b))
    → (v : ℤ) × (value f a *ℤ value f b ≡ times (2 ^ low f) v) × Nearest (suc (digits f)) v (value f (mul f a b))
    × Ready (digits f) (place f) (low f) (3 + n) (value f a) (value f (hi f a)) (value f (lo f a)) (value f b) (value f (hi f b)) (value f (lo f b))
ready f n l a b h L ha hb wa wb t w o =
    let A = value f a in
    let B = value f b in
    let p = suc (digits f) in
    let O = mul_size f a b l (le_trans (le_of_eq (prec_is f)) (omega arith)) ha hb t o in
    let nz = some_size (2 ^ (low f + l)) A B (pow_pos (low f + l)) O in
    let sa = sized (digits f) A (value_rep f a ha) nz.0 in
    let sb = sized (digits f) B (value_rep f b hb) nz.1 in
    let i = sa.0 in
    let j = sb.0 in
    let lowest = exponents_low (digits f) i j (low f + l) A B sa.1 sb.1 O in
    let lows : low f + (p + p) ≤ i + j = under (low f) (p + p) l (i + j) L lowest in
    let z = quotient (2 ^ low f) (A *ℤ B) (whole_div p i j (low f) A B lows sa.1.div sb.1.div) in
    let N = (mul_nearest f a b z.0 ha hb z.1 (inl t)).1 in
    let highest = exponents_high (digits f) i j (low f + suc n) A B sa.1 sb.1 (product_within (low f) (suc n) (A *ℤ B) z.0 z.1 (exact_le p n z.0 (value f (mul f a b)) (omega arith) N w)) in (
      z.0,
      z.1,
      N,
      record {
        i = i;
        j = j;
        sa = sa.1;
        sb = sb.1;
        pa = (halves f n a h ha wa).cut i sa.1;
        pb = (halves f n b h hb wb).cut j sb.1;
        low = lows;
        high = over (low f) n (i + j) highest;
      },
    )
  where
    under : (k p l s : ℕ) → p ≤ l → k + l ≤ s → k + p ≤ s
    under k p l s a b = omega arith

    over : (k n s : ℕ) → s ≤ 2 + (k + suc n) → s ≤ k + (3 + n)
    over k n s h = omega arith

pub two_product_floats : (f : Format) (n l : ℕ) (a b : Float) → n + (8 + place f) < low f + suc (emax f) → suc (digits f) + suc (digits f) ≤ l → Held f a → Held f b
    → Within (2 ^ n) (value f a) → Within (2 ^ n) (value f b) → T (finite (mul f a b)) → Within (2 ^ n) (value f (mul f a b)) → Over (2 ^ suc l) (value f (mul f a b))
    → T (finite (tail f a b (mul f a b))) × ((value f (mul f a b) +ℤ value f (tail f a b (mul f a b))) *ℤ pos (2 ^ low f) ≡ value f a *ℤ value f b)
two_product_floats f n l a b h L ha hb wa wb t w o =
    let x = mul f a b in
    let a1 = hi f a in
    let a2 = lo f a in
    let b1 = hi f b in
    let b2 = lo f b in
    let G = ready f n l a b (omega arith) L ha hb wa wb t w o in
    let HA = halves f n a (omega arith) ha wa in
    let HB = halves f n b (omega arith) hb wb in
    let ws = wholes (digits f) (place f) (low f) (3 + n) (value f a) (value f a1) (value f a2) (value f b) (value f b1) (value f b2) (places f).room G.3 in
    let r3 = room3 n (place f) (low f + suc (emax f)) h in
    let M11 = mul_op f (3 + n) a1 b1 r3 HA.held1 HB.held1 ws.0 in
    let M21 = mul_op f (3 + n) a2 b1 r3 HA.held2 HB.held1 ws.1 in
    let M12 = mul_op f (3 + n) a1 b2 r3 HA.held1 HB.held2 ws.2 in
    let M22 = mul_op f (3 + n) a2 b2 r3 HA.held2 HB.held2 ws.3 in
    let hx : Held f x = (mul-fits f a b, t) in
    let m11 = mul f a1 b1 in
    let m21 = mul f a2 b1 in
    let m12 = mul f a1 b2 in
    let m22 = mul f a2 b2 in
    let t1 = sub f x m11 in
    let t2 = sub f t1 m21 in
    let t3 = sub f t2 m12 in
    let T1 = sub_op f (3 + n) x m11 (omega arith) hx M11.held (within_up n (3 + n) (value f x) (omega arith) w) M11.le in
    let T2 = sub_op f (suc (3 + n)) t1 m21 (omega arith) T1.held M21.held T1.le (within_up (3 + n) (suc (3 + n)) (value f m21) (omega arith) M21.le) in
    let T3 = sub_op f (suc (suc (3 + n))) t2 m12 (omega arith) T2.held M12.held T2.le (within_up (3 + n) (suc (suc (3 + n))) (value f m12) (omega arith) M12.le) in
    let Y = sub_op f (suc (suc (suc (3 + n)))) m22 t3 (omega arith) M22.held T3.held (within_up (3 + n) (suc (suc (suc (3 + n)))) (value f m22) (omega arith) M22.le) T3.le in (
      Y.held.1,
      two_product_units (digits f) (place f) (low f) (3 + n) (value f a) (value f a1) (value f a2) (value f b) (value f b1) (value f b2) G.0 (value f x)
          ws.0.v (value f m11) ws.1.v (value f m21) ws.2.v (value f m12) ws.3.v (value f m22) (value f t1) (value f t2) (value f t3) (value f (sub f m22 t3))
          (places f) G.3 G.1 G.2 ws.0.is M11.near ws.1.is M21.near ws.2.is M12.near ws.3.is M22.near T1.near T2.near T3.near Y.near,
    )
  where
    room3 : (n r t : ℕ) → n + (8 + r) < t → 3 + n < t
    room3 n r t h = omega arith

-- ---- the error part is no larger than the limit
error_within : (p n : ℕ) (v x : ℤ) → 0 < p → p ≤ n → Nearest p v x → Within (2 ^ n) x → Near (2 ^ n) v x
error_within p n v x P h N w =
    let k = n - p in
    let e : 2 ^ suc n ≡ 2 ^ (p + suc k) = ap (λ (z : ℕ). 2 ^ z) (split p n h) in
    let g = half p k v x P (subst (λ (c : ℕ). Within c v) e (exact_le p n v x P N w)) N in
    let l = pow_le k n (fewer p n) in
    (omega arith, omega arith)
  where
    split : (p n : ℕ) → p ≤ n → suc n ≡ p + suc (n - p)
    split p n h = omega arith

    fewer : (p n : ℕ) → n - p ≤ n
    fewer p n = omega arith

pub tail_within : (f : Format) (n l : ℕ) (a b : Float) → n + (8 + place f) < low f + suc (emax f) → suc (digits f) + suc (digits f) ≤ l → suc (digits f) ≤ n → Held f a → Held f b
    → Within (2 ^ n) (value f a) → Within (2 ^ n) (value f b) → T (finite (mul f a b)) → Within (2 ^ n) (value f (mul f a b)) → Over (2 ^ suc l) (value f (mul f a b))
    → magnitude f (tail f a b (mul f a b)) ≤ 2 ^ n
tail_within f n l a b h L N ha hb wa wb t w o =
    let x = value f (mul f a b) in
    let y = value f (tail f a b (mul f a b)) in
    let G = ready f n l a b (less n (place f) (low f + suc (emax f)) h) L ha hb wa wb t w o in
    let s = (two_product_floats f n l a b h L ha hb wa wb t w o).1 in
    let e : x +ℤ y ≡ G.0 = times_back (2 ^ low f) (x +ℤ y) G.0 (pow_pos (low f)) (s ∙ G.1) in
    let z = error_within (suc (digits f)) n G.0 x (omega arith) N G.2 w in
    le_trans (le_of_eq (sym (value_size f (tail f a b (mul f a b))))) (size_le (2 ^ n) y (left_within (2 ^ n) x y (x +ℤ y) G.0 (sum_is_lem x y) e z))
  where
    less : (n r t : ℕ) → n + (8 + r) < t → n + (6 + r) < t
    less n r t h = omega arith
