-- The grain m / 2^p, one less a grain, and a quotient by that. The product of m and 2^−p and the difference from 1 have at
-- most p digits, so both float operations are exact; the one rounding is that of the quotient, a · 2^p / (2^p − m).
use Rattle.std.proofs.Common.{◌≡◌, ℕ, suc, ◌+◌, ◌-◌, ◌*◌, ◌^◌, ◌<◌, ◌≤◌, true, false, T, ℤ, pos, negsuc, ◌-ℤ◌, ◌*ℤ◌, neg_ℤ, sym, refl, ap, ◌∙◌, subst, inr, le_of_lt, mul_assoc, mul-pos, mul_right_comm, arith, lit<, pow_pos, shl_lt}
use borrow.Author.Differences.{same_in}
use lib.Ieee.{Float, nan, inf, fin, Format, binary32, binary64, prec, emax, low, up, down, round, of_int, sub, mul, div, fits}
use lib.Ieee.Fits.{mul-fits, sub-fits, of_int-fits}
use lib.Ieee.Exact.{HasValue}
use lib.Ieee.Back.{round_whole}
use lib.Ieee.Scale.{finite}
use Rattle.rounding.specs.Value.{magnitude, value}
use Rattle.rounding.proofs.Model.{rounding}
use Rattle.rounding.proofs.BinaryNearest.{Rep, Within, exact}
use Rattle.rounding.proofs.TwoSum.{sub_is}
use Rattle.rounding.proofs.Floats.{digits, prec_is, pos_rep, Held, In, value_is, mul_nearest, sub_nearest}
use Rattle.rounding.proofs.FloatRounding.{Rounds, rounded_same, rounding_signed, div_rounds}

-- ---- exact operations
pub mul_exact : (f : Format) (x y : Float) (v : ℤ) → Held f x → Held f y → value f x *ℤ value f y ≡ v *ℤ pos (2 ^ low f) → In f v → Rep (suc (digits f)) v
    → Held f (mul f x y) × (value f (mul f x y) ≡ v)
mul_exact f x y v hx hy e i r =
    let n = mul_nearest f x y v hx hy e (inr i) in
    ((mul-fits f x y, n.0), exact (suc (digits f)) v (value f (mul f x y)) r n.1)

pub sub_exact : (f : Format) (x y : Float) (v : ℤ) → Held f x → Held f y → value f x -ℤ value f y ≡ v → In f v → Rep (suc (digits f)) v
    → Held f (sub f x y) × (value f (sub f x y) ≡ v)
sub_exact f x y v hx hy e i r =
    let n = sub_nearest f x y hx hy (inr (subst (In f) (sym e) i)) in
    ((sub-fits f x y, n.0), exact (suc (digits f)) (value f x -ℤ value f y) (value f (sub f x y)) (subst (Rep (suc (digits f))) (sym e) r) n.1 ∙ e)

-- ---- a whole number as a float
pub whole_value : (f : Format) (n : ℕ) → n ≤ 2 ^ prec f → Held f (of_int f (pos n)) × (value f (of_int f (pos n)) ≡ pos (n * 2 ^ low f))
unfolding of_int
whole_value f n h = let v = round_whole f false n h in ((of_int-fits f (pos n), yes (round f false n 1) n v), value_is f (round f false n 1) false (n * 2 ^ low f) (finer (round f false n 1) n (2 ^ low f) v))
  where
    yes : (x : Float) (n : ℕ) → HasValue x false n 1 → T (finite x)
    yes nan n h = absurd h
    yes (inf s) n h = absurd h
    yes (fin s m e) n h = tt

    finer : (x : Float) (n L : ℕ) → HasValue x false n 1 → HasValue x false (n * L) L
    finer nan n L h = h
    finer (inf s) n L h = h
    finer (fin s m e) n L h = (h.0, step (m * up e) n L (down e) h.1)
      where
        step : (x n L d : ℕ) → x * 1 ≡ n * d → x * L ≡ n * L * d
        step x n L d e = let g : x * 1 * L ≡ n * d * L = ap (λ (z : ℕ). z * L) e in omega arith

-- ---- roundings of equal fractions
pub rounding_same : (p : ℕ) (v : ℤ) (x d y e : ℕ) → 0 < d → 0 < e → x * e ≡ y * d → rounding p (v *ℤ pos x) d ≡ rounding p (v *ℤ pos y) e
rounding_same p (pos a) x d y e P Q h =
    rounding_signed p false (a * x) d P ∙ ap pos (rounded_same p (a * x) d (a * y) e P Q (mul_assoc a x e ∙ ap (λ (z : ℕ). a * z) h ∙ sym (mul_assoc a y d))) ∙ sym (rounding_signed p false (a * y) e Q)
rounding_same p (negsuc a) x d y e P Q h =
    rounding_signed p true (suc a * x) d P
    ∙ ap (λ (z : ℕ). neg_ℤ (pos z)) (rounded_same p (suc a * x) d (suc a * y) e P Q (mul_assoc (suc a) x e ∙ ap (λ (z : ℕ). suc a * z) h ∙ sym (mul_assoc (suc a) y d)))
    ∙ sym (rounding_signed p true (suc a * y) e Q)

-- a divided by d = (U - m) / U, which is (U - m) * 2 ^ e units where U * 2 ^ e make 1
pub lift_rounds : (f : Format) (U m e : ℕ) (a d : Float) → m < U → 2 ^ low f ≡ U * 2 ^ e → Held f a → Held f d → value f d ≡ pos ((U - m) * 2 ^ e)
    → Rounds f (rounding (prec f) (value f a *ℤ pos U) (U - m)) (div f a d)
lift_rounds f U m e a d h u ha hd v =
    let B = (U - m) * 2 ^ e in
    let P : 0 < U - m = some m U h in
    let Q : 0 < B = mul-pos P (pow_pos e) in
    subst (λ (r : ℤ). Rounds f r (div f a d)) (rounding_same (prec f) (value f a) (2 ^ low f) B U (U - m) Q P (even (U - m) U (2 ^ e) (2 ^ low f) u)) (div_rounds f a d ha hd B Q v)
  where
    some : (m U : ℕ) → m < U → 0 < U - m
    some m U h = omega arith

    even : (D U E L : ℕ) → L ≡ U * E → L * D ≡ U * (D * E)
    even D U E L h = let g : L * D ≡ U * E * D = ap (λ (z : ℕ). z * D) h in omega arith

-- ---- the grain and one less it, as the code computes them
abbrev pub ulp : Format → Float
ulp binary32 = fin false 1 (negsuc 23)
ulp binary64 = fin false 1 (negsuc 52)

abbrev pub rest : Format → ℕ
rest binary32 = 125
rest binary64 = 1021

ulp_held : (f : Format) → Held f (ulp f)
unfolding fits
ulp_held binary32 = (tt, tt)
ulp_held binary64 = (tt, tt)

ulp_value : (f : Format) → value f (ulp f) ≡ pos (2 ^ rest f)
unfolding value magnitude
ulp_value binary32 = refl
ulp_value binary64 = refl

one_held : (f : Format) → Held f (fin false 1 (pos 0))
unfolding fits
one_held binary32 = (tt, tt)
one_held binary64 = (tt, tt)

one_value : (f : Format) → value f (fin false 1 (pos 0)) ≡ pos (2 ^ low f)
unfolding value magnitude
one_value binary32 = refl
one_value binary64 = refl

pub one_is : (f : Format) → 2 ^ low f ≡ 2 ^ prec f * 2 ^ rest f
one_is binary32 = refl
one_is binary64 = refl

room : (f : Format) → prec f + rest f < low f + suc (emax f)
room binary32 = lit< tt
room binary64 = lit< tt

part : (f : Format) (k : ℕ) → k < 2 ^ prec f → In f (pos (k * 2 ^ rest f)) × Rep (suc (digits f)) (pos (k * 2 ^ rest f))
part f k h =
    let l = shl_lt (prec f) (rest f) h in
    ((prec f + rest f, room f, within (k * 2 ^ rest f) (2 ^ (prec f + rest f)) l), pos_rep (suc (digits f)) k (rest f) (subst (λ (p : ℕ). k < 2 ^ p) (prec_is f) h))
  where
    within : (x c : ℕ) → x < c → Within c (pos x)
    within x c h = omega arith

pub grain_exact : (f : Format) (m : ℕ) → m < 2 ^ prec f → Held f (mul f (of_int f (pos m)) (ulp f)) × (value f (mul f (of_int f (pos m)) (ulp f)) ≡ pos (m * 2 ^ rest f))
grain_exact f m h =
    let w = whole_value f m (le_of_lt h) in
    let r = part f m h in
    mul_exact f (of_int f (pos m)) (ulp f) (pos (m * 2 ^ rest f)) w.0 (ulp_held f)
    (ap (λ (z : ℤ). z *ℤ value f (ulp f)) w.1 ∙ ap (λ (z : ℤ). pos (m * 2 ^ low f) *ℤ z) (ulp_value f) ∙ ap pos (mul_right_comm m (2 ^ low f) (2 ^ rest f))) r.0 r.1

pub less_exact : (f : Format) (m : ℕ) → 0 < m → m < 2 ^ prec f
    → let d = sub f (fin false 1 (pos 0)) (mul f (of_int f (pos m)) (ulp f)) in Held f d × (value f d ≡ pos ((2 ^ prec f - m) * 2 ^ rest f))
less_exact f m M h =
    let g = grain_exact f m h in
    let k = 2 ^ prec f - m in
    let r = part f k (fewer m (2 ^ prec f) M h) in
    sub_exact f (fin false 1 (pos 0)) (mul f (of_int f (pos m)) (ulp f)) (pos (k * 2 ^ rest f)) (one_held f) g.0
    (ap (λ (z : ℤ). z -ℤ value f (mul f (of_int f (pos m)) (ulp f))) (one_value f) ∙ ap (λ (z : ℤ). pos (2 ^ low f) -ℤ z) g.1 ∙ apart (2 ^ low f) (2 ^ prec f) (2 ^ rest f) m (one_is f) h) r.0 r.1
  where
    fewer : (m U : ℕ) → 0 < m → m < U → U - m < U
    fewer m U a b = omega arith

    apart : (L U E m : ℕ) → L ≡ U * E → m < U → pos L -ℤ pos (m * E) ≡ pos ((U - m) * E)
    apart L U E m e h =
        let d = U - m in
        let i : U * E ≡ (m + d) * E = ap (λ (z : ℕ). z * E) (back U m h) in
        same_in (pos L -ℤ pos (m * E)) (pos (d * E)) (omega (arith, sub_is (pos L) (pos (m * E))))
      where
        back : (U m : ℕ) → m < U → U ≡ m + (U - m)
        back U m h = omega arith
