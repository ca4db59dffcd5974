-- Float operations, by whole numbers of units. A finite float of a format is a whole number of the format's units with at
-- most p digits. The exact result of an operation is a fraction; where it is a whole number of units, the float that is
-- returned stands for a nearest number, provided that it is finite or that the exact result is in range. Sums are brought to
-- a common denominator first; a product is taken where it is a whole number of units.
use Rattle.std.proofs.Common.{◌≡◌, ℕ, zero, suc, ◌+◌, ◌-◌, ◌*◌, ◌/◌, ◌%◌, ◌^◌, ◌<◌, ◌≤◌, Bool, true, false, cond, not, ◌&&◌, T, eqb, ltb, leb, ◌⊎◌, ℤ, pos, negsuc, ◌+ℤ◌, ◌-ℤ◌, ◌*ℤ◌, neg_ℤ, sym, refl, ap, ◌∙◌, subst, inl, inr, le_trans, le_of_eq, lt_of_le_of_lt, le_of_lt, mul_assoc, mul_comm, add-mul, mul-pos, zero-mul, mul-one, mul_right_comm, le_of_mul-le-mul_right, mul-div_cancel, arith, ltb→lt, leb→le, nltb→le, pow_pos, pow-add, shl_lt}
use native.Mathlib.Nat.{eq_of_mul-eq-mul_right, zero-div}
use lib.Pow.{pow-lt}
use lib.IntN.{*ℤ_comm, neg_ℤ-neg_ℤ}
use borrow.Author.Differences as D
use borrow.Author.Differences.{same_in, sum_is_lem, neg_is, product_is}
use lib.Ieee.{Float, nan, inf, fin, Format, binary32, binary64, prec, emax, low, up, down, size, odd, units, round, sum, add, sub, neg, mul, unlike, fits}
use lib.Ieee.Fits.{round_is, neg-fits, down_pos, and_l, and_r}
use lib.Ieee.Exact.{HasValue, units_val}
use lib.Ieee.Nearest.{closest, closest_same}
use lib.Ieee.Order.{kept, drop}
use lib.Ieee.Scale.{grid, overflow, finite}
use Rattle.integers.proofs.Naturals.{pow_le_back}
use Rattle.rounding.specs.Value.{signed, magnitude, value}
use Rattle.rounding.proofs.BinaryNearest.{Nearest, Rep, Within, Over, keeps_within, split_pow}
use Rattle.rounding.proofs.TwoProduct.{size_le}
use Rattle.rounding.proofs.TwoSum.{rep_neg, over_size}
use Rattle.rounding.proofs.ModelNearest.{round_nearest, nearest_neg}

-- the digits below the leading one
abbrev pub digits : Format → ℕ
digits binary32 = 23
digits binary64 = 52

pub prec_is : (f : Format) → prec f ≡ suc (digits f)
prec_is binary32 = refl
prec_is binary64 = refl

-- ---- the value of what `round` returns
units_under : (f : Format) (s : Bool) (q k : ℕ) → T (finite (units f s q k)) → q * 2 ^ k < overflow f
unfolding units
units_under f s q k = go (ltb (q * 2 ^ k) (overflow f)) (ltb→lt (q * 2 ^ k) (overflow f))
  where
    go : (b : Bool) → (T b → q * 2 ^ k < overflow f) → T (finite (cond b (odd (suc (prec f)) s q k (low f)) (inf s))) → q * 2 ^ k < overflow f
    go true h t = h tt
    go false h t = absurd t

pub round_under : (f : Format) (s : Bool) (a c : ℕ) → T (finite (round f s a c)) → grid f a c < overflow f
round_under f s a c t = units_under f s (kept (prec f) (a * 2 ^ low f) c) (drop (prec f) (a * 2 ^ low f) c) (subst (λ (z : Float). T (finite z)) (round_is f s a c) t)

pub round_val : (f : Format) (s : Bool) (a c : ℕ) → grid f a c < overflow f → HasValue (round f s a c) s (grid f a c) (2 ^ low f)
round_val f s a c h = subst (λ (z : Float). HasValue z s (grid f a c) (2 ^ low f)) (sym (round_is f s a c)) (units_val f s (kept (prec f) (a * 2 ^ low f) c) (drop (prec f) (a * 2 ^ low f) c) h)

pub value_is : (f : Format) (x : Float) (s : Bool) (g : ℕ) → HasValue x s g (2 ^ low f) → value f x ≡ signed s g
unfolding value magnitude
value_is f nan s g h = absurd h
value_is f (inf t) s g h = absurd h
value_is f (fin t m e) s g h =
    ap (λ (z : ℕ). signed t (z / down e)) h.1 ∙ ap (signed t) (mul-div_cancel g (down_pos e)) ∙ ap (λ (b : Bool). signed b g) h.0

-- a fraction that is N units
grid_is : (f : Format) (a c N : ℕ) → 0 < c → a * 2 ^ low f ≡ N * c → grid f a c ≡ closest N (2 ^ (size N - prec f)) * 2 ^ (size N - prec f)
grid_is f a c N C e =
    let p = prec f in
    let d : size (N * c / c) - p ≡ size N - p = ap (λ (z : ℕ). size z - p) (mul-div_cancel N C) in
    let k = size N - p in
    ap (λ (z : ℕ). kept p z c * 2 ^ drop p z c) e
    ∙ ap (λ (z : ℕ). closest (N * c) (c * 2 ^ z) * 2 ^ z) d
    ∙ ap (λ (z : ℕ). z * 2 ^ k) (closest_same (N * c) (c * 2 ^ k) N (2 ^ k) (mul-pos C (pow_pos k)) (pow_pos k) (mul_assoc N c (2 ^ k)))

signed_nearest : (p : ℕ) (s : Bool) (n r : ℕ) → Nearest p (pos n) (pos r) → Nearest p (signed s n) (signed s r)
signed_nearest p true n r h = nearest_neg p (pos n) (pos r) h
signed_nearest p false n r h = h

grid_nearest : (f : Format) (s : Bool) (a c N : ℕ) → 0 < c → a * 2 ^ low f ≡ N * c → Nearest (suc (digits f)) (signed s N) (signed s (grid f a c))
grid_nearest f s a c N C e =
    signed_nearest (suc (digits f)) s N (grid f a c)
    (subst (λ (z : ℕ). Nearest (suc (digits f)) (pos N) (pos z)) (sym (grid_is f a c N C e ∙ ap (λ (p : ℕ). closest N (2 ^ (size N - p)) * 2 ^ (size N - p)) (prec_is f))) (round_nearest (digits f) N))

-- v is within the format's range
abbrev pub In : Format → ℤ → Type 0
In f v = (n : ℕ) × (n < low f + suc (emax f)) × Within (2 ^ n) v

-- x stands for a number that is nearest to v
abbrev pub Result : Format → ℤ → Float → Type 0
Result f v x = T (finite x) × Nearest (suc (digits f)) v (value f x)

finite_of : (x : Float) (s : Bool) (a c : ℕ) → HasValue x s a c → T (finite x)
finite_of nan s a c h = absurd h
finite_of (inf t) s a c h = absurd h
finite_of (fin t m e) s a c h = tt

pub size_signed : (s : Bool) (n : ℕ) → D.up (signed s n) + D.down (signed s n) ≡ n
size_signed true n = omega (arith, neg_is (pos n))
size_signed false n = omega arith

grid_under : (f : Format) (s : Bool) (a c N : ℕ) → 0 < c → a * 2 ^ low f ≡ N * c → T (finite (round f s a c)) ⊎ In f (signed s N) → grid f a c < overflow f
grid_under f s a c N C e (inl t) = round_under f s a c t
grid_under f s a c N C e (inr (n, h, w)) =
    let k = keeps_within (suc (digits f)) n (signed s N) (signed s (grid f a c)) (omega arith) (grid_nearest f s a c N C e) w in
    lt_of_le_of_lt (le_trans (le_of_eq (sym (size_signed s (grid f a c)))) (size_le (2 ^ n) (signed s (grid f a c)) k)) (pow-lt h)

pub round_value : (f : Format) (s : Bool) (a c N : ℕ) → 0 < c → a * 2 ^ low f ≡ N * c → T (finite (round f s a c)) ⊎ In f (signed s N) → Result f (signed s N) (round f s a c)
round_value f s a c N C e t =
    let v = round_val f s a c (grid_under f s a c N C e t) in (
      finite_of (round f s a c) s (grid f a c) (2 ^ low f) v,
      subst (λ (z : ℤ). Nearest (suc (digits f)) (signed s N) z) (sym (value_is f (round f s a c) s (grid f a c) v)) (grid_nearest f s a c N C e),
    )

-- from one name of the exact result to another
moved : (f : Format) (v w : ℤ) (x : Float) → v ≡ w → (T (finite x) ⊎ In f v → Result f v x) → T (finite x) ⊎ In f w → Result f w x
moved f v w x e g = subst (λ (z : ℤ). T (finite x) ⊎ In f z → Result f z x) e g

-- ---- the value of a float that fits
-- down e divides 2 ^ low
whole_down : (e : ℤ) (l : ℕ) → down e ≤ 2 ^ l → (k : ℕ) × (2 ^ l ≡ k * down e)
whole_down (pos n) l h = (2 ^ l, sym (mul-one (2 ^ l)))
whole_down (negsuc n) l h = (2 ^ (l - suc n), split_pow (suc n) l (pow_le_back (suc n) l h))

pub own : (f : Format) (s : Bool) (m : ℕ) (e : ℤ) → T (fits f (fin s m e)) → m * up e * 2 ^ low f ≡ magnitude f (fin s m e) * down e
unfolding fits magnitude
own f s zero e t =
    ap (λ (z : ℕ). z * 2 ^ low f) (zero-mul (up e)) ∙ zero-mul (2 ^ low f)
    ∙ sym (ap (λ (z : ℕ). z / down e * down e) (ap (λ (z : ℕ). z * 2 ^ low f) (zero-mul (up e)) ∙ zero-mul (2 ^ low f)) ∙ ap (λ (z : ℕ). z * down e) (zero-div (down e)) ∙ zero-mul (down e))
own f s (suc m) e t =
    let a1 = and_l (eqb (suc m % 2) 1 && ltb (suc m) (2 ^ prec f) && leb (down e) (2 ^ low f)) (ltb (suc m * up e) (2 ^ suc (emax f) * down e)) t in
    let a2 = and_r (eqb (suc m % 2) 1 && ltb (suc m) (2 ^ prec f)) (leb (down e) (2 ^ low f)) a1 in
    let w = whole_down e (low f) (leb→le (down e) (2 ^ low f) a2) in
    let g : suc m * up e * 2 ^ low f ≡ suc m * up e * w.0 * down e = ap (λ (z : ℕ). suc m * up e * z) w.1 ∙ sym (mul_assoc (suc m * up e) w.0 (down e)) in
    g ∙ ap (λ (z : ℕ). z * down e) (sym (ap (λ (z : ℕ). z / down e) g ∙ mul-div_cancel (suc m * up e * w.0) (down_pos e)))

-- ---- sums
both : (s : Bool) (A B : ℕ) → signed s A +ℤ signed s B ≡ signed s (A + B)
both true A B = same_in (neg_ℤ (pos A) +ℤ neg_ℤ (pos B)) (neg_ℤ (pos (A + B))) (omega (arith, sum_is_lem (neg_ℤ (pos A)) (neg_ℤ (pos B)), neg_is (pos A), neg_is (pos B), neg_is (pos (A + B))))
both false A B = refl

left_more : (s : Bool) (A B : ℕ) → B ≤ A → signed s A +ℤ signed (not s) B ≡ signed s (A - B)
left_more true A B h = same_in (neg_ℤ (pos A) +ℤ pos B) (neg_ℤ (pos (A - B))) (omega (arith, sum_is_lem (neg_ℤ (pos A)) (pos B), neg_is (pos A), neg_is (pos (A - B))))
left_more false A B h = same_in (pos A +ℤ neg_ℤ (pos B)) (pos (A - B)) (omega (arith, sum_is_lem (pos A) (neg_ℤ (pos B)), neg_is (pos B)))

right_more : (s : Bool) (A B : ℕ) → A ≤ B → signed s A +ℤ signed (not s) B ≡ signed (not s) (B - A)
right_more true A B h = same_in (neg_ℤ (pos A) +ℤ pos B) (pos (B - A)) (omega (arith, sum_is_lem (neg_ℤ (pos A)) (pos B), neg_is (pos A)))
right_more false A B h = same_in (pos A +ℤ neg_ℤ (pos B)) (neg_ℤ (pos (B - A))) (omega (arith, sum_is_lem (pos A) (neg_ℤ (pos B)), neg_is (pos B), neg_is (pos (B - A))))

-- a ≤ b, and so A ≤ B, and the differences go over too
less : (a b A B L c : ℕ) → 0 < c → a * L ≡ A * c → b * L ≡ B * c → a ≤ b → (A ≤ B) × ((b - a) * L ≡ (B - A) * c)
less a b A B L c C e f h =
    let d = b - a in
    let i : b * L ≡ (a + d) * L = ap (λ (z : ℕ). z * L) (omega arith) in
    let l : A * c ≤ B * c = omega arith in
    let m : A ≤ B = le_of_mul-le-mul_right l C in
    let j : B * c ≡ (A + (B - A)) * c = ap (λ (z : ℕ). z * c) (omega arith) in
    (m, omega arith)

none_left : (A B : ℕ) → A ≤ B → A - B ≡ 0
none_left A B h = omega arith

same_sign : (s y : Bool) (D : ℕ) → (T (not y) → D ≡ 0) → signed (s && y) D ≡ signed s D
same_sign true true D h = refl
same_sign false true D h = refl
same_sign true false D h = ap pos (h tt) ∙ sym (ap (λ (z : ℕ). neg_ℤ (pos z)) (h tt))
same_sign false false D h = refl

abbrev either_way : Format → Bool → ℕ → ℕ → ℕ → Bool → Float
either_way f s a b c x = cond x (round f (not s) (b - a) c) (round f (s && ltb b a) (a - b) c)

-- What holds of each fraction that is a whole number of units, and of its rounding, holds of a sum.
pub record OfRound (f : Format) (P : ℤ → Float → Type 0) : Type 0 where
  pub holds : (s : Bool) (a c N : ℕ) → 0 < c → a * 2 ^ low f ≡ N * c → P (signed s N) (round f s a c)

module _ (f : Format) (P : ℤ → Float → Type 0) (R : OfRound f P) where
  alike : (s : Bool) (a b c A B : ℕ) → 0 < c → a * 2 ^ low f ≡ A * c → b * 2 ^ low f ≡ B * c → P (signed s A +ℤ signed s B) (round f s (a + b) c)
  alike s a b c A B C e g =
      subst (λ (v : ℤ). P v (round f s (a + b) c)) (sym (both s A B))
      (R.holds s (a + b) c (A + B) C (add-mul a b (2 ^ low f) ∙ ap (λ (z : ℕ). z + b * 2 ^ low f) e ∙ ap (λ (z : ℕ). A * c + z) g ∙ sym (add-mul A B c)))

  apart : (s : Bool) (a b c A B : ℕ) → 0 < c → a * 2 ^ low f ≡ A * c → b * 2 ^ low f ≡ B * c → P (signed s A +ℤ signed (not s) B) (either_way f s a b c (ltb a b))
  apart s a b c A B C e g = go (ltb a b) (ltb→lt a b) (nltb→le a b)
    where
      go : (x : Bool) → (T x → a < b) → (T (not x) → b ≤ a) → P (signed s A +ℤ signed (not s) B) (either_way f s a b c x)
      go true h k =
          let l = less a b A B (2 ^ low f) c C e g (le_of_lt (h tt)) in
          subst (λ (v : ℤ). P v (round f (not s) (b - a) c)) (sym (right_more s A B l.0)) (R.holds (not s) (b - a) c (B - A) C l.1)
      go false h k =
          let l = less b a B A (2 ^ low f) c C g e (k tt) in
          subst (λ (v : ℤ). P v (round f (s && ltb b a) (a - b) c))
          (same_sign s (ltb b a) (A - B) (λ n. none_left A B (less a b A B (2 ^ low f) c C e g (nltb→le b a n)).0) ∙ sym (left_more s A B l.0))
          (R.holds (s && ltb b a) (a - b) c (A - B) C l.1)

  pub of_sum : (s : Bool) (a : ℕ) (t : Bool) (b c A B : ℕ) → 0 < c → a * 2 ^ low f ≡ A * c → b * 2 ^ low f ≡ B * c → P (signed s A +ℤ signed t B) (sum f s a t b c)
  unfolding sum
  of_sum true a true b c A B C e g = alike true a b c A B C e g
  of_sum false a false b c A B C e g = alike false a b c A B C e g
  of_sum true a false b c A B C e g = apart true a b c A B C e g
  of_sum false a true b c A B C e g = apart false a b c A B C e g

-- a finite float of the format
abbrev pub Held : Format → Float → Type 0
Held f x = T (fits f x) × T (finite x)

-- x / e extended by d
pub extended : (x d L e M : ℕ) → x * L ≡ M * e → x * d * L ≡ M * (e * d)
extended x d L e M h = mul_right_comm x d L ∙ ap (λ (z : ℕ). z * d) h ∙ mul_assoc M e d

pub of_add : (f : Format) (P : ℤ → Float → Type 0) → OfRound f P → (x y : Float) → Held f x → Held f y → P (value f x +ℤ value f y) (add f x y)
unfolding add value
of_add f P R nan y hx hy = absurd hx.1
of_add f P R (inf s) y hx hy = absurd hx.1
of_add f P R (fin s m e) nan hx hy = absurd hy.1
of_add f P R (fin s m e) (inf t) hx hy = absurd hy.1
of_add f P R (fin s m e) (fin t n d) hx hy =
    of_sum f P R s (m * up e * down d) t (n * up d * down e) (down e * down d) (magnitude f (fin s m e)) (magnitude f (fin t n d)) (mul-pos (down_pos e) (down_pos d))
    (extended (m * up e) (down d) (2 ^ low f) (down e) (magnitude f (fin s m e)) (own f s m e hx.0))
    (extended (n * up d) (down e) (2 ^ low f) (down d) (magnitude f (fin t n d)) (own f t n d hy.0) ∙ ap (λ (z : ℕ). magnitude f (fin t n d) * z) (mul_comm (down d) (down e)))

pub add_nearest : (f : Format) (x y : Float) → Held f x → Held f y → T (finite (add f x y)) ⊎ In f (value f x +ℤ value f y) → Result f (value f x +ℤ value f y) (add f x y)
add_nearest f x y hx hy = of_add f (λ v r. T (finite r) ⊎ In f v → Result f v r) (record { holds = round_value f }) x y hx hy

pub value_neg : (f : Format) (y : Float) → value f (neg y) ≡ neg_ℤ (value f y)
unfolding value neg magnitude
value_neg f nan = refl
value_neg f (inf s) = refl
value_neg f (fin true m e) = sym (neg_ℤ-neg_ℤ (pos (m * up e * 2 ^ low f / down e)))
value_neg f (fin false m e) = refl

finite_neg : (y : Float) → T (finite y) → T (finite (neg y))
unfolding neg
finite_neg nan t = absurd t
finite_neg (inf s) t = absurd t
finite_neg (fin s m e) t = tt

pub held_neg : (f : Format) (y : Float) → Held f y → Held f (neg y)
held_neg f y h = (neg-fits f y h.0, finite_neg y h.1)

pub of_sub : (f : Format) (P : ℤ → Float → Type 0) → OfRound f P → (x y : Float) → Held f x → Held f y → P (value f x -ℤ value f y) (sub f x y)
unfolding sub
of_sub f P R x y hx hy = subst (λ (v : ℤ). P (value f x +ℤ v) (add f x (neg y))) (value_neg f y) (of_add f P R x (neg y) hx (held_neg f y hy))

pub sub_nearest : (f : Format) (x y : Float) → Held f x → Held f y → T (finite (sub f x y)) ⊎ In f (value f x -ℤ value f y) → Result f (value f x -ℤ value f y) (sub f x y)
sub_nearest f x y hx hy = of_sub f (λ v r. T (finite r) ⊎ In f v → Result f v r) (record { holds = round_value f }) x y hx hy

-- ---- products: v units, where the product of the two is v * 2 ^ low
pub neg_mul : (x y : ℤ) → neg_ℤ x *ℤ y ≡ neg_ℤ (x *ℤ y)
neg_mul x y =
    let i = neg_is x in
    same_in (neg_ℤ x *ℤ y) (neg_ℤ (x *ℤ y))
    (omega (arith, product_is (neg_ℤ x) y, product_is x y, neg_is (x *ℤ y), ap (λ (z : ℕ). z * D.up y) i.0, ap (λ (z : ℕ). z * D.down y) i.0, ap (λ (z : ℕ). z * D.up y) i.1, ap (λ (z : ℕ). z * D.down y) i.1))

pub mul_neg : (x y : ℤ) → x *ℤ neg_ℤ y ≡ neg_ℤ (x *ℤ y)
mul_neg x y = *ℤ_comm x (neg_ℤ y) ∙ neg_mul y x ∙ ap neg_ℤ (*ℤ_comm y x)

pub unlike_signed : (s t : Bool) (A B : ℕ) → signed s A *ℤ signed t B ≡ signed (unlike s t) (A * B)
unlike_signed true true A B = neg_mul (pos A) (neg_ℤ (pos B)) ∙ ap neg_ℤ (mul_neg (pos A) (pos B)) ∙ neg_ℤ-neg_ℤ (pos (A * B))
unlike_signed true false A B = neg_mul (pos A) (pos B)
unlike_signed false true A B = mul_neg (pos A) (pos B)
unlike_signed false false A B = refl

-- the size of v, where signed s P = v * m
times_pos : (P m : ℕ) (v : ℤ) → 0 < m → pos P ≡ v *ℤ pos m → (n : ℕ) × (v ≡ pos n) × (P ≡ n * m)
times_pos P m (pos v) M e = (v, refl, ap D.up e)
times_pos P m (negsuc v) M e = absurd (clash (suc v * m) (mul-pos {m = suc v} {n = m} (omega arith) M) (ap D.down e ∙ (neg_is (pos (suc v * m))).1))
  where
    clash : (n : ℕ) → 0 < n → 0 ≡ n → ⊥
    clash n h e = omega arith

times_signed : (s : Bool) (P m : ℕ) (v : ℤ) → 0 < m → signed s P ≡ v *ℤ pos m → (n : ℕ) × (v ≡ signed s n) × (P ≡ n * m)
times_signed true P m v M e =
    let z = times_pos P m (neg_ℤ v) M (sym (neg_ℤ-neg_ℤ (pos P)) ∙ ap neg_ℤ e ∙ sym (neg_mul v (pos m))) in
    (z.0, sym (neg_ℤ-neg_ℤ v) ∙ ap neg_ℤ z.1, z.2)
times_signed false P m v M e = times_pos P m v M e

pub mul_nearest : (f : Format) (x y : Float) (v : ℤ) → Held f x → Held f y → value f x *ℤ value f y ≡ v *ℤ pos (2 ^ low f)
    → T (finite (mul f x y)) ⊎ In f v → Result f v (mul f x y)
unfolding mul value
mul_nearest f nan y v hx hy i = absurd hx.1
mul_nearest f (inf s) y v hx hy i = absurd hx.1
mul_nearest f (fin s m e) nan v hx hy i = absurd hy.1
mul_nearest f (fin s m e) (inf t) v hx hy i = absurd hy.1
mul_nearest f (fin s m e) (fin t n d) v hx hy i =
    let A = magnitude f (fin s m e) in
    let B = magnitude f (fin t n d) in
    let z = times_signed (unlike s t) (A * B) (2 ^ low f) v (pow_pos (low f)) (sym (unlike_signed s t A B) ∙ i) in
    moved f (signed (unlike s t) z.0) v (round f (unlike s t) (m * up e * (n * up d)) (down e * down d)) (sym z.1)
    (round_value f (unlike s t) (m * up e * (n * up d)) (down e * down d) z.0 (mul-pos (down_pos e) (down_pos d))
    (cancel (m * up e) (n * up d) (down e) (down d) (2 ^ low f) A B z.0 (pow_pos (low f)) (own f s m e hx.0) (own f t n d hy.0) z.2))
  where
    cancel : (x y e d L A B N : ℕ) → 0 < L → x * L ≡ A * e → y * L ≡ B * d → A * B ≡ N * L → x * y * L ≡ N * (e * d)
    cancel x y e d L A B N P a b c =
        let a2 : x * L * (y * L) ≡ A * e * (B * d) = ap (λ (z : ℕ). z * (y * L)) a ∙ ap (λ (z : ℕ). A * e * z) b in
        let c2 : A * B * (e * d) ≡ N * L * (e * d) = ap (λ (z : ℕ). z * (e * d)) c in
        eq_of_mul-eq-mul_right L P (x * y * L) (N * (e * d)) (omega arith)

-- ---- a float's value has no more digits than the format
up_pow : (e : ℤ) → (k : ℕ) × (up e ≡ 2 ^ k)
up_pow (pos n) = (n, refl)
up_pow (negsuc n) = (0, refl)

down_pow : (e : ℤ) (l : ℕ) → down e ≤ 2 ^ l → (k : ℕ) × (2 ^ l ≡ 2 ^ k * down e)
down_pow (pos n) l h = (l, sym (mul-one (2 ^ l)))
down_pow (negsuc n) l h = (l - suc n, split_pow (suc n) l (pow_le_back (suc n) l h))

pub pos_rep : (p m k : ℕ) → m < 2 ^ p → Rep p (pos (m * 2 ^ k))
pos_rep p m k h = record { at = k; div = record { u = m; d = 0; is = omega arith }; lt = omega (arith, shl_lt p k h, pow_pos (p + k)) }

signed_rep : (p : ℕ) (s : Bool) (m k : ℕ) → m < 2 ^ p → Rep p (signed s (m * 2 ^ k))
signed_rep p true m k h = rep_neg p (pos (m * 2 ^ k)) (pos_rep p m k h)
signed_rep p false m k h = pos_rep p m k h

pub value_rep : (f : Format) (x : Float) → Held f x → Rep (suc (digits f)) (value f x)
unfolding value magnitude fits
value_rep f nan h = absurd h.1
value_rep f (inf s) h = absurd h.1
value_rep f (fin s zero e) h =
    subst (λ (z : ℕ). Rep (suc (digits f)) (signed s z))
    (zero-mul (2 ^ 0) ∙ sym (ap (λ (z : ℕ). z / down e) (ap (λ (z : ℕ). z * 2 ^ low f) (zero-mul (up e)) ∙ zero-mul (2 ^ low f)) ∙ zero-div (down e)))
    (signed_rep (suc (digits f)) s 0 0 (pow_pos (suc (digits f))))
value_rep f (fin s (suc m) e) h =
    let a1 = and_l (eqb (suc m % 2) 1 && ltb (suc m) (2 ^ prec f) && leb (down e) (2 ^ low f)) (ltb (suc m * up e) (2 ^ suc (emax f) * down e)) h.0 in
    let a0 = and_l (eqb (suc m % 2) 1 && ltb (suc m) (2 ^ prec f)) (leb (down e) (2 ^ low f)) a1 in
    let small = ltb→lt (suc m) (2 ^ prec f) (and_r (eqb (suc m % 2) 1) (ltb (suc m) (2 ^ prec f)) a0) in
    let w = down_pow e (low f) (leb→le (down e) (2 ^ low f) (and_r (eqb (suc m % 2) 1 && ltb (suc m) (2 ^ prec f)) (leb (down e) (2 ^ low f)) a1)) in
    let u = up_pow e in
    let g : suc m * up e * 2 ^ low f ≡ suc m * up e * 2 ^ w.0 * down e = ap (λ (z : ℕ). suc m * up e * z) w.1 ∙ sym (mul_assoc (suc m * up e) (2 ^ w.0) (down e)) in
    let i : suc m * 2 ^ (u.0 + w.0) ≡ suc m * up e * 2 ^ w.0 = ap (λ (z : ℕ). suc m * z) (pow-add 2 u.0 w.0) ∙ sym (mul_assoc (suc m) (2 ^ u.0) (2 ^ w.0)) ∙ ap (λ (z : ℕ). suc m * z * 2 ^ w.0) (sym u.1) in
    subst (λ (z : ℕ). Rep (suc (digits f)) (signed s z)) (i ∙ sym (ap (λ (z : ℕ). z / down e) g ∙ mul-div_cancel (suc m * up e * 2 ^ w.0) (down_pos e)))
    (signed_rep (suc (digits f)) s (suc m) (u.0 + w.0) (subst (λ (z : ℕ). suc m < 2 ^ z) (prec_is f) small))

pub value_size : (f : Format) (x : Float) → D.up (value f x) + D.down (value f x) ≡ magnitude f x
unfolding value magnitude
value_size f nan = refl
value_size f (inf s) = refl
value_size f (fin s m e) = size_signed s (m * up e * 2 ^ low f / down e)

pub within_value : (f : Format) (x : Float) (c : ℕ) → magnitude f x ≤ c → Within c (value f x)
within_value f x c h = omega (arith, value_size f x)

pub over_value : (f : Format) (x : Float) (c : ℕ) → c ≤ magnitude f x → Over c (value f x)
over_value f x c h = over_size c (value f x) (le_trans h (le_of_eq (sym (value_size f x))))
