-- Each float operation gives the rounding of the exact result, or an infinity where that rounding is too large for the
-- format: sums and products, whose exact results are fractions with a power of two below, and quotients.
use Rattle.std.proofs.Common.{◌≡◌, ℕ, zero, suc, ◌+◌, ◌-◌, ◌*◌, ◌^◌, ◌<◌, ◌≤◌, Bool, true, false, cond, not, T, eqb, ltb, ℤ, pos, ◌+ℤ◌, ◌*ℤ◌, neg_ℤ, sym, refl, ap, ◌∙◌, subst, mul_assoc, mul-pos, zero-mul, mul-one, arith, lit<, eqb→eq, nltb→le, pow_pos}
use borrow.Author.Differences as D
use borrow.Author.Differences.{neg_is}
use lib.Ieee.{Float, nan, inf, fin, Format, prec, low, up, down, size, odd, units, round, add, mul, div, unlike}
use lib.Ieee.Fits.{round_is, down_pos}
use lib.Ieee.Nearest.{closest, closest_same, div_same}
use lib.Ieee.Order.{kept, drop}
use lib.Ieee.Scale.{grid, overflow, finite}
use Rattle.rounding.specs.Value.{signed, magnitude, value}
use Rattle.rounding.proofs.Model.{rounded, rounding}
use Rattle.rounding.proofs.Floats.{Held, OfRound, of_add, size_signed, own, value_is, round_under, round_val, unlike_signed}
use Rattle.rounding.proofs.ModelNearest.{chosen_zero}

-- equal fractions
pub rounded_same : (p n d m e : ℕ) → 0 < d → 0 < e → n * e ≡ m * d → rounded p n d ≡ rounded p m e
unfolding rounded
rounded_same p n d m e D E h =
    let k = drop p m e in
    let i : drop p n d ≡ k = ap (λ (z : ℕ). size z - p) (div_same n d m e D E h) in
    ap (λ (z : ℕ). closest n (d * 2 ^ z) * 2 ^ z) i
    ∙ ap (λ (z : ℕ). z * 2 ^ k) (closest_same n (d * 2 ^ k) m (e * 2 ^ k) (mul-pos D (pow_pos k)) (mul-pos E (pow_pos k)) (sym (mul_assoc n e (2 ^ k)) ∙ ap (λ (z : ℕ). z * 2 ^ k) h ∙ mul_assoc m d (2 ^ k)))

pub rounded_zero : (p d : ℕ) → 0 < d → rounded p 0 d ≡ 0
unfolding rounded
rounded_zero p d D = ap (λ (z : ℕ). z * 2 ^ drop p 0 d) (chosen_zero (d * 2 ^ drop p 0 d) (mul-pos D (pow_pos (drop p 0 d)))) ∙ zero-mul (2 ^ drop p 0 d)

pub rounding_signed : (p : ℕ) (s : Bool) (n d : ℕ) → 0 < d → rounding p (signed s n) d ≡ signed s (rounded p n d)
unfolding rounding
rounding_signed p true zero d D = ap pos (rounded_zero p d D) ∙ sym (ap (λ (z : ℕ). neg_ℤ (pos z)) (rounded_zero p d D))
rounding_signed p true (suc n) d D = refl
rounding_signed p false n d D = refl

-- x is v rounded, or is infinite, where v rounded is too large
abbrev pub Rounds : Format → ℤ → Float → Type 0
Rounds f r x = (T (finite x) → value f x ≡ r) × (T (not (finite x)) → overflow f ≤ D.up r + D.down r)

units_over : (f : Format) (s : Bool) (q k : ℕ) → T (not (finite (units f s q k))) → overflow f ≤ q * 2 ^ k
unfolding units odd
units_over f s q k = go (ltb (q * 2 ^ k) (overflow f)) (nltb→le (q * 2 ^ k) (overflow f)) (tells q)
  where
    tells : (q : ℕ) → T (finite (odd (suc (prec f)) s q k (low f)))
    tells zero = tt
    tells (suc q) = tt

    go : (b : Bool) → (T (not b) → overflow f ≤ q * 2 ^ k) → T (finite (odd (suc (prec f)) s q k (low f))) → T (not (finite (cond b (odd (suc (prec f)) s q k (low f)) (inf s)))) → overflow f ≤ q * 2 ^ k
    go true h i t = absurd (both (finite (odd (suc (prec f)) s q k (low f))) i t)
      where
        both : (b : Bool) → T b → T (not b) → ⊥
        both true i t = t
        both false i t = i
    go false h i t = h tt

pub round_rounds : (f : Format) (s : Bool) (a c N d : ℕ) → 0 < c → 0 < d → a * 2 ^ low f * d ≡ N * c → Rounds f (rounding (prec f) (signed s N) d) (round f s a c)
unfolding rounded
round_rounds f s a c N d C E h =
    let g : grid f a c ≡ rounded (prec f) N d = rounded_same (prec f) (a * 2 ^ low f) c N d C E h in
    let i : signed s (grid f a c) ≡ rounding (prec f) (signed s N) d = ap (signed s) g ∙ sym (rounding_signed (prec f) s N d E) in (
      (λ t. value_is f (round f s a c) s (grid f a c) (round_val f s a c (round_under f s a c t)) ∙ i),
      λ t. subst (λ (r : ℤ). overflow f ≤ D.up r + D.down r) i
          (subst (λ (n : ℕ). overflow f ≤ n) (sym (size_signed s (grid f a c)))
          (units_over f s (kept (prec f) (a * 2 ^ low f) c) (drop (prec f) (a * 2 ^ low f) c) (subst (λ (z : Float). T (not (finite z))) (round_is f s a c) t))),
    )

whole_units : (f : Format) → OfRound f (λ v x. Rounds f (rounding (prec f) v 1) x)
whole_units f = record { holds = λ s a c N C e. round_rounds f s a c N 1 C (lit< tt) (mul-one (a * 2 ^ low f) ∙ e) }

pub add_rounds : (f : Format) (x y : Float) → Held f x → Held f y → Rounds f (rounding (prec f) (value f x +ℤ value f y) 1) (add f x y)
add_rounds f x y hx hy = of_add f (λ v r. Rounds f (rounding (prec f) v 1) r) (whole_units f) x y hx hy

pub mul_rounds : (f : Format) (x y : Float) → Held f x → Held f y → Rounds f (rounding (prec f) (value f x *ℤ value f y) (2 ^ low f)) (mul f x y)
unfolding mul value
mul_rounds f nan y hx hy = absurd hx.1
mul_rounds f (inf s) y hx hy = absurd hx.1
mul_rounds f (fin s m e) nan hx hy = absurd hy.1
mul_rounds f (fin s m e) (inf t) hx hy = absurd hy.1
mul_rounds f (fin s m e) (fin t n d) hx hy =
    let A = magnitude f (fin s m e) in
    let B = magnitude f (fin t n d) in
    subst (λ (v : ℤ). Rounds f (rounding (prec f) v (2 ^ low f)) (round f (unlike s t) (m * up e * (n * up d)) (down e * down d))) (sym (unlike_signed s t A B))
    (round_rounds f (unlike s t) (m * up e * (n * up d)) (down e * down d) (A * B) (2 ^ low f) (mul-pos (down_pos e) (down_pos d)) (pow_pos (low f))
    (crossed (m * up e) (n * up d) (down e) (down d) (2 ^ low f) A B (own f s m e hx.0) (own f t n d hy.0)))
  where
    crossed : (x y e d L A B : ℕ) → x * L ≡ A * e → y * L ≡ B * d → x * y * L * L ≡ A * B * (e * d)
    crossed x y e d L A B a b = let i : x * L * (y * L) ≡ A * e * (B * d) = ap (λ (z : ℕ). z * (y * L)) a ∙ ap (λ (z : ℕ). A * e * z) b in omega arith

-- a quotient by a number above 0
quotient_at : (f : Format) (s : Bool) (m : ℕ) (e : ℤ) (n : ℕ) (d : ℤ) → Held f (fin s m e) → Held f (fin false n d) → 0 < magnitude f (fin false n d)
    → Rounds f (rounding (prec f) (signed s (magnitude f (fin s m e)) *ℤ pos (2 ^ low f)) (magnitude f (fin false n d))) (round f (unlike s false) (m * up e * down d) (n * up d * down e))
quotient_at f s m e n d hx hy P =
    let A = magnitude f (fin s m e) in
    let B = magnitude f (fin false n d) in
    let L = 2 ^ low f in
    let b = own f false n d hy.0 in
    subst (λ (v : ℤ). Rounds f (rounding (prec f) v B) (round f (unlike s false) (m * up e * down d) (n * up d * down e))) (sym (unlike_signed s false A L))
    (round_rounds f (unlike s false) (m * up e * down d) (n * up d * down e) (A * L) B (mul-pos (some (n * up d) L B (down d) b P (down_pos d)) (down_pos e)) P
    (crossed (m * up e) (n * up d) (down e) (down d) L A B (own f s m e hx.0) b))
  where
    crossed : (x y e d L A B : ℕ) → x * L ≡ A * e → y * L ≡ B * d → x * d * L * B ≡ A * L * (y * e)
    crossed x y e d L A B a b =
        let i : x * L * (d * B) ≡ A * e * (d * B) = ap (λ (z : ℕ). z * (d * B)) a in
        let j : y * L * (A * e) ≡ B * d * (A * e) = ap (λ (z : ℕ). z * (A * e)) b in
        omega arith

    some : (y L B d : ℕ) → y * L ≡ B * d → 0 < B → 0 < d → 0 < y
    some zero L B d b P E = absurd (omega (arith, mul-pos P E, zero-mul L))
    some (suc y) L B d b P E = omega arith

pub div_rounds : (f : Format) (x y : Float) → Held f x → Held f y → (B : ℕ) → 0 < B → value f y ≡ pos B → Rounds f (rounding (prec f) (value f x *ℤ pos (2 ^ low f)) B) (div f x y)
unfolding div value
div_rounds f nan y hx hy B P e = absurd hx.1
div_rounds f (inf s) y hx hy B P e = absurd hx.1
div_rounds f (fin s m g) nan hx hy B P e = absurd hy.1
div_rounds f (fin s m g) (inf t) hx hy B P e = absurd hy.1
div_rounds f (fin s m g) (fin true n d) hx hy B P e = absurd (clash B (ap D.up e) (neg_is (pos (magnitude f (fin true n d)))).0 P)
  where
    clash : {u : ℕ} (B : ℕ) → u ≡ B → u ≡ 0 → 0 < B → ⊥
    clash B a b h = omega arith
div_rounds f (fin s m g) (fin false n d) hx hy B P e =
    let M = magnitude f (fin false n d) in
    let i : M ≡ B = ap D.up e in
    let q = quotient_at f s m g n d hx hy (subst (λ (z : ℕ). 0 < z) (sym i) P) in
    go (eqb n 0) (eqb→eq n 0) (subst (λ (z : ℕ). Rounds f (rounding (prec f) (signed s (magnitude f (fin s m g)) *ℤ pos (2 ^ low f)) z) (round f (unlike s false) (m * up g * down d) (n * up d * down g))) i q)
  where
    no_zero : n ≡ 0 → ⊥
    no_zero z =
        none (n * up d * 2 ^ low f) (magnitude f (fin false n d)) (down d) B (own f false n d hy.0) (ap (λ (w : ℕ). w * up d * 2 ^ low f) z ∙ ap (λ (w : ℕ). w * 2 ^ low f) (zero-mul (up d)) ∙ zero-mul (2 ^ low f)) (ap D.up e) P (down_pos d)
      where
        none : (l M d B : ℕ) → l ≡ M * d → l ≡ 0 → M ≡ B → 0 < B → 0 < d → ⊥
        none l M d B a b c h k = omega (arith, mul-pos {m = M} {n = d} (omega arith) k)

    go : (b : Bool) → (T b → n ≡ 0) → Rounds f (rounding (prec f) (signed s (magnitude f (fin s m g)) *ℤ pos (2 ^ low f)) B) (round f (unlike s false) (m * up g * down d) (n * up d * down g))
        → Rounds f (rounding (prec f) (signed s (magnitude f (fin s m g)) *ℤ pos (2 ^ low f)) B) (cond b (cond (eqb m 0) nan (inf (unlike s false))) (round f (unlike s false) (m * up g * down d) (n * up d * down g)))
    go true z r = absurd (no_zero (z tt))
    go false z r = r
