-- What is no NaN: a finite float, and a product or a quotient of finite floats, since each is what `round` gives.
use Rattle.std.specs.Prelude.{◌≡◌, ℕ, zero, suc, ◌+◌, ◌*◌, ◌/◌, ◌^◌, Bool, true, false, cond, not, T, ◌==◌, ◌≢◌, nat_lt, Float}
use Rattle.std.proofs.Common.{sym, ap, ◌∙◌, subst, zero-mul, eqb→eq}
use Rattle.std.proofs.Math.Nat.{zero-div}
use Rattle.std.specs.Float.{nan, inf, fin, Format}
use Rattle.std.specs.Float.Ieee.{prec, emax, low, up, down, is_nan, odd, units, round, mul, div, unlike}
use Rattle.std.specs.Float.Ieee.Fits.{round_is}
use Rattle.std.specs.Float.Ieee.Scale.{finite}
use Rattle.rounding.specs.Value.{magnitude}

pub finite_no_nan : (x : Float) → finite x ≡ true → T (not (is_nan x))
unfolding is_nan
finite_no_nan nan e = subst T (sym e) tt
finite_no_nan (inf s) e = tt
finite_no_nan (fin s m d) e = tt

odd_no_nan : (d : ℕ) (s : Bool) (q k l : ℕ) → T (not (is_nan (odd d s q k l)))
unfolding odd is_nan
odd_no_nan d s zero k l = tt
odd_no_nan d s (suc q) k l = tt

units_no_nan : (f : Format) (s : Bool) (q k : ℕ) → T (not (is_nan (units f s q k)))
unfolding units is_nan
units_no_nan f s q k = go (nat_lt (q * 2 ^ k) (2 ^ (low f + suc (emax f))))
  where
    go : (b : Bool) → T (not (is_nan (cond b (odd (suc (prec f)) s q k (low f)) (inf s))))
    go true = odd_no_nan (suc (prec f)) s q k (low f)
    go false = tt

round_no_nan : (f : Format) (s : Bool) (a c : ℕ) → T (not (is_nan (round f s a c)))
round_no_nan f s a c = subst (λ (x : Float). T (not (is_nan x))) (sym (round_is f s a c)) (units_no_nan f s _ _)

pub mul_no_nan : (f : Format) (x y : Float) → finite x ≡ true → finite y ≡ true → T (not (is_nan (mul f x y)))
unfolding mul
mul_no_nan f nan y a b = absurd (subst T (sym a) tt)
mul_no_nan f (inf s) y a b = absurd (subst T (sym a) tt)
mul_no_nan f (fin s m e) nan a b = absurd (subst T (sym b) tt)
mul_no_nan f (fin s m e) (inf t) a b = absurd (subst T (sym b) tt)
mul_no_nan f (fin s m e) (fin t n d) a b = round_no_nan f (unlike s t) (m * up e * (n * up d)) (down e * down d)

-- the divisor is not zero
pub div_no_nan : (f : Format) (x y : Float) → finite x ≡ true → finite y ≡ true → (magnitude f y ≢ 0) → T (not (is_nan (div f x y)))
unfolding div magnitude
div_no_nan f nan y a b z = absurd (subst T (sym a) tt)
div_no_nan f (inf s) y a b z = absurd (subst T (sym a) tt)
div_no_nan f (fin s m e) nan a b z = absurd (subst T (sym b) tt)
div_no_nan f (fin s m e) (inf t) a b z = absurd (subst T (sym b) tt)
div_no_nan f (fin s m e) (fin t n d) a b z = go (n == 0) (eqb→eq n 0)
  where
    nothing : n ≡ 0 → n * up d * 2 ^ low f / down d ≡ 0
    nothing e = ap (λ (k : ℕ). k * up d * 2 ^ low f / down d) e ∙ ap (λ (k : ℕ). k * 2 ^ low f / down d) (zero-mul (up d)) ∙ ap (λ (k : ℕ). k / down d) (zero-mul (2 ^ low f)) ∙ zero-div (down d)

    go : (c : Bool) → (T c → n ≡ 0) → T (not (is_nan (cond c (cond (m == 0) nan (inf (unlike s t))) (round f (unlike s t) (m * up e * down d) (n * up d * down e)))))
    go true h = absurd (z (nothing (h tt)))
    go false h = round_no_nan f (unlike s t) (m * up e * down d) (n * up d * down e)
