-- Comparisons of floats: with zero, of two floats, and with the limits of size.
use Rattle.std.proofs.Common.{◌≡◌, ℕ, zero, suc, ◌*◌, ◌^◌, ◌<◌, Bool, true, false, not, ◌&&◌, ◌||◌, T, eqb, ltb, leb, ℤ, pos, negsuc, nat_abs, sym, refl, ap, ◌∙◌, subst, lt_irrefl, mul-pos, zero-mul, mul-one, arith, eqb→eq, pow_pos}
use mathlib.Core.Bool.{beq}
use lib.Signed.{lt_z, le_z}
use lib.Ieee.{Float, nan, inf, fin, Format, binary64, low, up, down, fits, eq, le, level, of_bits}
use lib.Ieee.Fits.{down_pos}
use lib.Ieee.Scale.{finite}
use Rattle.std.proofs.lemmas.Bool.Decides.{nat_tests}
use Rattle.integers.proofs.Tests.{leb_yes, leb_no, eqb_no}
use Rattle.rounding.specs.Value.{value, magnitude}
use Rattle.rounding.proofs.Floats.{Held, own}
use Rattle.rounding.proofs.Compare.{le_value}
use Rattle.arithmetic.specs.Operations.{in_limits}
use Rattle.binary64.specs.Limits.{reach, least, Small, InRange}
use Rattle.binary64.specs.Patterns.{meaning}
use Rattle.binary64.specs.Means.{held, abs_value, at_most, at_least, large_of}
use Rattle.binary64.specs.TheMeans.{means}
use Rattle.binary64.specs.Written.{nil_is}

-- ---- zero
level_zero : (s : Bool) (x y M L E : ℕ) → y ≡ 0 → x * L ≡ M * E → 0 < L → 0 < E → level s x false y ≡ eqb M 0
level_zero s zero y M L E q h l k = ap (level s 0 false) q ∙ yes s ∙ sym (ap (λ (n : ℕ). eqb n 0) (gone M (sym (zero-mul L) ∙ h)))
  where
    yes : (s : Bool) → level s 0 false 0 ≡ true
    yes true = refl
    yes false = refl

    gone : (M : ℕ) → 0 ≡ M * E → M ≡ 0
    gone zero e = refl
    gone (suc M) e = absurd (lt_irrefl 0 (subst (λ (n : ℕ). 0 < n) (sym e) (mul-pos {m = suc M} {n = E} (omega arith) k)))
level_zero s (suc x) y M L E q h l k =
    ap (level s (suc x) false) q ∙ ap (λ (t : Bool). t && (beq s false || eqb (suc x) 0)) (eqb_no (suc x) 0 (λ e. absurd (omega arith)))
    ∙ sym (eqb_no M 0 (λ e. lt_irrefl 0 (subst (λ (n : ℕ). 0 < n) (h ∙ ap (λ (n : ℕ). n * E) e ∙ zero-mul E) (mul-pos {m = suc x} {n = L} (omega arith) l))))

eq_zero_at : (f : Format) (x : Float) → Held f x → eq x (fin false 0 (pos 0)) ≡ eqb (magnitude f x) 0
unfolding eq
eq_zero_at f nan h = absurd h.1
eq_zero_at f (inf s) h = absurd h.1
eq_zero_at f (fin s m e) h = level_zero s (m * up e * 1) (0 * 1 * down e) (magnitude f (fin s m e)) (2 ^ low f) (down e) (ap (λ (n : ℕ). n * down e) (zero-mul 1) ∙ zero-mul (down e)) (ap (λ (n : ℕ). n * 2 ^ low f) (mul-one (m * up e)) ∙ own f s m e h.0) (pow_pos (low f)) (down_pos e)

eq_zero : (x : Float) → Held binary64 x → eq x (of_bits binary64 0) ≡ eqb (magnitude binary64 x) 0
eq_zero x h = ap (eq x) nil_is ∙ eq_zero_at binary64 x h

pub zero_yes : (x : Float) → T (fits binary64 x) → finite x ≡ true → eq x (of_bits binary64 0) ≡ true → magnitude binary64 x ≡ 0
zero_yes x f n e = eqb→eq (magnitude binary64 x) 0 (subst T (sym (sym (eq_zero x (held binary64 x f n)) ∙ e)) tt)

pub zero_no : (x : Float) → T (fits binary64 x) → finite x ≡ true → eq x (of_bits binary64 0) ≡ false → magnitude binary64 x ≡ 0 → ⊥
zero_no x f n e z = subst T (sym (ap (λ (k : ℕ). eqb k 0) z) ∙ sym (eq_zero x (held binary64 x f n)) ∙ e) tt

-- ---- two floats, as their values
turn : (a b : ℕ) → not (ltb b a) ≡ leb a b
turn a b = grind (arith, nat_tests)

order : (a b : ℤ) → not (lt_z b a) ≡ le_z a b
order (pos a) (pos b) = turn a b
order (pos a) (negsuc b) = refl
order (negsuc a) (pos b) = refl
order (negsuc a) (negsuc b) = turn b a

pub le_is : (x y : Float) → T (fits binary64 x) → finite x ≡ true → T (fits binary64 y) → finite y ≡ true → le x y ≡ le_z (value binary64 x) (value binary64 y)
le_is x y fx nx fy ny = le_value binary64 x y (held binary64 x fx nx) (held binary64 y fy ny) ∙ order (value binary64 x) (value binary64 y)

-- ---- the limits
abbrev tested : ℕ → Bool
tested n = leb meaning.low n && leb n meaning.high

pub limits_in : (x : Float) → InRange x → in_limits meaning (value binary64 x) ≡ true
limits_in x (n, s, l) =
    ap (λ (t : Bool). eqb (nat_abs (value binary64 x)) 0 || (t && leb (nat_abs (value binary64 x)) meaning.high)) (leb_yes meaning.low (nat_abs (value binary64 x)) (at_least binary64 least reach meaning means x l))
    ∙ ap (λ (t : Bool). eqb (nat_abs (value binary64 x)) 0 || t) (leb_yes (nat_abs (value binary64 x)) meaning.high (at_most binary64 least reach meaning means x s)) ∙ always (eqb (nat_abs (value binary64 x)) 0)
  where
    always : (b : Bool) → b || true ≡ true
    always true = refl
    always false = refl

pub limits_zero : (x : Float) → magnitude binary64 x ≡ 0 → in_limits meaning (value binary64 x) ≡ true
limits_zero x e = ap (λ (k : ℕ). eqb k 0 || tested k) (abs_value binary64 x ∙ e)

pub limits_out : (x : Float) → finite x ≡ true → Small x → (magnitude binary64 x ≡ 0 → ⊥) → (InRange x → ⊥) → in_limits meaning (value binary64 x) ≡ false
limits_out x n s z h =
    ap (λ (t : Bool). t || tested (nat_abs (value binary64 x))) (eqb_no (nat_abs (value binary64 x)) 0 (λ e. z (sym (abs_value binary64 x) ∙ e)))
    ∙ ap (λ (t : Bool). t && leb (nat_abs (value binary64 x)) meaning.high) (leb_no meaning.low (nat_abs (value binary64 x)) (λ l. h (n, s, large_of binary64 least reach meaning means x l)))

pub ruleset limits = (limits_in, limits_zero, limits_out)
