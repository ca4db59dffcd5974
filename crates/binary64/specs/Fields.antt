-- Bit patterns by their fields. A pattern whose exponent's field is not all ones is a finite float of the value that the fields
-- say; so the tests of the bits without the sign decide how it is admitted.
use Rattle.std.specs.Prelude.{◌≡◌, ℕ, zero, suc, ◌+◌, ◌-◌, ◌*◌, ◌%◌, ◌^◌, ◌<◌, ◌≤◌, Bool, true, false, cond, not, T, ℤ, pos, ◌==◌, ◌≢◌, nat_eq, nat_le, nat_lt, to_bits, unsigned_abs, refl, Float}
use Rattle.std.proofs.Common.{sym, ap, ◌∙◌, subst, arith, leb→le, eqb→eq}
use Rattle.std.proofs.Math.Arith.{le→nltb}
use Rattle.std.specs.Float.{nan, inf, fin, binary64}
use Rattle.std.specs.Float.Ieee.{odd, of_fields, of_bits, nan_bits}
use Rattle.std.specs.Float.Ieee.Bits.{nan_bits_above, nan_bits_is, of_bits-fits, of_bits-to_bits, to_bits-of_bits, to_bits-lt}
use Rattle.std.specs.Float.Ieee.Exact.{HasValue, odd_sign}
use Rattle.std.specs.Float.Ieee.Scale.{finite}
use Rattle.integers.proofs.Tests.{leb_yes, leb_no, eqb_no, ltb_yes, ltb_no, taken, passed}
use Rattle.rounding.specs.Value.{signed, value, magnitude}
use Rattle.rounding.proofs.Floats.{value_is}
use Rattle.arithmetic.specs.Meaning.{Admission, number, not_admitted, Number}
use Rattle.binary64.specs.Limits.{reach}
use Rattle.binary64.specs.Patterns.{meaning, negative, exponent, fraction, significand, size, admission, reads}
use Rattle.binary64.specs.Means.{Fine, size_signed, abs_value}
use Rattle.binary64.specs.TheMeans.{is_number}
use Rattle.binary64.specs.BitLimits.{sign_bit, high_pattern, infinity_pattern, high_in, high_out}

-- ---- the fields
fields_value : (s : Bool) (x t : ℕ) → (x ≢ 2047) → HasValue (of_fields binary64 s x t) s (cond (x == 0) t (2 ^ 52 + t) * 2 ^ (x - 1)) (2 ^ 1074)
unfolding of_fields
fields_value s zero t h = odd_sign 53 s t 0 1074
fields_value s (suc x) t h =
    subst (λ (b : Bool). HasValue (cond b (cond (t == 0) (inf s) nan) (odd 53 s (2 ^ 52 + t) x 1074)) s (cond (suc x == 0) t (2 ^ 52 + t) * 2 ^ (suc x - 1)) (2 ^ 1074)) (sym (eqb_no (suc x) 2047 h))
    (subst (λ (b : Bool). HasValue (odd 53 s (2 ^ 52 + t) x 1074) s (cond b t (2 ^ 52 + t) * 2 ^ (suc x - 1)) (2 ^ 1074)) (sym (eqb_no (suc x) 0 (λ e. absurd (omega arith))))
    (subst (λ (k : ℕ). HasValue (odd 53 s (2 ^ 52 + t) x 1074) s ((2 ^ 52 + t) * 2 ^ k) (2 ^ 1074)) (less x) (odd_sign 53 s (2 ^ 52 + t) x 1074)))
  where
    less : (x : ℕ) → x ≡ suc x - 1
    less x = omega arith

pub bits_value : (b : ℕ) → (exponent b ≢ 2047) → HasValue (of_bits binary64 b) (negative b) (size b) (2 ^ 1074)
unfolding of_bits size significand
bits_value b h = fields_value (negative b) (exponent b) (fraction b) h

pub value_by_fields : (b : ℕ) → (exponent b ≢ 2047) → value binary64 (of_bits binary64 b) ≡ signed (negative b) (size b)
value_by_fields b h = value_is binary64 (of_bits binary64 b) (negative b) (size b) (bits_value b h)

has_finite : (x : Float) (s : Bool) (a c : ℕ) → HasValue x s a c → finite x ≡ true
has_finite nan s a c h = absurd h
has_finite (inf t) s a c h = absurd h
has_finite (fin t m e) s a c h = refl

finite_by_fields : (b : ℕ) → (exponent b ≢ 2047) → finite (of_bits binary64 b) ≡ true
finite_by_fields b h = has_finite (of_bits binary64 b) (negative b) (size b) (2 ^ 1074) (bits_value b h)

pub size_by_fields : (b : ℕ) → (exponent b ≢ 2047) → magnitude binary64 (of_bits binary64 b) ≡ size b
size_by_fields b h = sym (abs_value binary64 (of_bits binary64 b)) ∙ ap unsigned_abs (value_by_fields b h) ∙ size_signed (negative b) (size b)

-- ---- admission
abbrev inside : Admission → ℤ
inside (number z) = z
inside (not_admitted c) = pos 0

abbrev SomeNumber : Admission → Type 0
SomeNumber (number z) = Unit {0}
SomeNumber (not_admitted c) = ⊥

admission_yes : (b : ℕ) → (exponent b ≢ 2047) → size b ≤ 2 ^ reach → admission b ≡ number (value binary64 (of_bits binary64 b))
unfolding admission
admission_yes b h s =
    ap (λ (t : Bool). cond t (not_admitted 1) (cond (nat_le (size b) (2 ^ reach)) (number (signed (negative b) (size b))) (not_admitted 2))) (eqb_no (exponent b) 2047 h)
    ∙ ap (λ (t : Bool). cond t (number (signed (negative b) (size b))) (not_admitted 2)) (leb_yes (size b) (2 ^ reach) s)
    ∙ ap number (sym (value_by_fields b h))

admission_large : (b : ℕ) → (exponent b ≢ 2047) → (size b ≤ 2 ^ reach → ⊥) → admission b ≡ not_admitted 2
unfolding admission
admission_large b h s =
    ap (λ (t : Bool). cond t (not_admitted 1) (cond (nat_le (size b) (2 ^ reach)) (number (signed (negative b) (size b))) (not_admitted 2))) (eqb_no (exponent b) 2047 h)
    ∙ ap (λ (t : Bool). cond t (number (signed (negative b) (size b))) (not_admitted 2)) (leb_no (size b) (2 ^ reach) s)

admission_infinite : (b : ℕ) → exponent b ≡ 2047 → admission b ≡ not_admitted 1
unfolding admission
admission_infinite b e = ap (λ (x : ℕ). cond (x == 2047) (not_admitted 1) (cond (nat_le (size b) (2 ^ reach)) (number (signed (negative b) (size b))) (not_admitted 2))) e

-- what is admitted is finite, small, and the value of the bits
pub record Admitted (b : ℕ) (a : ℤ) : Type 0 where
  pub finite_field : exponent b ≢ 2047
  pub small : size b ≤ 2 ^ reach
  pub is : value binary64 (of_bits binary64 b) ≡ a

pub admitted_by : (b : ℕ) (a : ℤ) → admission b ≡ number a → Admitted b a
admitted_by b a e = go (exponent b == 2047) (nat_le (size b) (2 ^ reach)) refl refl
  where
    other : nat_eq (exponent b) 2047 ≡ false → exponent b ≢ 2047
    other p h = subst T (sym (ap (λ (x : ℕ). nat_eq x 2047) h) ∙ p) tt

    go : (t u : Bool) → (exponent b == 2047) ≡ t → nat_le (size b) (2 ^ reach) ≡ u → Admitted b a
    go true u p q = absurd (subst SomeNumber (sym e ∙ admission_infinite b (eqb→eq (exponent b) 2047 (subst T (sym p) tt))) tt)
    go false true p q =
        let s = leb→le (size b) (2 ^ reach) (subst T (sym q) tt) in
        record { finite_field = other p; small = s; is = ap inside (sym (admission_yes b (other p) s) ∙ e) }
    go false false p q = absurd (subst SomeNumber (sym e ∙ admission_large b (other p) (λ s. subst T (sym (leb_yes (size b) (2 ^ reach) s) ∙ q) tt)) tt)

-- what is admitted is a number
pub admission_number : (b : ℕ) (a : ℤ) → admission b ≡ number a → Number meaning a
admission_number b a e =
    let t = admitted_by b a e in
    subst (Number meaning) t.is
    (is_number (of_bits binary64 b) (of_bits-fits binary64 b, finite_by_fields b t.finite_field, subst (λ (n : ℕ). n ≤ 2 ^ reach) (sym (size_by_fields b t.finite_field)) t.small))

-- ---- by the bits without the sign
not_ones : (b : ℕ) → b % sign_bit < infinity_pattern → exponent b ≢ 2047
not_ones b h e = absurd (omega arith)

pub no_nan_bits : (b : ℕ) → b % sign_bit < infinity_pattern → T (not (nan_bits binary64 b))
no_nan_bits b h = subst (λ (x : Bool). T (not x)) (sym (nan_bits_above binary64 b)) (le→nltb infinity_pattern (b % sign_bit) (omega arith))

module _ (b : ℕ) (w : b < 18446744073709551616) where
  pub own_bits : b % sign_bit < infinity_pattern → to_bits binary64 (of_bits binary64 b) ≡ b
  own_bits h = to_bits-of_bits binary64 b w (subst (λ (x : Bool). T (not x)) (nan_bits_is binary64 b) (no_nan_bits b h))

  pub bits_fine : b % sign_bit ≤ high_pattern → Fine binary64 reach (of_bits binary64 b)
  bits_fine h =
      let l : b % sign_bit < infinity_pattern = omega arith in
      let n = subst (λ (x : Bool). T (not x)) (nan_bits_is binary64 b) (no_nan_bits b l) in
      let t = high_out (of_bits binary64 b) (of_bits-fits binary64 b) n (subst (λ (x : ℕ). x % sign_bit ≤ high_pattern) (sym (own_bits l)) h) in
      (of_bits-fits binary64 b, t.0, t.1)

  pub bits_yes : b % sign_bit ≤ high_pattern → number (value binary64 (of_bits binary64 b)) ≡ admission b
  bits_yes h =
      let o = not_ones b (omega arith) in
      sym (admission_yes b o (subst (λ (n : ℕ). n ≤ 2 ^ reach) (size_by_fields b o) (bits_fine h).2))

  pub bits_large : high_pattern < b % sign_bit → b % sign_bit < infinity_pattern → not_admitted 2 ≡ admission b
  bits_large g h =
      let o = not_ones b h in
      sym (admission_large b o (λ s. past (subst (λ (x : ℕ). x % sign_bit ≤ high_pattern) (own_bits h) (high_in (of_bits binary64 b) (of_bits-fits binary64 b) (finite_by_fields b o) (subst (λ (n : ℕ). n ≤ 2 ^ reach) (sym (size_by_fields b o)) s)))))
    where
      past : b % sign_bit ≤ high_pattern → ⊥
      past k = omega arith

pub bits_infinite : (b : ℕ) → infinity_pattern ≤ b % sign_bit → not_admitted 1 ≡ admission b
bits_infinite b h = sym (admission_infinite b (omega arith))

-- ---- reading
module _ (b : ℕ) (w : b < 18446744073709551616) where
  reads_inside : inside (admission b) ≡ reads b
  unfolding reads
  reads_inside = agree (admission b) ∙ sym (taken (nat_lt b (2 ^ 64)) (elim (admission b) [ number z ↦ z | not_admitted c ↦ pos 0 ]) (pos 0) (ltb_yes b (2 ^ 64) w))
    where
      agree : (a : Admission) → inside a ≡ elim a [ number z ↦ z | not_admitted c ↦ pos 0 ]
      agree (number z) = refl
      agree (not_admitted c) = refl

  pub reads_number : (z : ℤ) → number z ≡ admission b → z ≡ reads b
  reads_number z e = ap inside e ∙ reads_inside

  pub reads_none : (c : ℕ) → not_admitted c ≡ admission b → pos 0 ≡ reads b
  reads_none c e = ap inside e ∙ reads_inside

pub reads_longer : (b : ℕ) → 18446744073709551616 ≤ b → reads b ≡ pos 0
unfolding reads
reads_longer b l = passed (nat_lt b (2 ^ 64)) (elim (admission b) [ number z ↦ z | not_admitted c ↦ pos 0 ]) (pos 0) (ltb_no b (2 ^ 64) l)

-- the bits of a float that is a number are admitted as that number
pub own_admission : (x : Float) → Fine binary64 reach x → number (value binary64 x) ≡ admission (to_bits binary64 x)
own_admission x (f, n, s) = ap (λ (y : Float). number (value binary64 y)) (sym (of_bits-to_bits binary64 x f)) ∙ bits_yes (to_bits binary64 x) (to_bits-lt binary64 x f) (high_in x f n s)
