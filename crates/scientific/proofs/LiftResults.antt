-- A lift by g: with u the units of roundoff in 1, the significand times u is divided by u − g and rounded, and the zeros stand behind.
-- That is the rounding of the whole, since where zeros stand behind it the significand has eight digits and the quotient d or
-- more.
use Rattle.std.proofs.Common.{◌≡◌, ℕ, ◌+◌, ◌-◌, ◌*◌, ◌^◌, ◌<◌, ◌≤◌, ◌⊎◌, ℤ, pos, ◌*ℤ◌, nat_abs, Some, None, Option, sym, refl, ap, ◌∙◌, inl, inr, ⊎_elim, le_trans, le_of_lt, lt_of_le_of_lt, mul_comm, mul-le-mul, mul-le-mul_right, arith, lit<, w32, w64, SFits, to_z, of_z}
use mathlib.Core.Option.{none, some}
use lib.IntN.{zero-*ℤ}
use Rattle.integers.proofs.Integers.{abs_mul}
use Rattle.std.proofs.lemmas.Int.{ints}
use Rattle.rounding.specs.Digits.{Digits}
use Rattle.rounding.specs.Radix.{rounding}
use Rattle.arithmetic.specs.Operations.{lift}
use Rattle.arithmetic.specs.Setting.{valued, Gives}
use Rattle.scientific.specs.declared.number.Scientific.{Scientific}
use Rattle.scientific.specs.declared.precision.Precision.{Precision}
use Rattle.scientific.specs.Forms.{with_zeros, lowest, highest}
use Rattle.scientific.specs.Numbers.{units, FormedInLimits}
use Rattle.scientific.specs.Patterns.{meaning}
use Rattle.rounding.proofs.Numbers.{digits_from}
use Rattle.scientific.proofs.NumberOf.{number_of}
use Rattle.scientific.proofs.Tens.{ten, tens}
use Rattle.scientific.proofs.Limits.{full_is}
use Rattle.scientific.proofs.Casts.{in_digits, wide, in_64, short, widened, zero_narrow}
use Rattle.scientific.proofs.ErrorPart.{short_digits}
use Rattle.scientific.proofs.Values.{size_with, with_more}
use Rattle.scientific.proofs.CutDigits.{some_size}
use Rattle.scientific.proofs.Meanings.{bounded, lift_rounding, lift_yes, lift_no, lift_nil}

module _ (p : Precision) (a : Scientific) (g : ℕ) (l : g ≤ 192) where
  abbrev d : ℕ
  d = p.digits

  one : 1 ≤ d
  one = omega (arith, p.least)

  abbrev u : ℕ
  u = 2 * 10 ^ (d - 1)

  left : 0 < u - g
  left = plain (10 ^ (d - 1)) (tens 3 (d - 1) (omega (arith, p.least)))
    where
      plain : (x : ℕ) → 10 ^ 3 ≤ x → 0 < 2 * x - g
      plain x h = omega arith

  full : (a.zeros ≡ 0) ⊎ ((u - g) * 10 ^ (d - 1) ≤ nat_abs (a.significand *ℤ pos u))
  full = ⊎_elim inl (λ h. inr (rw (abs_mul a.significand (pos u)) (wide (nat_abs a.significand) u (10 ^ (d - 1)) h (tens (d - 1) 7 (omega (arith, p.most)))))) (full_is (nat_abs a.significand) a.zeros a.full).1
    where
      wide : (s v x : ℕ) → 10 ^ 7 ≤ s → x ≤ 10 ^ 7 → (v - g) * x ≤ s * v
      wide s v x h k = let less : v - g ≤ v = omega arith in rw (mul_comm s v) (mul-le-mul less (le_trans k h))

  nil : a.significand ≡ pos 0 → some (units a) ≡ lift (meaning d) (units a) g
  nil e = lift_nil d one (units a) g left (ap (λ (s : ℤ). with_zeros s a.zeros) e ∙ zero-*ℤ (pos (10 ^ a.zeros)))

  -- m with z zeros is what the code rounds to, and v the units of roundoff that it works with
  module _ (h : a.significand ≡ pos 0 → ⊥) (m : ℤ) (z v : ℕ) (e : v ≡ 2 * 10 ^ (d - 1)) (f : with_zeros m z ≡ rounding 10 d 1 (a.significand *ℤ pos v) (v - g)) where
    rounds_to : with_zeros m (z + a.zeros) ≡ (meaning d).rounding (units a *ℤ pos (meaning d).U) ((meaning d).Q * ((meaning d).U - g))
    rounds_to = sym (with_more m z a.zeros (z + a.zeros) (omega arith)) ∙ ap (λ (x : ℤ). with_zeros x a.zeros) (f ∙ ap (λ (x : ℕ). rounding 10 d 1 (a.significand *ℤ pos x) (x - g)) e)
        ∙ sym (lift_rounding d one a.significand a.zeros g left full)

    not_zero : nat_abs (units a) ≡ 0 → ⊥
    not_zero = some_size a.significand a.zeros h

    outside : (nat_abs (with_zeros m (z + a.zeros)) < lowest) ⊎ (highest < nat_abs (with_zeros m (z + a.zeros))) → none ≡ lift (meaning d) (units a) g
    outside o = lift_no d one (units a) g left _ (sym rounds_to) not_zero o

    within : (x : Scientific) → units x ≡ with_zeros m (z + a.zeros) → lowest ≤ nat_abs (units x) → some (units x) ≡ lift (meaning d) (units a) g
    within x q o = lift_yes d one (units a) g left x (q ∙ rounds_to) o

-- ---- as the machine has it: v are the units of roundoff in 1
module _ (a : Scientific) (v : ℕ) (few : v ≤ 20000000) where
  is : to_z w64 (of_z w64 (to_z w32 (of_z w32 a.significand))) *ℤ to_z w64 v ≡ a.significand *ℤ pos v
  is = rw (widened a, plain v few)
    where
      plain : (v : ℕ) → v ≤ 20000000 → to_z w64 v ≡ pos v
      plain v h = omega (arith, ints)

  room : nat_abs (a.significand *ℤ pos v) < 2 ^ 62
  room = rw (abs_mul a.significand (pos v)) (lt_of_le_of_lt (mul-le-mul (le_of_lt (short a)) few) (lit< tt))

  pub product_fits : SFits w64 (to_z w64 (of_z w64 (to_z w32 (of_z w32 a.significand))) *ℤ to_z w64 v)
  product_fits = rw is (wide (a.significand *ℤ pos v) (omega (arith, room)))

  held : to_z w64 (of_z w64 (to_z w64 (of_z w64 (to_z w32 (of_z w32 a.significand))) *ℤ to_z w64 v)) ≡ a.significand *ℤ pos v
  held = rw is (in_64 (a.significand *ℤ pos v) (omega (arith, room)))

  pub product_small : nat_abs (to_z w64 (of_z w64 (to_z w64 (of_z w64 (to_z w32 (of_z w32 a.significand))) *ℤ to_z w64 v))) < 4611686018427387904
  product_small = rw held room

pub short_eight : (p : Precision) (s : ℤ) → nat_abs s ≤ 10 ^ p.digits → Digits 10 8 (nat_abs (to_z w64 (of_z w64 s)))
short_eight p s h = rw (in_digits p s h) (short_digits p.digits (nat_abs s) p.most h)

pub zero_answer : (p : Precision) (a : Scientific) (g : ℕ) → g ≤ 192 → of_z w32 a.significand ≡ 0 → lift (meaning p.digits) (units a) g ≡ some (units a)
zero_answer p a g l h = sym (nil p a g l (zero_narrow a.significand (short a) h))

module _ (p : Precision) (a : Scientific) (g : ℕ) (l : g ≤ 192) (h : of_z w32 a.significand ≡ 0 → ⊥) (m : ℤ) (z v : ℕ) (few : v ≤ 20000000) (e : v ≡ 2 * 10 ^ (p.digits - 1)) (size : nat_abs m ≤ 10 ^ p.digits)
    (f : with_zeros m z ≡ rounding 10 p.digits 1 (to_z w64 (of_z w64 (to_z w64 (of_z w64 (to_z w32 (of_z w32 a.significand))) *ℤ to_z w64 v))) (v - g)) where
  some_digits : a.significand ≡ pos 0 → ⊥
  some_digits q = h (ap (of_z w32) q)

  exact : with_zeros m z ≡ rounding 10 p.digits 1 (a.significand *ℤ pos v) (v - g)
  exact = f ∙ ap (λ (x : ℤ). rounding 10 p.digits 1 x (v - g)) (held a v few)

  outcome : (r : Option Scientific) → FormedInLimits (with_zeros m (z + a.zeros)) r → lift (meaning p.digits) (units a) g ≡ valued units r
  outcome (Some x) q = sym (within p a g l some_digits m z v e exact x q.0 (rw q.0 q.1))
  outcome None o = sym (outside p a g l some_digits m z v e exact o)

  pub answer : (r : Option Scientific) → FormedInLimits (with_zeros (to_z w64 (of_z w64 m)) (z + a.zeros)) r → lift (meaning p.digits) (units a) g ≡ valued units r
  answer r q = outcome r (rw (in_digits p m size) at q)

-- a significand of at most d digits, or 10^d, with zeros behind it is a number
pub answer_number : (p : Precision) (m : ℤ) (k : ℕ) → nat_abs m ≤ 10 ^ p.digits → (r : Option Scientific) → FormedInLimits (with_zeros (to_z w64 (of_z w64 m)) k) r → Gives (meaning p.digits) units r
answer_number p m k h None q = tt
answer_number p m k h (Some x) q = number_of p.digits (units x) one (rw (q.0, in_digits p m h, size_with m k) digits) (bounded x)
  where
    one : 1 ≤ p.digits
    one = omega (arith, p.least)

    digits : Digits 10 p.digits (nat_abs m * 10 ^ k)
    digits = digits_from 10 p.digits ten one (nat_abs m * 10 ^ k) k (record { times = nat_abs m; is = refl }) (mul-le-mul_right (10 ^ k) h)
