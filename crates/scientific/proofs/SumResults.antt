-- Sums of two numbers a and b, where a has at least as many zeros behind it. Within ten zeros the exact sum, without the zeros of b,
-- is rounded, and these zeros stand behind both parts. Farther apart, a has eight digits and absorbs b.
use Rattle.std.proofs.Common.{◌≡◌, ℕ, suc, ◌+◌, ◌-◌, ◌^◌, ◌<◌, ◌≤◌, ℤ, pos, negsuc, ◌+ℤ◌, ◌-ℤ◌, ◌*ℤ◌, neg_ℤ, nat_abs, Some, Option, sym, ap, ◌∙◌, subst, ⊎_elim, lt_of_le_of_lt, le_of_lt, mul-le-mul, mul-one, arith, lit<, lit≤, w32, w64, SFits, to_z, of_z}
use Rattle.std.proofs.lemmas.Int.{ints}
use Rattle.integers.proofs.Ring.{ring, at, ◌⊕◌, ⊖◌}
use Rattle.rounding.specs.Digits.{Digits}
use Rattle.rounding.specs.Radix.{rounded, rounding}
use Rattle.rounding.proofs.Signs.{odd}
use mathlib.Core.Option.{some}
use Rattle.arithmetic.specs.Meaning.{Number}
use Rattle.arithmetic.specs.Operations.{sum_split}
use Rattle.arithmetic.specs.Setting.{split_valued, GivesBoth}
use Rattle.scientific.specs.declared.number.Scientific.{Scientific}
use Rattle.scientific.specs.declared.precision.Precision.{Precision}
use Rattle.scientific.specs.Forms.{size_of, with_zeros}
use Rattle.scientific.specs.Numbers.{units}
use Rattle.scientific.specs.Patterns.{meaning}
use Rattle.scientific.specs.Splits.{SplitFormed, rounded_to, error}
use Rattle.scientific.proofs.Casts.{wide, in_64, power_is, short, widened}
use Rattle.scientific.proofs.Tens.{ten, tens}
use Rattle.scientific.proofs.Limits.{full_is}
use Rattle.scientific.proofs.Values.{size_with, with_sum, with_more}
use Rattle.scientific.proofs.Absorbed.{absorbs_more, absorbs_less, no_more}
use Rattle.scientific.proofs.Meanings.{digits_of, sum_part, sum_split_answer, sum_split_numbers}

-- ---- within ten zeros
pub near : (a b : Scientific) (gap : ℕ) → gap + b.zeros ≡ a.zeros → with_zeros (with_zeros a.significand gap +ℤ b.significand) b.zeros ≡ units a +ℤ units b
near a b gap e = with_sum (with_zeros a.significand gap) b.significand b.zeros ∙ ap (λ (z : ℤ). z +ℤ units b) (with_more a.significand gap b.zeros a.zeros e)

-- ---- farther apart
module _ (d : ℕ) (P : 1 ≤ d) where
  of_pos : (m : ℕ) → rounded_to d (pos m) ≡ pos (rounded 10 d m 1)
  unfolding rounding
  of_pos m = ap (λ (x : ℕ). pos (rounded 10 d x 1)) (mul-one m)

  of_neg : (m : ℕ) → rounded_to d (neg_ℤ (pos m)) ≡ neg_ℤ (pos (rounded 10 d m 1))
  of_neg m = odd 10 d 1 ten P (lit≤ tt) (pos m) 1 (lit≤ tt) ∙ ap neg_ℤ (of_pos m)

  -- what sizes absorb, numbers do
  absorbed : (x y : ℤ) → nat_abs y ≤ nat_abs x → rounded 10 d (nat_abs x + nat_abs y) 1 ≡ nat_abs x → rounded 10 d (nat_abs x - nat_abs y) 1 ≡ nat_abs x → rounded_to d (x +ℤ y) ≡ x
  absorbed (pos a) (pos b) l more less = of_pos (a + b) ∙ ap pos more
  absorbed (pos a) (negsuc b) l more less = ap (rounded_to d) (plain a (suc b) l) ∙ of_pos (a - suc b) ∙ ap pos less
    where
      plain : (a b : ℕ) → b ≤ a → pos a +ℤ neg_ℤ (pos b) ≡ pos (a - b)
      plain a b l = omega (arith, ints)
  absorbed (negsuc a) (pos b) l more less = ap (rounded_to d) (plain (suc a) b l) ∙ of_neg (suc a - b) ∙ ap (λ (x : ℕ). neg_ℤ (pos x)) less
    where
      plain : (a b : ℕ) → b ≤ a → neg_ℤ (pos a) +ℤ pos b ≡ neg_ℤ (pos (a - b))
      plain a b l = omega (arith, ints)
  absorbed (negsuc a) (negsuc b) l more less = ap (rounded_to d) (plain (suc a) (suc b)) ∙ of_neg (suc a + suc b) ∙ ap (λ (x : ℕ). neg_ℤ (pos x)) more
    where
      plain : (a b : ℕ) → neg_ℤ (pos a) +ℤ neg_ℤ (pos b) ≡ neg_ℤ (pos (a + b))
      plain a b = omega (arith, ints)

pub far : (p : Precision) (a b : Scientific) → Number (meaning p.digits) (units a) → 10 < a.zeros - b.zeros → SplitFormed p.digits (units a +ℤ units b) (Some (a, b))
far p a b na h = (sym main, ring (at (units b)) ((at (units a) ⊕ at (units b)) ⊕ (⊖ at (units a))) (omega arith) ∙ ap (λ (z : ℤ). (units a +ℤ units b) -ℤ z) (sym main))
  where
    P : 1 ≤ p.digits
    P = omega (arith, p.least)

    number : Digits 10 p.digits (size_of (nat_abs a.significand) a.zeros)
    number = subst (Digits 10 p.digits) (size_with a.significand a.zeros) (digits_of p.digits P (units a) na)

    long : 10 ^ 7 ≤ nat_abs a.significand
    long = ⊎_elim (λ e. absurd (omega arith)) (λ h. h) (full_is (nat_abs a.significand) a.zeros a.full).1

    short : nat_abs b.significand < 10 ^ 8
    short = (full_is (nat_abs b.significand) b.zeros b.full).0

    apart : b.zeros + 10 < a.zeros
    apart = omega arith

    main : rounded_to p.digits (units a +ℤ units b) ≡ units a
    main = absorbed p.digits P (units a) (units b)
        (rw (size_with a.significand a.zeros, size_with b.significand b.zeros) (no_more p.digits (nat_abs a.significand) a.zeros (nat_abs b.significand) b.zeros P p.most number long short apart))
        (rw (size_with a.significand a.zeros, size_with b.significand b.zeros) (absorbs_more p.digits (nat_abs a.significand) a.zeros (nat_abs b.significand) b.zeros P p.most number long short apart))
        (rw (size_with a.significand a.zeros, size_with b.significand b.zeros) (absorbs_less p.digits (nat_abs a.significand) a.zeros (nat_abs b.significand) b.zeros P p.most number long short apart))

-- ---- the answers
pub far_answer : (p : Precision) (a b : Scientific) → Number (meaning p.digits) (units a) → 10 < a.zeros - b.zeros → sum_split (meaning p.digits) (units a) (units b) ≡ some (record { main = units a; error = units b })
far_answer p a b na h = sym (sum_split_answer p.digits (omega (arith, p.least)) (units a) (units b) (Some (a, b)) (far p a b na h))

pub near_answer : (p : Precision) (a b : Scientific) (r : Option (Scientific × Scientific)) → SplitFormed p.digits (units a +ℤ units b) r → sum_split (meaning p.digits) (units a) (units b) ≡ split_valued units r
near_answer p a b r f = sym (sum_split_answer p.digits (omega (arith, p.least)) (units a) (units b) r f)

pub near_part : (p : Precision) (a b : Scientific) → Number (meaning p.digits) (units a) → Number (meaning p.digits) (units b) → Digits 10 p.digits (nat_abs (error p.digits (units a +ℤ units b)))
near_part p a b na nb = sum_part p.digits (omega (arith, p.least)) (units a) (units b) na nb

pub near_numbers : (p : Precision) (a b : Scientific) (r : Option (Scientific × Scientific)) → Number (meaning p.digits) (units a) → Number (meaning p.digits) (units b) → SplitFormed p.digits (units a +ℤ units b) r → GivesBoth (meaning p.digits) units r
near_numbers p a b r na nb f = sum_split_numbers p.digits (omega (arith, p.least)) (units a) (units b) r na nb f

-- ---- the exact sum as the machine has it: x is the power of ten that was read
module _ (a : Scientific) (gap x : ℕ) (g : gap ≤ 10) (e : x ≡ 10 ^ gap) where
  product : to_z w64 (of_z w64 (to_z w32 (of_z w32 a.significand))) *ℤ to_z w64 x ≡ with_zeros a.significand gap
  product = rw (widened a, power_is x gap e (omega arith))

  room : nat_abs (with_zeros a.significand gap) ≤ 10 ^ 18
  room = rw (size_with a.significand gap) (mul-le-mul (le_of_lt (short a)) (tens gap 10 g))

  pub product_fits : SFits w64 (to_z w64 (of_z w64 (to_z w32 (of_z w32 a.significand))) *ℤ to_z w64 x)
  product_fits = rw product (wide (with_zeros a.significand gap) (lt_of_le_of_lt room (lit< tt)))

  held : to_z w64 (of_z w64 (to_z w64 (of_z w64 (to_z w32 (of_z w32 a.significand))) *ℤ to_z w64 x)) ≡ with_zeros a.significand gap
  held = rw product (in_64 (with_zeros a.significand gap) (lt_of_le_of_lt room (lit< tt)))

  pub product_is : with_zeros a.significand gap ≡ to_z w64 (of_z w64 (to_z w64 (of_z w64 (to_z w32 (of_z w32 a.significand))) *ℤ to_z w64 x))
  product_is = sym held

  pub product_small : nat_abs (to_z w64 (of_z w64 (to_z w64 (of_z w64 (to_z w32 (of_z w32 a.significand))) *ℤ to_z w64 x))) ≤ 1000000000000000000
  product_small = rw held room

pub near_sum : (a b : Scientific) (gap : ℕ) (r : ℤ) → r ≡ with_zeros a.significand gap → nat_abs r ≤ 1000000000000000000 → gap + b.zeros ≡ a.zeros
    → with_zeros (to_z w64 (of_z w64 (to_z w64 (of_z w64 r) +ℤ to_z w64 (of_z w64 (to_z w32 (of_z w32 b.significand)))))) b.zeros ≡ units a +ℤ units b
near_sum a b gap r e small h = rw (held r b.significand small (short b)) (ap (λ (y : ℤ). with_zeros (y +ℤ b.significand) b.zeros) e ∙ near a b gap h)
  where
    held : (r s : ℤ) → nat_abs r ≤ 1000000000000000000 → nat_abs s < 10 ^ 8 → to_z w64 (of_z w64 (to_z w64 (of_z w64 r) +ℤ to_z w64 (of_z w64 (to_z w32 (of_z w32 s))))) ≡ r +ℤ s
    held r s k l = omega (arith, ints)
