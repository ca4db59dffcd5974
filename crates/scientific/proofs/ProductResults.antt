-- Products of two numbers. The exact product is the product of the significands with the zeros of both behind it, less the seventy
-- of 1. With fewer than seventy it is below the lower limit, unless a factor is zero. What the rounding leaves is a number, since
-- the significands of the factors have at most d digits each, followed by zeros.
use Rattle.std.proofs.Common.{◌≡◌, ℕ, ◌+◌, ◌-◌, ◌*◌, ◌^◌, ◌<◌, ◌≤◌, ℤ, pos, ◌*ℤ◌, nat_abs, Some, None, Option, sym, refl, ap, ◌∙◌, subst, inl, le_of_lt, sub-add_cancel, mul-pos, arith, lit≤, w32, w64, to_z, of_z}
use mathlib.Core.Option.{none, some}
use lib.IntN.{zero-*ℤ}
use Rattle.std.proofs.lemmas.Int.{ints}
use Rattle.integers.proofs.Integers.{abs_mul}
use Rattle.integers.proofs.Naturals.{product_less}
use Rattle.rounding.specs.Digits.{Digits}
use Rattle.rounding.specs.Radix.{rounded}
use Rattle.rounding.proofs.Rounded.{rounds}
use Rattle.rounding.proofs.Parts.{product_part}
use Rattle.arithmetic.specs.Meaning.{Number}
use Rattle.arithmetic.specs.Operations.{product_split}
use Rattle.arithmetic.specs.Setting.{split_valued, GivesBoth}
use Rattle.arithmetic.proofs.Answers.{product_split_not}
use Rattle.scientific.specs.declared.number.Scientific.{Scientific}
use Rattle.scientific.specs.declared.precision.Precision.{Precision}
use Rattle.scientific.specs.Forms.{with_zeros}
use Rattle.scientific.specs.Numbers.{units}
use Rattle.scientific.specs.Patterns.{meaning}
use Rattle.scientific.specs.Splits.{SplitInLimits, rounded_to, error}
use Rattle.scientific.proofs.Tens.{ten, some_ten, joined}
use Rattle.scientific.proofs.Casts.{short, widened, in_64, zero_is, not_zero}
use Rattle.scientific.proofs.Values.{size_with, with_more, with_product}
use Rattle.scientific.proofs.ErrorPart.{digits_off, size_error}
use Rattle.scientific.proofs.Meanings.{digits_of, product_small, product_no, product_split_nil, product_rounding, product_within, split_numbers}

short_of : (a b : Scientific) → nat_abs (a.significand *ℤ b.significand) < 10 ^ 16
short_of a b = rw (abs_mul a.significand b.significand) (product_less (nat_abs a.significand) (nat_abs b.significand) (10 ^ 8) (short a) (short b))

module _ (p : Precision) (a b : Scientific) where
  abbrev d : ℕ
  d = p.digits

  one : 1 ≤ d
  one = omega (arith, p.least)

  -- the product of the significands
  abbrev n : ℤ
  n = a.significand *ℤ b.significand

  short_product : nat_abs n < 10 ^ 16
  short_product = short_of a b

  whole : units a *ℤ units b ≡ with_zeros n (a.zeros + b.zeros)
  whole = with_product a.significand b.significand a.zeros b.zeros

  -- without the zeros of 1, k are left
  pub exact : (k : ℕ) → k + 70 ≡ a.zeros + b.zeros → units a *ℤ units b ≡ with_zeros n k *ℤ pos (10 ^ 70)
  exact k l = whole ∙ sym (with_more n k 70 (a.zeros + b.zeros) l)

  -- ---- zero
  pub nil : n ≡ pos 0 → product_split (meaning d) (units a) (units b) ≡ some (record { main = pos 0; error = pos 0 })
  nil e = sym (product_split_nil d one (units a) (units b) (whole ∙ ap (λ (z : ℤ). with_zeros z (a.zeros + b.zeros)) e ∙ zero-*ℤ (pos (10 ^ (a.zeros + b.zeros)))))

  -- ---- neither factor is zero
  module _ (h : n ≡ pos 0 → ⊥) where
    not_zero_product : nat_abs (units a *ℤ units b) ≡ 0 → ⊥
    not_zero_product e = clash (mul-pos (above n h) (some_ten (a.zeros + b.zeros))) (sym (size_with n (a.zeros + b.zeros)) ∙ sym (ap nat_abs whole) ∙ e)
      where
        above : (z : ℤ) → (z ≡ pos 0 → ⊥) → 0 < nat_abs z
        above z h = omega (arith, ints)

        clash : {x : ℕ} → 0 < x → x ≡ 0 → ⊥
        clash h e = omega arith

    tiny : a.zeros + b.zeros < 70 → product_split (meaning d) (units a) (units b) ≡ none
    tiny l = sym (product_split_not (meaning d) (units a) (units b) (product_no d one (units a) (units b) _ (ap (λ (z : ℤ). (meaning d).rounding z ((meaning d).Q * (meaning d).Q)) whole) not_zero_product (inl (product_small d one n (a.zeros + b.zeros) short_product (le_of_lt l)))))

  -- ---- the error part is a number
  pub part : Number (meaning d) (units a) → Number (meaning d) (units b) → (k : ℕ) → Digits 10 d (nat_abs (error d (with_zeros n k)))
  part na nb k = rw (size_error d (with_zeros n k) one, size_with n k, abs_mul a.significand b.significand)
      (product_part 10 d ten one z (rounded 10 d z 1) (ha.m * hb.m) (ha.e + hb.e + k) (rounds 10 d ten one z 1 (lit≤ tt)) (regroup ∙ ap (λ (x : ℕ). ha.m * hb.m * x) (powers)) (product_less ha.m hb.m (10 ^ d) ha.few hb.few))
    where
      own : (c : Scientific) → Number (meaning d) (units c) → Digits 10 d (nat_abs c.significand)
      own c nc = digits_off d (nat_abs c.significand) c.zeros (subst (Digits 10 d) (size_with c.significand c.zeros) (digits_of d one (units c) nc))

      ha : Digits 10 d (nat_abs a.significand)
      ha = own a na

      hb : Digits 10 d (nat_abs b.significand)
      hb = own b nb

      z : ℕ
      z = nat_abs a.significand * nat_abs b.significand * 10 ^ k

      powers : 10 ^ ha.e * 10 ^ hb.e * 10 ^ k ≡ 10 ^ (ha.e + hb.e + k)
      powers = ap (λ (x : ℕ). x * 10 ^ k) (joined ha.e hb.e (ha.e + hb.e) refl) ∙ joined (ha.e + hb.e) k (ha.e + hb.e + k) refl

      regroup : nat_abs a.significand * nat_abs b.significand * 10 ^ k ≡ ha.m * hb.m * (10 ^ ha.e * 10 ^ hb.e * 10 ^ k)
      regroup = ap (λ (s : ℕ). s * nat_abs b.significand * 10 ^ k) ha.is ∙ ap (λ (t : ℕ). ha.m * 10 ^ ha.e * t * 10 ^ k) hb.is ∙ parts ha.m (10 ^ ha.e) hb.m (10 ^ hb.e) (10 ^ k)
        where
          parts : (m x n y k : ℕ) → m * x * (n * y) * k ≡ m * n * (x * y * k)
          parts m x n y k = omega arith

-- ---- by what z, the exact product in units, is rounded to
outcome : (p : Precision) (a b : Scientific) (z : ℤ) → (a.significand *ℤ b.significand ≡ pos 0 → ⊥) → units a *ℤ units b ≡ z *ℤ pos (10 ^ 70) → (r : Option (Scientific × Scientific)) → SplitInLimits p.digits z r → product_split (meaning p.digits) (units a) (units b) ≡ split_valued units r
outcome p a b z h e (Some q) f = sym (product_within p.digits (one p a b) (units a) (units b) z e q (f.0, f.1) (rw f.0 f.2))
outcome p a b z h e None f = sym (product_split_not (meaning p.digits) (units a) (units b) (product_no p.digits (one p a b) (units a) (units b) (rounded_to p.digits z) (product_rounding p.digits (one p a b) (units a) (units b) z e) (not_zero_product p a b h) f))

numbers : (p : Precision) (z : ℤ) → Digits 10 p.digits (nat_abs (error p.digits z)) → (r : Option (Scientific × Scientific)) → SplitInLimits p.digits z r → GivesBoth (meaning p.digits) units r
numbers p z h (Some q) f = split_numbers p.digits (omega (arith, p.least)) z h q (f.0, f.1)
numbers p z h None f = tt

-- ---- the answers: n is the product of the significands as the machine has it, and k its zeros
module _ (p : Precision) (a b : Scientific) (n : ℤ) (is : n ≡ a.significand *ℤ b.significand) (small : nat_abs n < 4611686018427387904) where
  kept : to_z w64 (of_z w64 n) ≡ a.significand *ℤ b.significand
  kept = in_64 n (omega (arith, small)) ∙ is

  pub zero_answer : of_z w64 n ≡ 0 → product_split (meaning p.digits) (units a) (units b) ≡ some (record { main = pos 0; error = pos 0 })
  zero_answer h = nil p a b (sym is ∙ zero_is n (omega (arith, small)) h)

  pub tiny_answer : (of_z w64 n ≡ 0 → ⊥) → a.zeros + b.zeros < 70 → product_split (meaning p.digits) (units a) (units b) ≡ none
  tiny_answer h l = tiny p a b (λ e. not_zero n h (is ∙ e)) l

  module _ (k : ℕ) (some_zeros : 70 ≤ a.zeros + b.zeros) (k_is : k ≡ a.zeros + b.zeros - 70) where
    pub part_digits : Number (meaning p.digits) (units a) → Number (meaning p.digits) (units b) → Digits 10 p.digits (nat_abs (error p.digits (with_zeros (to_z w64 (of_z w64 n)) k)))
    part_digits na nb = rw kept (part p a b na nb k)

    exact_k : units a *ℤ units b ≡ with_zeros (a.significand *ℤ b.significand) k *ℤ pos (10 ^ 70)
    exact_k = exact p a b k (rw k_is (sub-add_cancel some_zeros))

    pub answer : (of_z w64 n ≡ 0 → ⊥) → (r : Option (Scientific × Scientific)) → SplitInLimits p.digits (with_zeros (to_z w64 (of_z w64 n)) k) r → product_split (meaning p.digits) (units a) (units b) ≡ split_valued units r
    answer h r f = outcome p a b (with_zeros (a.significand *ℤ b.significand) k) (λ e. not_zero n h (is ∙ e)) exact_k r (rw kept at f)

    pub answer_numbers : Number (meaning p.digits) (units a) → Number (meaning p.digits) (units b) → (r : Option (Scientific × Scientific)) → SplitInLimits p.digits (with_zeros (to_z w64 (of_z w64 n)) k) r → GivesBoth (meaning p.digits) units r
    answer_numbers na nb r f = numbers p (with_zeros (to_z w64 (of_z w64 n)) k) (part_digits na nb) r f

-- the product of the significands, as the machine has it
pub short_significands : (a b : Scientific) → nat_abs (to_z w64 (of_z w64 (to_z w64 (of_z w64 (to_z w32 (of_z w32 a.significand))) *ℤ to_z w64 (of_z w64 (to_z w32 (of_z w32 b.significand)))))) < 4611686018427387904
short_significands a b = rw (widened a, widened b) (less (a.significand *ℤ b.significand) (short_of a b))
  where
    less : (z : ℤ) → nat_abs z < 10 ^ 16 → nat_abs (to_z w64 (of_z w64 z)) < 4611686018427387904
    less z h = omega (arith, ints)
