-- The one pattern of a number. `float_of z` is the float of z units, zero without a sign. A float of any sign plus zero is that
-- float, its bits are those that the definition writes, and they are admitted as z.
use Rattle.std.specs.Prelude.{◌≡◌, ℕ, zero, suc, ◌+◌, ◌-◌, ◌*◌, ◌/◌, ◌^◌, ◌<◌, ◌≤◌, Bool, true, false, cond, not, ◌&&◌, T, ℤ, pos, negsuc, ◌+ℤ◌, neg_ℤ, nat_lt, to_bits, unsigned_abs, refl, Float}
use Rattle.std.proofs.Common.{sym, ap, ◌∙◌, subst, zero-le, le_trans, zero-add, mul-pos, mul-one, zero-mul, lt_irrefl, mul_comm, arith, lit<, ltb→lt, lt→ltb, nltb→le, pow_pos, pow_mono}
use Rattle.std.proofs.Math.Nat.{pow-succ'}
use Rattle.std.specs.Float.{nan, inf, fin, binary64}
use Rattle.std.specs.Float.Ieee.{low, up, down, top, add, fits, of_bits, sum, round, size}
use Rattle.std.specs.Float.Ieee.Bits.{of_bits-fits, to_bits-lt}
use Rattle.std.specs.Float.Ieee.Digits.{size-le}
use Rattle.std.specs.Float.Ieee.Exact.{HasValue}
use Rattle.std.specs.Float.Ieee.Fits.{down_pos, add-fits, round-fits}
use Rattle.std.specs.Float.Ieee.Scale.{finite, round_same, grid}
use Rattle.std.proofs.lemmas.Int.{ints}
use Rattle.rounding.specs.Radix.{exponent}
use Rattle.rounding.specs.Value.{signed, value, magnitude}
use Rattle.rounding.proofs.Model.{rounding}
use Rattle.rounding.proofs.Floats.{Held, own, value_rep, round_val, round_under}
use Rattle.rounding.proofs.FloatRounding.{Rounds, add_rounds, round_rounds}
use Rattle.rounding.proofs.Fixed.{fixed}
use Rattle.arithmetic.specs.Meaning.{number, Number}
use Rattle.binary64.specs.Limits.{reach, least}
use Rattle.binary64.specs.Patterns.{meaning, admission, reads, unsigned, written, joined, bytes}
use Rattle.binary64.specs.Means.{Fine, Rounded, held, true_of, abs_value, rounds_sum, over_rounded, small_of, at_most}
use Rattle.binary64.specs.SumAnswers.{sum_finite}
use Rattle.binary64.specs.TheMeans.{means}
use Rattle.binary64.specs.BitOrder.{code, size_gt}
use Rattle.binary64.specs.BitLimits.{bits_of}
use Rattle.binary64.specs.Fields.{own_admission, reads_number}

unfoldable float_of : ℤ → Float
float_of (pos n) = round binary64 false n (2 ^ low binary64)
float_of (negsuc n) = round binary64 true (suc n) (2 ^ low binary64)

-- ---- a float plus zero
ltb_no : (a b : ℕ) → (a < b → ⊥) → nat_lt a b ≡ false
ltb_no a b h = go (nat_lt a b) (ltb→lt a b)
  where
    go : (t : Bool) → (T t → a < b) → t ≡ false
    go true f = absurd (h (f tt))
    go false f = refl

float_negative : (M : ℕ) → float_of (neg_ℤ (pos (suc M))) ≡ round binary64 true (suc M) (2 ^ low binary64)
unfolding float_of
float_negative M = refl

float_positive : (M : ℕ) → float_of (pos M) ≡ round binary64 false M (2 ^ low binary64)
unfolding float_of
float_positive M = refl

plus_at : (s : Bool) (A B C M : ℕ) → B ≡ 0 → 0 < C → A * 2 ^ low binary64 ≡ M * C → sum binary64 s A false B C ≡ float_of (signed s M)
unfolding sum
plus_at false A B C M b c h =
    ap (λ (n : ℕ). round binary64 false (A + n) C) b ∙ round_same binary64 false (A + 0) C M (2 ^ low binary64) c (pow_pos (low binary64)) (ap (λ (n : ℕ). n * 2 ^ low binary64) (plus_nil A) ∙ h) ∙ sym (float_positive M)
  where
    plus_nil : (n : ℕ) → n + 0 ≡ n
    plus_nil n = omega arith
plus_at true A B C M b c h =
    ap (λ (n : ℕ). cond (nat_lt A n) (round binary64 false (n - A) C) (round binary64 (true && nat_lt n A) (A - n) C)) b
    ∙ ap (λ (t : Bool). cond t (round binary64 false (0 - A) C) (round binary64 (true && nat_lt 0 A) (A - 0) C)) (ltb_no A 0 (λ l. absurd (omega arith)))
    ∙ ap (λ (n : ℕ). round binary64 (nat_lt 0 A) n C) (minus_nil A)
    ∙ go M refl
  where
    minus_nil : (n : ℕ) → n - 0 ≡ n
    minus_nil n = omega arith

    zero_A : (A : ℕ) → A * 2 ^ low binary64 ≡ 0 → A ≡ 0
    zero_A zero e = refl
    zero_A (suc A) e = absurd (lt_irrefl 0 (subst (λ (n : ℕ). 0 < n) e (mul-pos {m = suc A} {n = 2 ^ low binary64} (omega arith) (pow_pos (low binary64)))))

    go : (N : ℕ) → M ≡ N → round binary64 (nat_lt 0 A) A C ≡ float_of (signed true M)
    go zero e =
        let z : A ≡ 0 = zero_A A (h ∙ ap (λ (n : ℕ). n * C) e ∙ zero-mul C) in
        ap (λ (n : ℕ). round binary64 (nat_lt 0 n) n C) z ∙ round_same binary64 false 0 C 0 (2 ^ low binary64) c (pow_pos (low binary64)) (zero-mul (2 ^ low binary64) ∙ sym (zero-mul C)) ∙ sym (float_positive 0) ∙ ap (λ (n : ℕ). float_of (signed true n)) (sym e)
    go (suc N) e =
        ap (λ (t : Bool). round binary64 t A C) (true_of (nat_lt 0 A) (lt→ltb 0 A (some A (h ∙ ap (λ (n : ℕ). n * C) e))))
        ∙ round_same binary64 true A C (suc N) (2 ^ low binary64) c (pow_pos (low binary64)) (h ∙ ap (λ (n : ℕ). n * C) e) ∙ sym (float_negative N) ∙ ap (λ (n : ℕ). float_of (signed true n)) (sym e)
      where
        some : (A : ℕ) → A * 2 ^ low binary64 ≡ suc N * C → 0 < A
        some zero q = absurd (lt_irrefl 0 (subst (λ (n : ℕ). 0 < n) (sym (sym (zero-mul (2 ^ low binary64)) ∙ q)) (mul-pos {m = suc N} {n = C} (omega arith) c)))
        some (suc A) q = omega arith

plus_zero : (x : Float) → Held binary64 x → add binary64 x (fin false 0 (pos 0)) ≡ float_of (value binary64 x)
unfolding add value
plus_zero nan h = absurd h.1
plus_zero (inf s) h = absurd h.1
plus_zero (fin s m e) h =
    plus_at s (m * up e * 1) (0 * 1 * down e) (down e * 1) (magnitude binary64 (fin s m e)) (ap (λ (n : ℕ). n * down e) (zero-mul 1) ∙ zero-mul (down e)) (mul-pos (down_pos e) (lit< tt))
    (ap (λ (n : ℕ). n * 2 ^ low binary64) (mul-one (m * up e)) ∙ own binary64 s m e h.0 ∙ ap (λ (n : ℕ). magnitude binary64 (fin s m e) * n) (sym (mul-one (down e))))

pub nil_is : of_bits binary64 0 ≡ fin false 0 (pos 0)
unfolding of_bits
nil_is = refl

nil_fine : Fine binary64 reach (of_bits binary64 0)
unfolding of_bits magnitude
nil_fine = (of_bits-fits binary64 0, refl, zero-le)

pub nil_value : value binary64 (of_bits binary64 0) ≡ pos 0
unfolding of_bits value magnitude
nil_value = refl

-- ---- the bits of float_of z
-- the exponent of the definition is the number of digits that are dropped
exponent_size : (p tries n : ℕ) → n < 2 ^ (p + tries) → exponent 2 tries n (2 ^ p) ≡ size n - p
unfolding exponent
exponent_size p zero n h = none (size n) (size-le n p (subst (λ (k : ℕ). n < 2 ^ k) (plus_nil p) h))
  where
    plus_nil : (k : ℕ) → k + 0 ≡ k
    plus_nil k = omega arith

    none : (z : ℕ) → z ≤ p → 0 ≡ z - p
    none z l = omega arith
exponent_size p (suc tries) n h = go (nat_lt n (2 ^ p)) refl (exponent_size (suc p) tries n (subst (λ (k : ℕ). n < 2 ^ k) over h))
  where
    none : (z : ℕ) → z ≤ p → 0 ≡ z - p
    none z l = omega arith

    next : (z : ℕ) → p < z → suc (z - suc p) ≡ z - p
    next z l = omega arith

    over : p + suc tries ≡ suc p + tries
    over = omega arith

    go : (t : Bool) → nat_lt n (2 ^ p) ≡ t → exponent 2 tries n (2 ^ suc p) ≡ size n - suc p → elim t [ true ↦ 0 | false ↦ suc (exponent 2 tries n (2 ^ p * 2)) ] ≡ size n - p
    go true e i = none (size n) (size-le n p (ltb→lt n (2 ^ p) (subst T (sym e) tt)))
    go false e i =
        ap (λ (x : ℕ). suc (exponent 2 tries n x)) (mul_comm (2 ^ p) 2 ∙ sym (pow-succ' 2 p)) ∙ ap suc i
        ∙ next (size n) (size_gt n p (nltb→le n (2 ^ p) (subst (λ (b : Bool). T (not b)) (sym e) tt)))

below_power : (n : ℕ) → n < 2 ^ n
below_power zero = lit< tt
below_power (suc n) = subst (λ (x : ℕ). suc n < x) (sym (pow-succ' 2 n)) (double (2 ^ n) (below_power n))
  where
    double : (x : ℕ) → n < x → suc n < 2 * x
    double x h = omega arith

pub unsigned_is : (n : ℕ) → unsigned n ≡ code 53 n
unfolding unsigned
unsigned_is n = ap (λ (e : ℕ). e * 2 ^ 52 + n / 2 ^ e) (exponent_size 53 n n (le_trans (below_power n) (pow_mono {i = n} {j = 53 + n} (omega arith))))

pub bits_signed : (x : Float) (s : Bool) (g c : ℕ) → HasValue x s g c → to_bits binary64 x ≡ cond s (top binary64) 0 + code 53 (magnitude binary64 x)
bits_signed nan s g c h = absurd h
bits_signed (inf t) s g c h = absurd h
bits_signed (fin t m e) s g c h =
    bits_of t t m e ∙ ap (λ (b : Bool). cond b (top binary64) 0 + (size (magnitude binary64 (fin t m e)) - 53) * 2 ^ 52 + magnitude binary64 (fin t m e) / 2 ^ (size (magnitude binary64 (fin t m e)) - 53)) h.0
    ∙ regroup (cond s (top binary64) 0) _ _
  where
    regroup : (a b c : ℕ) → a + b + c ≡ a + (b + c)
    regroup a b c = omega arith

bits_round : (s : Bool) (n : ℕ) → let x = round binary64 s n (2 ^ low binary64) in finite x ≡ true → magnitude binary64 x ≡ n → to_bits binary64 x ≡ cond s (top binary64) 0 + unsigned n
bits_round s n f v =
    let x = round binary64 s n (2 ^ low binary64) in
    bits_signed x s (grid binary64 n (2 ^ low binary64)) (2 ^ low binary64) (round_val binary64 s n (2 ^ low binary64) (round_under binary64 s n (2 ^ low binary64) (subst T (sym f) tt)))
    ∙ ap (λ (k : ℕ). cond s (top binary64) 0 + code 53 k) v ∙ ap (λ (k : ℕ). cond s (top binary64) 0 + k) (sym (unsigned_is n))

written_is : (z : ℤ) → finite (float_of z) ≡ true → value binary64 (float_of z) ≡ z → to_bits binary64 (float_of z) ≡ written z
unfolding float_of written
written_is (pos n) f v = bits_round false n f (sym (abs_value binary64 (round binary64 false n (2 ^ low binary64))) ∙ ap unsigned_abs v) ∙ zero-add (unsigned n)
written_is (negsuc n) f v = bits_round true (suc n) f (sym (abs_value binary64 (round binary64 true (suc n) (2 ^ low binary64))) ∙ ap unsigned_abs v)

-- ---- a float that is a number, plus zero
module _ (x : Float) (X : Fine binary64 reach x) where
  abbrev sum_zero : Float
  sum_zero = add binary64 x (of_bits binary64 0)

  sum_fits : T (fits binary64 sum_zero)
  sum_fits = add-fits binary64 x (of_bits binary64 0)

  plain_is : sum_zero ≡ float_of (value binary64 x)
  plain_is = ap (add binary64 x) nil_is ∙ plus_zero x (held binary64 x X.0 X.1)

  pub plain_finite : finite sum_zero ≡ true
  plain_finite = sum_finite binary64 least reach meaning means x (of_bits binary64 0) X nil_fine

  plain_value : value binary64 sum_zero ≡ value binary64 x
  plain_value =
      (add_rounds binary64 x (of_bits binary64 0) (held binary64 x X.0 X.1) (held binary64 (of_bits binary64 0) nil_fine.0 nil_fine.1)).0 (subst T (sym plain_finite) tt)
      ∙ ap (λ (z : ℤ). rounding 53 (value binary64 x +ℤ z) 1) nil_value ∙ ap (λ (z : ℤ). rounding 53 z 1) (plus_nothing (value binary64 x)) ∙ fixed 52 (value binary64 x) (value_rep binary64 x (held binary64 x X.0 X.1))
    where
      plus_nothing : (z : ℤ) → z +ℤ pos 0 ≡ z
      plus_nothing z = omega (arith, ints)

  pub plain_written : to_bits binary64 sum_zero ≡ written (value binary64 x)
  plain_written = ap (to_bits binary64) plain_is ∙ written_is (value binary64 x) (ap finite (sym plain_is) ∙ plain_finite) (ap (value binary64) (sym plain_is) ∙ plain_value)

  pub plain_back : reads (to_bits binary64 sum_zero) ≡ value binary64 x
  plain_back =
      sym (reads_number (to_bits binary64 sum_zero) (to_bits-lt binary64 sum_zero sum_fits) (value binary64 sum_zero) (own_admission sum_zero
      (sum_fits, plain_finite, small_of binary64 least reach meaning means sum_zero (subst (λ (z : ℤ). unsigned_abs z ≤ meaning.high) (sym plain_value) (at_most binary64 least reach meaning means x X.2)))))
      ∙ plain_value

-- ---- the pattern of any number
float_rounds : (z : ℤ) → Rounds binary64 (rounding 53 z 1) (float_of z)
unfolding float_of
float_rounds (pos n) = round_rounds binary64 false n (2 ^ low binary64) n 1 (pow_pos (low binary64)) (lit< tt) (mul-one (n * 2 ^ low binary64))
float_rounds (negsuc n) = round_rounds binary64 true (suc n) (2 ^ low binary64) (suc n) 1 (pow_pos (low binary64)) (lit< tt) (mul-one (suc n * 2 ^ low binary64))

float_fits : (z : ℤ) → T (fits binary64 (float_of z))
unfolding float_of
float_fits (pos n) = round-fits binary64 false n (2 ^ low binary64)
float_fits (negsuc n) = round-fits binary64 true (suc n) (2 ^ low binary64)

joined_bytes : (b : ℕ) → b < 18446744073709551616 → joined (bytes b) ≡ b
joined_bytes b h = omega arith

module _ (z : ℤ) (N : Number meaning z) where
  unchanged : rounding 53 z 1 ≡ z
  unchanged = sym (rounds_sum binary64 least reach meaning means z) ∙ N.unchanged

  rounded : Rounded binary64 least reach meaning means (rounding 53 z 1) (float_of z)
  rounded = over_rounded binary64 least reach meaning means (rounding 53 z 1) (float_of z) (float_rounds z)

  float_finite : finite (float_of z) ≡ true
  float_finite = go (finite (float_of z)) refl
    where
      go : (t : Bool) → finite (float_of z) ≡ t → finite (float_of z) ≡ true
      go true e = e
      go false e = absurd (rounded.over (subst (λ (b : Bool). T (not b)) (sym e) tt) (subst (λ (y : ℤ). unsigned_abs y ≤ 2 ^ reach) (sym unchanged) (subst (λ (n : ℕ). unsigned_abs z ≤ n) means.upper N.bounded)))

  float_value : value binary64 (float_of z) ≡ z
  float_value = rounded.exact (subst T (sym float_finite) tt) ∙ unchanged

  float_written : to_bits binary64 (float_of z) ≡ written z
  float_written = written_is z float_finite float_value

  float_fine : Fine binary64 reach (float_of z)
  float_fine = (float_fits z, float_finite, small_of binary64 least reach meaning means (float_of z) (subst (λ (y : ℤ). unsigned_abs y ≤ meaning.high) (sym float_value) N.bounded))

  pub written_admitted : admission (joined (bytes (written z))) ≡ number z
  written_admitted =
      ap admission (joined_bytes (written z) (subst (λ (b : ℕ). b < 18446744073709551616) float_written (to_bits-lt binary64 (float_of z) (float_fits z))) ∙ sym float_written)
      ∙ sym (own_admission (float_of z) float_fine) ∙ ap number float_value
