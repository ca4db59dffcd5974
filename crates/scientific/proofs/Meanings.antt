-- The arithmetic of d digits by its definition: what its rounding gives for the exact results that the code works out, what its
-- numbers are, and the answers of its operations. Only here and in the rules is the meaning unfolded.
use Rattle.std.proofs.Common.{◌≡◌, ℕ, ◌-◌, ◌*◌, ◌^◌, ◌<◌, ◌≤◌, ◌⊎◌, ℤ, pos, ◌+ℤ◌, ◌-ℤ◌, ◌*ℤ◌, nat_abs, Some, None, Option, sym, refl, ap, ◌∙◌, subst, inl, inr, lt_of_lt_of_le, lt_of_le_of_lt, le_of_lt, lt_irrefl, mul-le-mul_right, mul-le-mul, mul-pos, mul-one, arith, lit<, lit≤}
use mathlib.Core.Option.{none, some}
use lib.IntN.{+ℤ_comm, zero-*ℤ}
use lib.Signed.{quot_z}
use Rattle.integers.proofs.Ring.{ring, at, num, ◌⊕◌, ◌⊗◌, ⊖◌}
use Rattle.integers.proofs.Integers.{quot_exact, times_times}
use Rattle.rounding.specs.Digits.{Digits}
use Rattle.rounding.specs.Radix.{rounded, rounding}
use Rattle.rounding.proofs.Numbers.{digits_zero}
use Rattle.rounding.proofs.Rounded.{rounds, rounds_mono, stays}
use Rattle.rounding.proofs.Signs.{abs_rounding}
use Rattle.arithmetic.specs.Meaning.{Meaning, Number}
use Rattle.arithmetic.specs.Operations.{sum, sum_split, product, product_split, product_error, lift, not_above, with_error, sum_error}
use Rattle.arithmetic.specs.Setting.{valued, split_valued, GivesBoth}
use Rattle.arithmetic.proofs.Answers.{sum_is, sum_not, sum_split_is, sum_split_not, product_is, product_not, product_zero, lift_is, lift_not, lift_zero}
use Rattle.scientific.specs.declared.number.Scientific.{Scientific}
use Rattle.scientific.specs.Forms.{size_of, with_zeros, lowest, highest}
use Rattle.scientific.specs.Numbers.{units, Formed}
use Rattle.scientific.specs.Splits.{SplitFormed, rounded_to, error}
use Rattle.scientific.specs.Patterns.{meaning}
use Rattle.scientific.proofs.Tens.{ten, tens, some_ten}
use Rattle.scientific.proofs.Limits.{small_is}
use Rattle.scientific.proofs.Values.{size_with}
use Rattle.scientific.proofs.Shifted.{rescaled, fraction_behind}
use Rattle.scientific.proofs.NumberOf.{law, number_of}

-- ---- sums the other way round
sum_turned : (m : Meaning) (a b : ℤ) → sum m a b ≡ sum m b a
unfolding sum
sum_turned m a b = ap (λ (z : ℤ). not_above m (m.rounding z m.Q)) (+ℤ_comm a b)

pub split_turned : (m : Meaning) (a b : ℤ) → sum_split m a b ≡ sum_split m b a
unfolding sum_split
split_turned m a b = ap (λ (z : ℤ). with_error (λ (r : ℤ). z -ℤ r) (sum m a b)) (+ℤ_comm a b) ∙ ap (with_error (sum_error b a)) (sum_turned m a b)

pub bounded : (x : Scientific) → nat_abs (units x) ≤ highest
bounded x = rw (size_with x.significand x.zeros) (small_is (nat_abs x.significand) x.zeros x.small)

-- ---- exact results with Q = 10^q, for any q
module _ (d q : ℕ) (P : 1 ≤ d) (Q : 1 ≤ 10 ^ q) where
  -- z units
  whole_is : (z : ℤ) → rounding 10 d (10 ^ q) z (10 ^ q) ≡ rounded_to d z
  whole_is z = rescaled d P (10 ^ q) Q z z (10 ^ q) 1 Q (lit≤ tt) (ap (λ (x : ℕ). z *ℤ pos x) (mul-one (10 ^ q)))

  -- a product that is z units
  product_is_whole : (y z : ℤ) → y ≡ z *ℤ pos (10 ^ q) → rounding 10 d (10 ^ q) y (10 ^ q * 10 ^ q) ≡ rounded_to d z
  product_is_whole y z e = rescaled d P (10 ^ q) Q y z (10 ^ q * 10 ^ q) 1 (mul-pos Q Q) (lit≤ tt) (ap (λ (x : ℕ). y *ℤ pos x) (mul-one (10 ^ q)) ∙ ap (λ (y : ℤ). y *ℤ pos (10 ^ q)) e ∙ times_times z (10 ^ q) (10 ^ q))

  -- fewer than q zeros: the product of significands, below 10^16, is at most 10^16 units
  product_is_small : (n : ℤ) (k : ℕ) → nat_abs n < 10 ^ 16 → k ≤ q → nat_abs (rounding 10 d (10 ^ q) (with_zeros n k) (10 ^ q * 10 ^ q)) ≤ 10 ^ 16
  product_is_small n k h l =
      rw (abs_rounding 10 d (10 ^ q) ten P Q (with_zeros n k) (10 ^ q * 10 ^ q), size_with n k)
      (subst (λ (x : ℕ). rounded 10 d (size_of m k * 10 ^ q) (10 ^ q * 10 ^ q) ≤ x) top
      (rounds_mono 10 d ten P (10 ^ 16) 1 (size_of m k * 10 ^ q) (10 ^ q * 10 ^ q) _ _ (lit≤ tt) (mul-pos Q Q) (wide (10 ^ q) (10 ^ k) (tens k q l)) (rounds 10 d ten P (10 ^ 16) 1 (lit≤ tt)) (rounds 10 d ten P (size_of m k * 10 ^ q) (10 ^ q * 10 ^ q) (mul-pos Q Q))))
    where
      m : ℕ
      m = nat_abs n

      top : rounded 10 d (10 ^ 16) 1 ≡ 10 ^ 16
      top = stays 10 d ten P 1 16 1 (lit≤ tt) (some_ten d)

      wide : (x y : ℕ) → y ≤ x → m * y * x * 1 ≤ 10 ^ 16 * (x * x)
      wide x y h' = omega (arith, mul-le-mul (le_of_lt h) (mul-le-mul_right x h'))

  -- the lift by g of s with k zeros: s · u / (u − g) is rounded, and the zeros stand behind, where s has eight digits or k is 0
  lift_is_fraction : (s : ℤ) (k u g : ℕ) → 0 < u - g → (k ≡ 0) ⊎ ((u - g) * 10 ^ (d - 1) ≤ nat_abs (s *ℤ pos u)) → rounding 10 d (10 ^ q) (with_zeros s k *ℤ pos u) (10 ^ q * (u - g)) ≡ with_zeros (rounding 10 d 1 (s *ℤ pos u) (u - g)) k
  lift_is_fraction s k u g h full =
      rescaled d P (10 ^ q) Q (with_zeros s k *ℤ pos u) (with_zeros (s *ℤ pos u) k) (10 ^ q * (u - g)) (u - g) (mul-pos Q h) h (regroup (10 ^ k) (10 ^ q * (u - g)))
      ∙ fraction_behind d P (s *ℤ pos u) (u - g) k h full
    where
      regroup : (x y : ℕ) → ((s *ℤ pos x) *ℤ pos u) *ℤ pos y ≡ ((s *ℤ pos u) *ℤ pos x) *ℤ pos y
      regroup x y = ring (((at s ⊗ num x) ⊗ num u) ⊗ num y) (((at s ⊗ num u) ⊗ num x) ⊗ num y) (omega arith)

-- ---- the meaning
module _ (d : ℕ) (P : 1 ≤ d) where
  -- ---- numbers
  pub digits_of : (a : ℤ) → Number (meaning d) a → Digits 10 d (nat_abs a)
  unfolding meaning
  digits_of a h = (law d P).what_stays a h.unchanged

  high_is : (meaning d).high ≡ highest
  unfolding meaning
  high_is = refl

  low_is : (meaning d).low ≡ lowest
  unfolding meaning
  low_is = refl

  pub bounded_units : (x : Scientific) → nat_abs (units x) ≤ (meaning d).high
  bounded_units x = rw high_is (bounded x)

  gives_digits : (z : ℤ) (D : ℕ) → 0 < D → Digits 10 d (nat_abs ((meaning d).rounding z D))
  unfolding meaning
  gives_digits z D h = (law d P).what_stays _ ((law d P).twice z D h)

  -- what is rounded is a number
  number_from : (x : Scientific) (z : ℤ) (D : ℕ) → 0 < D → units x ≡ (meaning d).rounding z D → Number (meaning d) (units x)
  number_from x z D h f = number_of d (units x) P (subst (λ (y : ℤ). Digits 10 d (nat_abs y)) (sym f) (gives_digits z D h)) (bounded x)

  pub scale : 0 < (meaning d).Q
  unfolding meaning
  scale = lit≤ tt

  scale_is : (meaning d).Q ≡ 10 ^ 70
  unfolding meaning
  scale_is = refl

  -- ---- sums
  sum_rounding : (z : ℤ) → (meaning d).rounding z (meaning d).Q ≡ rounded_to d z
  unfolding meaning
  sum_rounding z = whole_is d 70 P (lit≤ tt) z

  sum_answer : (a b : ℤ) (r : Option Scientific) → Formed ((meaning d).rounding (a +ℤ b) (meaning d).Q) r → valued units r ≡ sum (meaning d) a b
  sum_answer a b (Some x) f = sum_is (meaning d) a b (units x) (sym f) (bounded_units x)
  sum_answer a b None f = sum_not (meaning d) a b _ refl (λ l. lt_irrefl highest (lt_of_lt_of_le f (rw high_is at l)))

  -- the error part of a sum is a number
  pub sum_part : (a b : ℤ) → Number (meaning d) a → Number (meaning d) b → Digits 10 d (nat_abs (error d (a +ℤ b)))
  unfolding meaning
  sum_part a b na nb = rw (whole_is d 70 P (lit≤ tt) (a +ℤ b)) at ((law d P).sum_part a b (digits_of a na) (digits_of b nb))

  pub sum_split_answer : (a b : ℤ) (r : Option (Scientific × Scientific)) → SplitFormed d (a +ℤ b) r → split_valued units r ≡ sum_split (meaning d) a b
  sum_split_answer a b (Some p) f = sum_split_is (meaning d) a b (units p.0) (units p.1) (sum_answer a b (Some p.0) (f.0 ∙ sym (sum_rounding (a +ℤ b)))) (ap (λ (x : ℤ). x +ℤ units p.1) f.0 ∙ ap (λ (x : ℤ). rounded_to d (a +ℤ b) +ℤ x) f.1 ∙ whole (rounded_to d (a +ℤ b)) (a +ℤ b))
    where
      whole : (v z : ℤ) → v +ℤ (z -ℤ v) ≡ z
      whole v z = ring (at v ⊕ (at z ⊕ (⊖ at v))) (at z) (omega arith)
  sum_split_answer a b None f = sum_split_not (meaning d) a b (sum_answer a b None (subst (λ (z : ℤ). highest < nat_abs z) (sym (sum_rounding (a +ℤ b))) f))

  pub split_numbers : (z : ℤ) → Digits 10 d (nat_abs (error d z)) → (q : Scientific × Scientific) → SplitFormed d z (Some q) → Number (meaning d) (units q.0) × Number (meaning d) (units q.1)
  split_numbers z h q f = (number_from q.0 z (meaning d).Q scale (f.0 ∙ sym (sum_rounding z)), number_of d (units q.1) P (subst (λ (y : ℤ). Digits 10 d (nat_abs y)) (sym f.1) h) (bounded q.1))

  pub sum_split_numbers : (a b : ℤ) (r : Option (Scientific × Scientific)) → Number (meaning d) a → Number (meaning d) b → SplitFormed d (a +ℤ b) r → GivesBoth (meaning d) units r
  sum_split_numbers a b (Some p) na nb f = split_numbers (a +ℤ b) (sum_part a b na nb) p f
  sum_split_numbers a b None na nb f = tt

  -- ---- products and lifts: accepted from the lower limit on, refused below it and above the upper one
  out : (z : ℤ) → (nat_abs z < lowest) ⊎ (highest < nat_abs z) → (meaning d).low ≤ nat_abs z → nat_abs z ≤ (meaning d).high → ⊥
  out z (inl h) l u = lt_irrefl (nat_abs z) (lt_of_lt_of_le h (rw low_is at l))
  out z (inr h) l u = lt_irrefl highest (lt_of_lt_of_le h (rw high_is at u))

  nil : (D : ℕ) → 0 < D → (meaning d).rounding (pos 0) D ≡ pos 0
  unfolding meaning
  nil D h = (law d P).alike (pos 0) (pos 0) D (10 ^ 70) h (lit≤ tt) (none (10 ^ 70) D) ∙ (law d P).number_stays (pos 0) (digits_zero 10 d ten P)
    where
      none : (x y : ℕ) → pos (0 * x) ≡ pos (0 * y)
      none x y = ap pos (omega arith)

  pub product_rounding : (a b z : ℤ) → a *ℤ b ≡ z *ℤ pos (10 ^ 70) → (meaning d).rounding (a *ℤ b) ((meaning d).Q * (meaning d).Q) ≡ rounded_to d z
  unfolding meaning
  product_rounding a b z e = product_is_whole d 70 P (lit≤ tt) (a *ℤ b) z e

  pub product_small : (n : ℤ) (k : ℕ) → nat_abs n < 10 ^ 16 → k ≤ 70 → nat_abs ((meaning d).rounding (with_zeros n k) ((meaning d).Q * (meaning d).Q)) < lowest
  unfolding meaning lowest
  product_small n k h l = lt_of_le_of_lt (product_is_small d 70 P (lit≤ tt) n k h l) (lit< tt)

  pub product_no : (a b z : ℤ) → (meaning d).rounding (a *ℤ b) ((meaning d).Q * (meaning d).Q) ≡ z → (nat_abs (a *ℤ b) ≡ 0 → ⊥) → (nat_abs z < lowest) ⊎ (highest < nat_abs z) → none ≡ product (meaning d) a b
  product_no a b z e h o = product_not (meaning d) a b z e h (out z o)

  product_nil : (a b : ℤ) → a *ℤ b ≡ pos 0 → some (pos 0) ≡ product (meaning d) a b
  product_nil a b e = product_zero (meaning d) a b (pos 0) (ap (λ (z : ℤ). (meaning d).rounding z ((meaning d).Q * (meaning d).Q)) e ∙ nil ((meaning d).Q * (meaning d).Q) (mul-pos scale scale)) (ap nat_abs e)

  -- the error part is what makes the product exact
  product_split_yes : (a b v e : ℤ) → some v ≡ product (meaning d) a b → (v +ℤ e) *ℤ pos (meaning d).Q ≡ a *ℤ b → some (record { main = v; error = e }) ≡ product_split (meaning d) a b
  unfolding product_split product_error
  product_split_yes a b v e s h = ap (λ (x : ℤ). some (record { main = v; error = x })) (sym rest) ∙ ap (with_error (product_error (meaning d) a b)) s
    where
      rest : quot_z (a *ℤ b -ℤ v *ℤ pos (meaning d).Q) (pos (meaning d).Q) ≡ e
      rest = ap (λ (x : ℤ). quot_z (x -ℤ v *ℤ pos (meaning d).Q) (pos (meaning d).Q)) (sym h)
          ∙ ap (λ (x : ℤ). quot_z x (pos (meaning d).Q)) (ring ((at v ⊕ at e) ⊗ num (meaning d).Q ⊕ (⊖ (at v ⊗ num (meaning d).Q))) (at e ⊗ num (meaning d).Q) (omega arith)) ∙ quot_exact e (meaning d).Q scale

  pub product_split_nil : (a b : ℤ) → a *ℤ b ≡ pos 0 → some (record { main = pos 0; error = pos 0 }) ≡ product_split (meaning d) a b
  product_split_nil a b e = product_split_yes a b (pos 0) (pos 0) (product_nil a b e) (none (meaning d).Q ∙ sym e)
    where
      none : (x : ℕ) → pos (0 * x) ≡ pos 0
      none x = ap pos (omega arith)

  -- the product is z units, and q its split
  pub product_within : (a b z : ℤ) → a *ℤ b ≡ z *ℤ pos (10 ^ 70) → (q : Scientific × Scientific) → SplitFormed d z (Some q) → lowest ≤ nat_abs (units q.0) → some (record { main = units q.0; error = units q.1 }) ≡ product_split (meaning d) a b
  product_within a b z exact q f l = product_split_yes a b (units q.0) (units q.1) (product_is (meaning d) a b (units q.0) (product_rounding a b z exact ∙ sym f.0) (rw low_is l) (bounded_units q.0))
      (rw scale_is (ap (λ (x : ℤ). x *ℤ pos (10 ^ 70)) (ap (λ (x : ℤ). x +ℤ units q.1) f.0 ∙ ap (λ (x : ℤ). rounded_to d z +ℤ x) f.1 ∙ whole (rounded_to d z)) ∙ sym exact))
    where
      whole : (v : ℤ) → v +ℤ (z -ℤ v) ≡ z
      whole v = ring (at v ⊕ (at z ⊕ (⊖ at v))) (at z) (omega arith)

  -- ---- lifts
  abbrev unit : ℕ
  unit = 2 * 10 ^ (d - 1)

  pub lift_rounding : (s : ℤ) (k g : ℕ) → 0 < unit - g → (k ≡ 0) ⊎ ((unit - g) * 10 ^ (d - 1) ≤ nat_abs (s *ℤ pos unit))
      → (meaning d).rounding (with_zeros s k *ℤ pos (meaning d).U) ((meaning d).Q * ((meaning d).U - g)) ≡ with_zeros (rounding 10 d 1 (s *ℤ pos unit) (unit - g)) k
  unfolding meaning
  lift_rounding s k g h full = lift_is_fraction d 70 P (lit≤ tt) s k unit g h full

  left_over : (g : ℕ) → 0 < unit - g → 0 < (meaning d).Q * ((meaning d).U - g)
  unfolding meaning
  left_over g h = mul-pos (lit≤ tt) h

  module _ (a : ℤ) (g : ℕ) (h : 0 < unit - g) where
    abbrev lifted : ℤ
    lifted = (meaning d).rounding (a *ℤ pos (meaning d).U) ((meaning d).Q * ((meaning d).U - g))

    pub lift_yes : (x : Scientific) → units x ≡ lifted → lowest ≤ nat_abs (units x) → some (units x) ≡ lift (meaning d) a g
    lift_yes x f l = lift_is (meaning d) a g (units x) (sym f) (rw low_is l) (bounded_units x)

    pub lift_no : (z : ℤ) → lifted ≡ z → (nat_abs a ≡ 0 → ⊥) → (nat_abs z < lowest) ⊎ (highest < nat_abs z) → none ≡ lift (meaning d) a g
    lift_no z e k o = lift_not (meaning d) a g z e k (out z o)

    pub lift_nil : a ≡ pos 0 → some a ≡ lift (meaning d) a g
    lift_nil e = lift_zero (meaning d) a g a
        (ap (λ (z : ℤ). (meaning d).rounding (z *ℤ pos (meaning d).U) ((meaning d).Q * ((meaning d).U - g))) e ∙ ap (λ (z : ℤ). (meaning d).rounding z ((meaning d).Q * ((meaning d).U - g))) (zero-*ℤ (pos (meaning d).U))
        ∙ nil ((meaning d).Q * ((meaning d).U - g)) (left_over g h) ∙ sym e) (ap nat_abs e)
