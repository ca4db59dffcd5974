-- Products of floats answer what the definitions say. A product in range is rounded once, and TwoProduct's error part is exact
-- there; a product out of range is refused unless a factor, and so the exact product, is zero.
use Rattle.std.proofs.Common.{◌≡◌, ℕ, zero, suc, ◌*◌, ◌^◌, ◌<◌, ◌≤◌, T, ◌⊎◌, ℤ, pos, ◌+ℤ◌, ◌*ℤ◌, nat_abs, sym, refl, ap, ◌∙◌, subst, inl, inr, lt_irrefl, mul-pos, mul-zero, zero-mul, arith, pow_pos, Bool, true, false, not, zero-le}
use mathlib.Core.Option.{none, some}
use lib.Ieee.{Float, Format, prec, low, mul}
use lib.Ieee.Fits.{sub-fits}
use lib.Ieee.Scale.{finite}
use Rattle.integers.proofs.Integers.{abs_mul}
use Rattle.rounding.specs.Value.{value, magnitude}
use Rattle.rounding.specs.ErrorFree.{tail}
use Rattle.rounding.proofs.Model.{rounding}
use Rattle.rounding.proofs.Floats.{Held, within_value, over_value}
use Rattle.rounding.proofs.FloatProducts.{two_product_floats, tail_within}
use Rattle.rounding.proofs.FloatRounding.{mul_rounds}
use Rattle.arithmetic.specs.Meaning.{Meaning}
use Rattle.arithmetic.specs.Operations.{product, product_split}
use Rattle.arithmetic.specs.Rules.{Rules}
use Rattle.arithmetic.proofs.Answers.{product_is, product_not, product_zero, product_split_is, product_split_not}
use Rattle.binary64.specs.Means.{Means, Fine, Ranged, Rounded, held, true_of, abs_value, zero_abs, rounding_nil, rounds_product, at_most, at_least, number_of, over_rounded, outside}

none_zero : (a b : ℕ) → (a ≡ 0 → ⊥) → (b ≡ 0 → ⊥) → a * b ≡ 0 → ⊥
none_zero zero b h k e = h refl
none_zero (suc a) zero h k e = k refl
none_zero (suc a) (suc b) h k e = lt_irrefl 0 (subst (λ (n : ℕ). 0 < n) e (mul-pos {m = suc a} {n = suc b} (omega arith) (omega arith)))

nil_of : (a b : ℕ) → (a ≡ 0) ⊎ (b ≡ 0) → a * b ≡ 0
nil_of a b (inl e) = ap (λ (n : ℕ). n * b) e ∙ zero-mul b
nil_of a b (inr e) = ap (λ (n : ℕ). a * n) e ∙ mul-zero a

nil_times : (q : ℕ) → (pos 0 +ℤ pos 0) *ℤ pos q ≡ pos 0
nil_times q = ap pos (zero-mul q)

module _ (f : Format) (least reach : ℕ) (m : Meaning) (M : Means f least reach m) (a b : Float) (A : Fine f reach a) (B : Fine f reach b) where
  held_a : Held f a
  held_a = held f a A.0 A.1

  held_b : Held f b
  held_b = held f b B.0 B.1

  abbrev exact : ℤ
  exact = value f a *ℤ value f b

  exact_size : nat_abs exact ≡ magnitude f a * magnitude f b
  exact_size = abs_mul (value f a) (value f b) ∙ ap (λ (n : ℕ). n * nat_abs (value f b)) (abs_value f a) ∙ ap (λ (n : ℕ). magnitude f a * n) (abs_value f b)

  product_rounded : Rounded f least reach m M (m.rounding exact (m.Q * m.Q)) (mul f a b)
  product_rounded = subst (λ (r : ℤ). Rounded f least reach m M r (mul f a b)) (sym (rounds_product f least reach m M exact)) (over_rounded f least reach m M (rounding (prec f) exact (2 ^ low f)) (mul f a b) (mul_rounds f a b held_a held_b))

  product_yes : Ranged f least reach (mul f a b) → some (value f (mul f a b)) ≡ product m (value f a) (value f b)
  product_yes (n, s, l) =
      product_is m (value f a) (value f b) (value f (mul f a b)) (sym (product_rounded.exact (subst T (sym n) tt))) (at_least f least reach m M (mul f a b) l) (at_most f least reach m M (mul f a b) s)

  product_no : (magnitude f a ≡ 0 → ⊥) → (magnitude f b ≡ 0 → ⊥) → (Ranged f least reach (mul f a b) → ⊥) → none ≡ product m (value f a) (value f b)
  product_no za zb h =
      product_not m (value f a) (value f b) (m.rounding exact (m.Q * m.Q)) refl (λ e. none_zero (magnitude f a) (magnitude f b) za zb (sym exact_size ∙ e))
      (outside f least reach m M (mul f a b) (m.rounding exact (m.Q * m.Q)) product_rounded h)

  exact_nil : (magnitude f a ≡ 0) ⊎ (magnitude f b ≡ 0) → nat_abs exact ≡ 0
  exact_nil z = exact_size ∙ nil_of (magnitude f a) (magnitude f b) z

  product_nil : (magnitude f a ≡ 0) ⊎ (magnitude f b ≡ 0) → some (pos 0) ≡ product m (value f a) (value f b)
  product_nil z = product_zero m (value f a) (value f b) (pos 0) (rounds_product f least reach m M exact ∙ rounding_nil (prec f) exact (2 ^ low f) (pow_pos (low f)) (exact_nil z)) (exact_nil z)

  -- ---- a product with a factor zero is a float that is zero, of either sign
  nil_rounding : (magnitude f a ≡ 0) ⊎ (magnitude f b ≡ 0) → m.rounding exact (m.Q * m.Q) ≡ pos 0
  nil_rounding z = rounds_product f least reach m M exact ∙ rounding_nil (prec f) exact (2 ^ low f) (pow_pos (low f)) (exact_nil z)

  pub nil_finite : (magnitude f a ≡ 0) ⊎ (magnitude f b ≡ 0) → finite (mul f a b) ≡ true
  nil_finite z = go (finite (mul f a b)) refl
    where
      go : (t : Bool) → finite (mul f a b) ≡ t → finite (mul f a b) ≡ true
      go true e = e
      go false e = absurd (product_rounded.over (subst (λ (t : Bool). T (not t)) (sym e) tt) (subst (λ (r : ℤ). nat_abs r ≤ 2 ^ reach) (sym (nil_rounding z)) zero-le))

  pub nil_value : (magnitude f a ≡ 0) ⊎ (magnitude f b ≡ 0) → value f (mul f a b) ≡ pos 0
  nil_value z = product_rounded.exact (subst T (sym (nil_finite z)) tt) ∙ nil_rounding z

  pub nil_small : (magnitude f a ≡ 0) ⊎ (magnitude f b ≡ 0) → magnitude f (mul f a b) ≤ 2 ^ reach
  nil_small z = subst (λ (n : ℕ). n ≤ 2 ^ reach) (sym (ap nat_abs (nil_value z)) ∙ abs_value f (mul f a b)) zero-le

  -- ---- the error part
  module _ (r : Ranged f least reach (mul f a b)) where
    finite_product : T (finite (mul f a b))
    finite_product = subst T (sym r.0) tt

    abbrev Exact : Type 0
    Exact = (value f (mul f a b) +ℤ value f (tail f a b (mul f a b))) *ℤ pos (2 ^ low f) ≡ exact

    parts : T (finite (tail f a b (mul f a b))) × Exact
    parts =
        two_product_floats f reach M.below a b M.product_room M.low_room held_a held_b (within_value f a (2 ^ reach) A.2) (within_value f b (2 ^ reach) B.2) finite_product
        (within_value f (mul f a b) (2 ^ reach) r.1) (over_value f (mul f a b) (2 ^ suc M.below) (subst (λ (k : ℕ). 2 ^ k ≤ magnitude f (mul f a b)) M.least_is r.2))

    pub tail_fine : Fine f reach (tail f a b (mul f a b))
    tail_fine = (
      sub-fits f _ _,
      true_of (finite (tail f a b (mul f a b))) parts.0,
      tail_within f reach M.below a b M.product_room M.low_room M.high_room held_a held_b (within_value f a (2 ^ reach) A.2) (within_value f b (2 ^ reach) B.2) finite_product
          (within_value f (mul f a b) (2 ^ reach) r.1) (over_value f (mul f a b) (2 ^ suc M.below) (subst (λ (k : ℕ). 2 ^ k ≤ magnitude f (mul f a b)) M.least_is r.2)),
    )

  -- ---- the split
  module _ (R : Rules m) where
    pub split_yes : (r : Ranged f least reach (mul f a b)) → product_split m (value f a) (value f b) ≡ some (record { main = value f (mul f a b); error = value f (tail f a b (mul f a b)) })
    split_yes r =
        let x = mul f a b in
        let t = tail f a b x in
        sym (product_split_is m R (value f a) (value f b) (value f x) (value f t) (number_of f least reach m M a A) (number_of f least reach m M b B) (product_yes r)
        (ap (λ (q : ℕ). (value f x +ℤ value f t) *ℤ pos q) M.scale ∙ (parts r).1))

    pub split_nil : (magnitude f a ≡ 0) ⊎ (magnitude f b ≡ 0) → product_split m (value f a) (value f b) ≡ some (record { main = pos 0; error = pos 0 })
    split_nil z =
        sym (product_split_is m R (value f a) (value f b) (pos 0) (pos 0) (number_of f least reach m M a A) (number_of f least reach m M b B) (product_nil z) (nil_times m.Q ∙ sym (zero_abs exact (exact_nil z))))

  pub split_no : (magnitude f a ≡ 0 → ⊥) → (magnitude f b ≡ 0 → ⊥) → (Ranged f least reach (mul f a b) → ⊥) → product_split m (value f a) (value f b) ≡ none
  split_no za zb h = sym (product_split_not m (value f a) (value f b) (product_no za zb h))
