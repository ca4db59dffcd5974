-- Sums of floats answer what the definitions say. The rounded sum of two numbers is finite, and TwoSum's second float is the
-- exact error: both are facts of rounding; the definitions then only ask for the size of the rounded sum.
use Rattle.std.specs.Prelude.{◌≡◌, ℕ, ◌^◌, ◌≤◌, true, T, ◌+ℤ◌, Float}
use Rattle.std.proofs.Common.{sym, ◌∙◌, subst, le_trans, le_of_eq}
use Rattle.std.proofs.Math.Option.{none, some}
use Rattle.std.specs.Float.{Format}
use Rattle.std.specs.Float.Ieee.{add}
use Rattle.std.specs.Float.Ieee.Fits.{add-fits}
use Rattle.std.specs.Float.Ieee.Scale.{finite}
use Rattle.rounding.specs.Value.{value, magnitude}
use Rattle.rounding.specs.ErrorFree.{rest}
use Rattle.rounding.proofs.Floats.{Held, value_size, within_value}
use Rattle.rounding.proofs.FloatSums.{two_sum_floats, rest_within}
use Rattle.rounding.proofs.FloatRounding.{add_rounds}
use Rattle.rounding.proofs.TwoProduct.{size_le}
use Rattle.arithmetic.specs.Meaning.{Meaning}
use Rattle.arithmetic.specs.Operations.{sum, sum_split}
use Rattle.arithmetic.proofs.Answers.{sum_is, sum_not, sum_split_is, sum_split_not}
use Rattle.binary64.specs.Means.{Means, Fine, held, true_of, rounds_sum, at_most, small_of}

module _ (f : Format) (least reach : ℕ) (m : Meaning) (M : Means f least reach m) (a b : Float) (A : Fine f reach a) (B : Fine f reach b) where
  held_a : Held f a
  held_a = held f a A.0 A.1

  held_b : Held f b
  held_b = held f b B.0 B.1

  -- the rounded sum is finite
  pub sum_finite : finite (add f a b) ≡ true
  sum_finite = true_of (finite (add f a b)) (two_sum_floats f reach a b M.sum_room held_a held_b (within_value f a (2 ^ reach) A.2) (within_value f b (2 ^ reach) B.2)).0.held.1

  -- the error part is a number
  pub rest_fine : Fine f reach (rest f a b)
  rest_fine =
      let wa = within_value f a (2 ^ reach) A.2 in
      let wb = within_value f b (2 ^ reach) B.2 in (
        add-fits f _ _,
        true_of (finite (rest f a b)) (two_sum_floats f reach a b M.sum_room held_a held_b wa wb).1,
        le_trans (le_of_eq (sym (value_size f (rest f a b)))) (size_le (2 ^ reach) (value f (rest f a b)) (rest_within f reach a b M.sum_room held_a held_b wa wb)),
      )

  sum_value : m.rounding (value f a +ℤ value f b) m.Q ≡ value f (add f a b)
  sum_value = rounds_sum f least reach m M (value f a +ℤ value f b) ∙ sym ((add_rounds f a b held_a held_b).0 (subst T (sym sum_finite) tt))

  sum_yes : magnitude f (add f a b) ≤ 2 ^ reach → some (value f (add f a b)) ≡ sum m (value f a) (value f b)
  sum_yes s = sum_is m (value f a) (value f b) (value f (add f a b)) sum_value (at_most f least reach m M (add f a b) s)

  sum_no : (magnitude f (add f a b) ≤ 2 ^ reach → ⊥) → none ≡ sum m (value f a) (value f b)
  sum_no s = sum_not m (value f a) (value f b) (value f (add f a b)) sum_value (λ h. s (small_of f least reach m M (add f a b) h))

  -- ---- the split
  pub split_yes : magnitude f (add f a b) ≤ 2 ^ reach → sum_split m (value f a) (value f b) ≡ some (record { main = value f (add f a b); error = value f (rest f a b) })
  split_yes s =
      sym (sum_split_is m (value f a) (value f b) (value f (add f a b)) (value f (rest f a b)) (sum_yes s)
      (two_sum_floats f reach a b M.sum_room held_a held_b (within_value f a (2 ^ reach) A.2) (within_value f b (2 ^ reach) B.2)).2)

  pub split_no : (magnitude f (add f a b) ≤ 2 ^ reach → ⊥) → sum_split m (value f a) (value f b) ≡ none
  split_no h = sym (sum_split_not m (value f a) (value f b) (sum_no h))
