-- A split is refused exactly when its rounded operation is, and its first part is the rounded result: so the first part of what the
-- code answers to a split is the answer to the rounded operation.
use Rattle.std.proofs.Common.{◌≡◌, ℤ, refl, ap, ◌∙◌, None, Option}
use mathlib.Core.Option.{Option as Maybe, none, some}
use Rattle.arithmetic.specs.Meaning.{Meaning}
use Rattle.arithmetic.specs.Operations.{Split, with_error, sum, product, sum_split, product_split, sum_error, product_error}
use Rattle.arithmetic.specs.Setting.{valued}

abbrev main_of : Maybe Split → Maybe ℤ
main_of none = none
main_of (some s) = some s.main

main_with_error : (e : ℤ → ℤ) (r : Maybe ℤ) → main_of (with_error e r) ≡ r
main_with_error e none = refl
main_with_error e (some r) = refl

pub sum_refused : {N : Type 0} (value : N → ℤ) (m : Meaning) (a b : ℤ) (r : Option N) → r ≡ None → none ≡ sum_split m a b → valued value r ≡ sum m a b
unfolding sum_split
sum_refused value m a b r e h = ap (valued value) e ∙ ap main_of h ∙ main_with_error (sum_error a b) (sum m a b)

pub sum_given : (m : Meaning) (a b x y : ℤ) → some (record { main = x; error = y }) ≡ sum_split m a b → some x ≡ sum m a b
unfolding sum_split
sum_given m a b x y h = ap main_of h ∙ main_with_error (sum_error a b) (sum m a b)

pub product_refused : {N : Type 0} (value : N → ℤ) (m : Meaning) (a b : ℤ) (r : Option N) → r ≡ None → none ≡ product_split m a b → valued value r ≡ product m a b
unfolding product_split
product_refused value m a b r e h = ap (valued value) e ∙ ap main_of h ∙ main_with_error (product_error m a b) (product m a b)

pub product_given : (m : Meaning) (a b x y : ℤ) → some (record { main = x; error = y }) ≡ product_split m a b → some x ≡ product m a b
unfolding product_split
product_given m a b x y h = ap main_of h ∙ main_with_error (product_error m a b) (product m a b)
