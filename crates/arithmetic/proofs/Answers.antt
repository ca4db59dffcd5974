-- What an operation answers, from the rounding of its exact result and that rounding's size: for any meaning, so that every
-- implementation owes only that its result is the rounding.
use Rattle.std.proofs.Common.{◌≡◌, ℕ, ◌-◌, ◌*◌, ◌≤◌, Bool, true, false, cond, ◌&&◌, ◌||◌, T, eqb, leb, ℤ, pos, ◌+ℤ◌, ◌-ℤ◌, ◌*ℤ◌, nat_abs, sym, refl, ap, ◌∙◌, arith, leb→le}
use mathlib.Core.Option.{none, some}
use lib.IntN.{*ℤ_comm}
use Rattle.std.proofs.lemmas.Int.{ints}
use Rattle.integers.proofs.Integers.{factor_cancels}
use Rattle.integers.proofs.Tests.{leb_yes, leb_no, eqb_no}
use Rattle.arithmetic.specs.Meaning.{Meaning, Number}
use Rattle.arithmetic.specs.Operations.{sum, product, lift, in_range, not_above, with_error, sum_split, product_split, sum_error, product_error}
use Rattle.arithmetic.specs.Rules.{Rules}

pub sum_is : (m : Meaning) (a b v : ℤ) → m.rounding (a +ℤ b) m.Q ≡ v → nat_abs v ≤ m.high → some v ≡ sum m a b
unfolding sum
sum_is m a b v e h = sym (ap (not_above m) e ∙ ap (λ (t : Bool). cond t (some v) none) (leb_yes (nat_abs v) m.high h))

pub sum_not : (m : Meaning) (a b v : ℤ) → m.rounding (a +ℤ b) m.Q ≡ v → (nat_abs v ≤ m.high → ⊥) → none ≡ sum m a b
unfolding sum
sum_not m a b v e h = sym (ap (not_above m) e ∙ ap (λ (t : Bool). cond t (some v) none) (leb_no (nat_abs v) m.high h))

pub ranged_is : (m : Meaning) (x v : ℤ) → m.low ≤ nat_abs v → nat_abs v ≤ m.high → some v ≡ in_range m x v
ranged_is m x v l h = sym (ap (λ (t : Bool). cond (eqb (nat_abs x) 0 || t) (some v) none) (ap (λ (t : Bool). t && leb (nat_abs v) m.high) (leb_yes m.low (nat_abs v) l) ∙ leb_yes (nat_abs v) m.high h) ∙ go (eqb (nat_abs x) 0))
  where
    go : (b : Bool) → cond (b || true) (some v) none ≡ some v
    go true = refl
    go false = refl

pub ranged_not : (m : Meaning) (x v : ℤ) → (nat_abs x ≡ 0 → ⊥) → (m.low ≤ nat_abs v → nat_abs v ≤ m.high → ⊥) → none ≡ in_range m x v
ranged_not m x v z h = sym (ap (λ (t : Bool). cond (t || (leb m.low (nat_abs v) && leb (nat_abs v) m.high)) (some v) none) (eqb_no (nat_abs x) 0 z) ∙ go (leb m.low (nat_abs v)) (leb (nat_abs v) m.high) (leb→le m.low (nat_abs v)) (leb→le (nat_abs v) m.high))
  where
    go : (b c : Bool) → (T b → m.low ≤ nat_abs v) → (T c → nat_abs v ≤ m.high) → cond (false || (b && c)) (some v) none ≡ none
    go true true f g = absurd (h (f tt) (g tt))
    go true false f g = refl
    go false c f g = refl

pub ranged_zero : (m : Meaning) (x v : ℤ) → nat_abs x ≡ 0 → some v ≡ in_range m x v
ranged_zero m x v e = sym (ap (λ (n : ℕ). cond (eqb n 0 || (leb m.low (nat_abs v) && leb (nat_abs v) m.high)) (some v) none) e)

pub product_is : (m : Meaning) (a b v : ℤ) → m.rounding (a *ℤ b) (m.Q * m.Q) ≡ v → m.low ≤ nat_abs v → nat_abs v ≤ m.high → some v ≡ product m a b
unfolding product
product_is m a b v e l h = ranged_is m (a *ℤ b) v l h ∙ ap (in_range m (a *ℤ b)) (sym e)

pub product_not : (m : Meaning) (a b v : ℤ) → m.rounding (a *ℤ b) (m.Q * m.Q) ≡ v → (nat_abs (a *ℤ b) ≡ 0 → ⊥) → (m.low ≤ nat_abs v → nat_abs v ≤ m.high → ⊥) → none ≡ product m a b
unfolding product
product_not m a b v e z h = ranged_not m (a *ℤ b) v z h ∙ ap (in_range m (a *ℤ b)) (sym e)

pub product_zero : (m : Meaning) (a b v : ℤ) → m.rounding (a *ℤ b) (m.Q * m.Q) ≡ v → nat_abs (a *ℤ b) ≡ 0 → some v ≡ product m a b
unfolding product
product_zero m a b v e z = ranged_zero m (a *ℤ b) v z ∙ ap (in_range m (a *ℤ b)) (sym e)

pub lift_is : (m : Meaning) (a : ℤ) (k : ℕ) (v : ℤ) → m.rounding (a *ℤ pos m.U) (m.Q * (m.U - k)) ≡ v → m.low ≤ nat_abs v → nat_abs v ≤ m.high → some v ≡ lift m a k
unfolding lift
lift_is m a k v e l h = ranged_is m a v l h ∙ ap (in_range m a) (sym e)

pub lift_not : (m : Meaning) (a : ℤ) (k : ℕ) (v : ℤ) → m.rounding (a *ℤ pos m.U) (m.Q * (m.U - k)) ≡ v → (nat_abs a ≡ 0 → ⊥) → (m.low ≤ nat_abs v → nat_abs v ≤ m.high → ⊥) → none ≡ lift m a k
unfolding lift
lift_not m a k v e z h = ranged_not m a v z h ∙ ap (in_range m a) (sym e)

pub lift_zero : (m : Meaning) (a : ℤ) (k : ℕ) (v : ℤ) → m.rounding (a *ℤ pos m.U) (m.Q * (m.U - k)) ≡ v → nat_abs a ≡ 0 → some v ≡ lift m a k
unfolding lift
lift_zero m a k v e z = ranged_zero m a v z ∙ ap (in_range m a) (sym e)

pub sum_split_is : (m : Meaning) (a b v e : ℤ) → some v ≡ sum m a b → v +ℤ e ≡ a +ℤ b → some (record { main = v; error = e }) ≡ sum_split m a b
unfolding sum_split
sum_split_is m a b v e s h = ap (λ (x : ℤ). some (record { main = v; error = x })) (rest v e (a +ℤ b) h) ∙ ap (with_error (sum_error a b)) s
  where
    rest : (v e s : ℤ) → v +ℤ e ≡ s → e ≡ s -ℤ v
    rest v e s h = omega (arith, ints)

pub sum_split_not : (m : Meaning) (a b : ℤ) → none ≡ sum m a b → none ≡ sum_split m a b
unfolding sum_split
sum_split_not m a b s = ap (with_error (sum_error a b)) s

pub product_split_not : (m : Meaning) (a b : ℤ) → none ≡ product m a b → none ≡ product_split m a b
unfolding product_split
product_split_not m a b s = ap (with_error (product_error m a b)) s

-- ---- the error part of a product is the one number that makes the product exact
pub product_split_is : (m : Meaning) → Rules m → (a b v e : ℤ) → Number m a → Number m b → some v ≡ product m a b → (v +ℤ e) *ℤ pos m.Q ≡ a *ℤ b → some (record { main = v; error = e }) ≡ product_split m a b
unfolding product_split
product_split_is m R a b v e na nb s h =
    ap (λ (x : ℤ). some (record { main = v; error = x })) (rest v e (product_error m a b v) (factor_cancels (v +ℤ e) (v +ℤ product_error m a b v) m.Q R.some_scale (h ∙ sym (R.product_error_is_exact a b v na nb (sym s)) ∙ *ℤ_comm (pos m.Q) (v +ℤ product_error m a b v))))
    ∙ ap (with_error (product_error m a b)) s
  where
    rest : (v e f : ℤ) → v +ℤ e ≡ v +ℤ f → e ≡ f
    rest v e f h = omega (arith, ints)
