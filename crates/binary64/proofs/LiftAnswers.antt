-- Lifts of floats answer what the definitions say: 1 − k u is exact as a float, so the one division is the one rounding.
use Rattle.std.proofs.Common.{◌≡◌, ℕ, ◌-◌, ◌*◌, ◌^◌, ◌≤◌, T, ℤ, pos, ◌*ℤ◌, sym, refl, ap, ◌∙◌, subst, zero-mul}
use mathlib.Core.Option.{none, some}
use lib.Ieee.{Float, Format, prec}
use Rattle.rounding.specs.Value.{value, magnitude}
use Rattle.rounding.proofs.Model.{rounding}
use Rattle.rounding.proofs.FloatRounding.{Rounds}
use Rattle.arithmetic.specs.Meaning.{Meaning}
use Rattle.arithmetic.specs.Operations.{lift}
use Rattle.arithmetic.proofs.Answers.{lift_is, lift_not, lift_zero}
use Rattle.binary64.specs.Means.{Means, Ranged, Rounded, abs_value, zero_abs, rounding_nil, rounds_lift, left_over, at_most, at_least, over_rounded, outside}

nil_left : (q : ℕ) → pos 0 *ℤ pos q ≡ pos 0
nil_left q = ap pos (zero-mul q)

module _ (f : Format) (least reach : ℕ) (m : Meaning) (M : Means f least reach m) (a x : Float) (k : ℕ) (h : k ≤ 192) (R : Rounds f (rounding (prec f) (value f a *ℤ pos (2 ^ prec f)) (2 ^ prec f - k)) x) where
  abbrev result : ℤ
  result = m.rounding (value f a *ℤ pos m.U) (m.Q * (m.U - k))

  lifted : Rounded f least reach m M result x
  lifted =
      subst (λ (r : ℤ). Rounded f least reach m M r x) (sym (ap (λ (u : ℕ). m.rounding (value f a *ℤ pos u) (m.Q * (m.U - k))) M.unit ∙ rounds_lift f least reach m M (value f a *ℤ pos (2 ^ prec f)) k h))
      (over_rounded f least reach m M (rounding (prec f) (value f a *ℤ pos (2 ^ prec f)) (2 ^ prec f - k)) x R)

  pub lift_yes : Ranged f least reach x → some (value f x) ≡ lift m (value f a) k
  lift_yes (n, s, l) = lift_is m (value f a) k (value f x) (sym (lifted.exact (subst T (sym n) tt))) (at_least f least reach m M x l) (at_most f least reach m M x s)

  pub lift_no : (magnitude f a ≡ 0 → ⊥) → (Ranged f least reach x → ⊥) → none ≡ lift m (value f a) k
  lift_no z i = lift_not m (value f a) k result refl (λ e. z (sym (abs_value f a) ∙ e)) (outside f least reach m M x result lifted i)

pub lift_nil : (f : Format) (least reach : ℕ) (m : Meaning) (M : Means f least reach m) (a : Float) (k : ℕ) → k ≤ 192 → magnitude f a ≡ 0 → some (pos 0) ≡ lift m (value f a) k
lift_nil f least reach m M a k h z =
    let e : value f a ≡ pos 0 = zero_abs (value f a) (abs_value f a ∙ z) in
    lift_zero m (value f a) k (pos 0)
    (ap (λ (v : ℤ). m.rounding (v *ℤ pos m.U) (m.Q * (m.U - k))) e ∙ ap (λ (v : ℤ). m.rounding v (m.Q * (m.U - k))) (nil_left m.U)
    ∙ rounds_lift f least reach m M (pos 0) k h ∙ rounding_nil (prec f) (pos 0) (2 ^ prec f - k) (left_over f least reach m M k h) refl)
    (abs_value f a ∙ z)
