-- The rounded part is at most twice n, and the error part no more than n, so nothing overflows. Zeros stand behind both parts, and
-- where the error part is above 10^40, the rounded one is; so it is not, once the rounded one is a number.
use Rattle.std.proofs.Common.{◌≡◌, ℕ, ◌+◌, ◌^◌, ◌<◌, ◌≤◌, ℤ, ◌-ℤ◌, ◌*ℤ◌, nat_abs, None, Some, Option, sym, ap, ◌∙◌, subst, lt_irrefl, lt_of_lt_of_le, arith, w64, SFits, to_z, of_z}
use Rattle.rounding.specs.Digits.{Digits}
use Rattle.scientific.specs.declared.nearest.Rounded.{Rounded}
use Rattle.scientific.specs.declared.precision.Precision.{Precision}
use Rattle.scientific.specs.declared.number.Scientific.{Scientific}
use Rattle.scientific.specs.Forms.{with_zeros, highest}
use Rattle.scientific.specs.Numbers.{units, Formed}
use Rattle.scientific.specs.Splits.{SplitFormed, rounded_to, error}
use Rattle.scientific.proofs.Casts.{in_digits, wide, in_64, power_is, power_fits}
use Rattle.std.specs.Option.{unwrap_or}
use Rattle.scientific.proofs.Values.{with_more}
use Rattle.scientific.proofs.Meanings.{bounded}
use Rattle.scientific.proofs.ErrorPart.{short_digits, more_digits, error_at_most_own, rounded_at_most_double, rounded_with, error_with, error_digits, error_above}
use Rattle.scientific.proofs.rounded.split_form.Goals as goal

-- r is n rounded
module _ (p : Precision) (n : ℤ) (r : Rounded) (small : nat_abs n < 2 ^ 62) (value : with_zeros r.significand r.zeros ≡ rounded_to p.digits (to_z w64 (of_z w64 n))) (short : nat_abs r.significand ≤ 10 ^ p.digits) where
  abbrev d : ℕ
  d = p.digits

  P : 1 ≤ d
  P = omega (arith, p.least)

  n_kept : to_z w64 (of_z w64 n) ≡ n
  n_kept = in_64 n (omega arith)

  is : with_zeros r.significand r.zeros ≡ rounded_to d n
  is = value ∙ ap (rounded_to d) n_kept

  kept : to_z w64 (of_z w64 r.significand) ≡ r.significand
  kept = in_digits p r.significand short

  digits : Digits 10 8 (nat_abs (to_z w64 (of_z w64 r.significand)))
  digits = rw kept (short_digits d (nat_abs r.significand) p.most short)

  main : (k : ℕ) → with_zeros (to_z w64 (of_z w64 r.significand)) (r.zeros + k) ≡ rounded_to d (with_zeros n k)
  main k = rw kept (sym (with_more r.significand r.zeros k (r.zeros + k) (omega arith)) ∙ ap (λ (x : ℤ). with_zeros x k) is ∙ rounded_with d n P k)

  -- x is the power of ten that was read
  module _ (x : ℕ) (e : x ≡ 10 ^ r.zeros) (few : r.zeros ≤ 15) where
    product : to_z w64 (of_z w64 r.significand) *ℤ to_z w64 x ≡ rounded_to d n
    product = rw (kept, power_is x r.zeros e (omega (arith, few))) is

    room : nat_abs (rounded_to d n) < 2 ^ 63
    room = omega (arith, rounded_at_most_double d n P)

    product_fits : SFits w64 (to_z w64 (of_z w64 r.significand) *ℤ to_z w64 x)
    product_fits = rw product (wide (rounded_to d n) room)

    rest : to_z w64 (of_z w64 n) -ℤ to_z w64 (of_z w64 (to_z w64 (of_z w64 r.significand) *ℤ to_z w64 x)) ≡ error d n
    rest = rw (product, n_kept, in_64 (rounded_to d n) room)

    less : nat_abs (error d n) < 2 ^ 63
    less = omega (arith, error_at_most_own d n P)

    rest_fits : SFits w64 (to_z w64 (of_z w64 n) -ℤ to_z w64 (of_z w64 (to_z w64 (of_z w64 r.significand) *ℤ to_z w64 x)))
    rest_fits = rw rest (wide (error d n) less)

    held : to_z w64 (of_z w64 (to_z w64 (of_z w64 n) -ℤ to_z w64 (of_z w64 (to_z w64 (of_z w64 r.significand) *ℤ to_z w64 x)))) ≡ error d n
    held = rw rest (in_64 (error d n) less)

or_formed : (z : ℤ) (r : Option Scientific) (x y : Scientific) → Formed z r → (highest < nat_abs z → ⊥) → x ≡ unwrap_or r y → units x ≡ z
or_formed z (Some s) x y h f e = rw e h
or_formed z None x y h f e = absurd (f h)

refused : (d : ℕ) (z : ℤ) (r : Option (Scientific × Scientific)) → r ≡ None → highest < nat_abs (rounded_to d z) → SplitFormed d z r
refused d z r e h = subst (SplitFormed d z) (sym e) h

pub formed-requires : goal.formed-requires
formed-requires c = let r = c.round_fraction-r in record { short = digits c.args.p c.args.n r.result c.requires.small r.ensures.value r.ensures.short; few = omega (arith, r.ensures.few) }

pub returns-in_err-main : goal.returns-in_err-main
returns-in_err-main c = let r = c.round_fraction-r in
    refused c.args.p.digits (with_zeros c.args.n c.args.zeros) c.from_residual.result c.from_residual.ensures
    (rw (main c.args.p c.args.n r.result c.requires.small r.ensures.value r.ensures.short c.args.zeros) at c.in_err-main.ensures)

pub overflow_cast-power : goal.overflow_cast-power
overflow_cast-power c = let r = c.round_fraction-r in power_fits c.power.result r.result.zeros c.power.ensures (omega (arith, r.ensures.few))

pub overflow_mul-r : goal.overflow_mul-r
overflow_mul-r c = let r = c.round_fraction-r in product_fits c.args.p c.args.n r.result c.requires.small r.ensures.value r.ensures.short c.power.result c.power.ensures r.ensures.few

pub overflow_sub-n : goal.overflow_sub-n
overflow_sub-n c = let r = c.round_fraction-r in rest_fits c.args.p c.args.n r.result c.requires.small r.ensures.value r.ensures.short c.power.result c.power.ensures r.ensures.few

pub exact_form-requires : goal.exact_form-requires
exact_form-requires c =
    let r = c.round_fraction-r in
    let d = c.args.p.digits in
    let e = error_digits d c.args.n (omega arith) c.args.zeros c.requires.part in
    rw (held c.args.p c.args.n r.result c.requires.small r.ensures.value r.ensures.short c.power.result c.power.ensures r.ensures.few)
    (record { short = more_digits d (nat_abs (error d c.args.n)) c.args.p.most e; few = omega arith })

pub returns : goal.returns
returns c =
    let r = c.round_fraction-r in
    let k = c.args.zeros in
    let d = c.args.p.digits in
    let h = rw (held c.args.p c.args.n r.result c.requires.small r.ensures.value r.ensures.short c.power.result c.power.ensures r.ensures.few) at c.exact_form.ensures in
    -- the error part is not above the limit, since the rounded one is a number
    let m : nat_abs (rounded_to d (with_zeros c.args.n k)) ≤ highest = subst (λ (z : ℤ). nat_abs z ≤ highest) (c.in_ok-main.ensures ∙ main c.args.p c.args.n r.result c.requires.small r.ensures.value r.ensures.short k) (bounded c.in_ok-main.main) in
    (c.in_ok-main.ensures ∙ main c.args.p c.args.n r.result c.requires.small r.ensures.value r.ensures.short k, or_formed (with_zeros (error d c.args.n) k) _ _ _ h (λ a. let b = error_above d c.args.n (omega arith) k highest a in lt_irrefl highest (lt_of_lt_of_le b m)) c.unwrap_or-error.ensures ∙ error_with d c.args.n (omega arith) k)
