-- The zeros behind M are those that its exponent stands for.
use Rattle.std.proofs.Common.{◌≡◌, ℕ, ◌-◌, ◌≤◌, ℤ, pos, ◌-ℤ◌, Some, None, Option, Ok, sym, subst, w16, to_z, of_z}
use Rattle.std.specs.Option.{ok_or}
use Rattle.arithmetic.specs.Setting.{Admits}
use Rattle.arithmetic.specs.declared.cause.Cause.TheVariants.{NotInOneForm}
use Rattle.scientific.specs.declared.precision.Precision.{Precision}
use Rattle.scientific.specs.Numbers.{units, Behind}
use Rattle.scientific.specs.Patterns.{meaning}
use Rattle.scientific.proofs.Admissions.{other_form, made_number}
use Rattle.scientific.proofs.bytes.checked.Goals as goal

some_behind : (o : Option ℕ) (k : ℕ) → Ok k ≡ ok_or o NotInOneForm → o ≡ Some k
some_behind None k e = cc
some_behind (Some j) k e = cc

zeros : (p : Precision) (e : ℤ) (o : Option ℕ) (k : ℕ) → Behind p.digits e o → Ok k ≡ ok_or o NotInOneForm → (e ≡ pos k -ℤ pos 70) × (k ≤ 111 - p.digits)
zeros p e o k b q = subst (Behind p.digits e) (some_behind o k q) b

pub returns-then-not-in_form-clause-answer : goal.returns-then-not-in_form-clause-answer
returns-then-not-in_form-clause-answer c =
    let k = c.in_ok-zeros.zeros in
    let b = zeros c.args.p (to_z w16 (of_z w16 c.args.e)) c.behind.result k c.behind.ensures c.in_ok-zeros.ensures.value in
    sym (other_form c.args.p c.args.m c.args.e c.unsigned_abs.result k c.unsigned_abs.ensures.value c.ranges.m c.ranges.e b.0 b.1 c.if-not-in_form.ensures)

pub returns-clause-number : goal.returns-clause-number
returns-clause-number c =
    let k = c.in_ok-zeros.zeros in
    let b = zeros c.args.p (to_z w16 (of_z w16 c.args.e)) c.behind.result k c.behind.ensures c.in_ok-zeros.ensures.value in
    subst (Admits (meaning c.args.p.digits) units) (sym c.ok_or-2.ensures.value)
    (made_number c.args.p c.args.m c.args.e c.unsigned_abs.result k c.unsigned_abs.ensures.value c.ranges.m c.ranges.e b.0 b.1 c.if-not-in_form.ensures c.formed.result c.formed.ensures)
