-- From what code finds two patterns to be, and what an operation answers, to the answer that is defined.
use Rattle.std.proofs.Common.{◌≡◌, inl, inr, Ok, Err, refl, ℤ}
use Rattle.arithmetic.specs.Meaning.{Meaning}
use Rattle.arithmetic.specs.Causes.{cause_number}
use Rattle.arithmetic.specs.declared.cause.Cause.{Cause}
use Rattle.arithmetic.specs.declared.cause.Cause.TheVariants.{NotFinite, TooLarge, NotInOneForm}
use Rattle.patterns.specs.declared.Pattern.{Pattern}
use Rattle.operations.specs.declared.answer.Answer.{Answer}
use Rattle.operations.specs.declared.answer.Answer.TheVariants.{NotAdmitted}
use Rattle.operations.specs.Answers.{cause_of, on_numbers, AreOperands}

-- the cause with the number of a cause is that cause
back : (c : Cause) → NotAdmitted c ≡ NotAdmitted (cause_of (cause_number c))
back NotFinite = refl
back TooLarge = refl
back NotInOneForm = refl

pub no_operands : {N : Type 0} (m : Meaning) (value : N → ℤ) (a b : Pattern) (f : ℤ → ℤ → Answer) (c : Cause) → AreOperands m value a b (Err c) → NotAdmitted c ≡ on_numbers m f a b
no_operands m value a b f c (inl e) = rw (← e) (back c)
no_operands m value a b f c (inr h) = rw (← h.1, ← h.2) (back c)

pub two_operands : {N : Type 0} (m : Meaning) (value : N → ℤ) (a b : Pattern) (f : ℤ → ℤ → Answer) (p : N × N) → AreOperands m value a b (Ok p) → f (value p.0) (value p.1) ≡ on_numbers m f a b
two_operands m value a b f p h = rw (← h.0, ← h.1) refl
