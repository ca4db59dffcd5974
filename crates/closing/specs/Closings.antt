-- What closing and judging answer, by the values of their numbers.
use Rattle.std.specs.Prelude.{ℤ, Ok, Err, Result}
use Rattle.arithmetic.specs.Meaning.{Meaning, Number}
use Rattle.coefficients.specs.Row.{Trial, done, stopped}
use Rattle.coefficients.specs.Closing.{Closed, Verdict as Defined, right, wrong, left_open}
use Rattle.closing.specs.declared.operation.ClosingOperation.{ClosingOperation}
use Rattle.closing.specs.declared.verdict.JudgingOperation.{JudgingOperation}
use Rattle.closing.specs.declared.verdict.Verdict.{Verdict}
use Rattle.closing.specs.declared.verdict.Verdict.TheVariants.{Right, Wrong, Open}
use Rattle.closing.specs.Operations.{closing_number, judging_number}

-- the values of a coefficient's two numbers
abbrev pub closed_values : {N : Type 0} → (N → ℤ) → N × N → Closed
closed_values value c = record { value = value c.0; bound = value c.1 }

-- a value with its bound, or the operation refused
abbrev pub closing : {N : Type 0} → (N → ℤ) → Result (N × N) ClosingOperation → Trial Closed
closing value (Ok c) = done (closed_values value c)
closing value (Err o) = stopped (closing_number o)

-- the value and the bound are numbers
abbrev pub GivesNumbers : {N E : Type 0} → Meaning → (N → ℤ) → Result (N × N) E → Type 0
GivesNumbers m value (Ok c) = Number m (value c.0) × Number m (value c.1)
GivesNumbers m value (Err e) = Unit {0}

-- a verdict of the code, as one of the definitions
abbrev pub told_verdict : Verdict → Defined
told_verdict Right = right
told_verdict Wrong = wrong
told_verdict Open = left_open

-- a verdict, or the operation refused
abbrev pub judging : Result Verdict JudgingOperation → Trial Defined
judging (Ok v) = done (told_verdict v)
judging (Err o) = stopped (judging_number o)
