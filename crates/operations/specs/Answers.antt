-- What an operation on patterns answers, by the definitions of the arithmetic's operations: its meaning m gives a number for each pattern that it
-- admits, and a pattern for each number.
use Rattle.std.specs.Prelude.{◌≡◌, ℕ, cond, Ok, Err, Result, ◌⊎◌, ℤ, ◌==◌, int_le, nat_le}
use Rattle.std.proofs.Math.Option.{Option as Maybe, none, some}
use Rattle.arithmetic.specs.Meaning.{Meaning, Number as IsNumber, Admission, number, not_admitted}
use Rattle.arithmetic.specs.Operations.{Split as Parts, sum, product, lift, sum_split, product_split}
use Rattle.arithmetic.specs.Causes.{cause_number}
use Rattle.arithmetic.specs.declared.cause.Cause.{Cause}
use Rattle.arithmetic.specs.declared.cause.Cause.TheVariants.{NotFinite, TooLarge, NotInOneForm}
use Rattle.patterns.specs.declared.Pattern.{Pattern}
use Rattle.operations.specs.declared.answer.Answer.{Answer}
use Rattle.operations.specs.declared.answer.Answer.TheVariants.{Number, Split, Truth, Refused, NotAdmitted, NotLifted}

-- the pattern of a number
abbrev pub pattern_of : Meaning → ℤ → Pattern
pattern_of m z = record { bytes = m.pattern z }

-- a rounded result by its pattern, or a refusal
abbrev pub told : Meaning → Maybe ℤ → Answer
told m none = Refused
told m (some z) = Number (pattern_of m z)

-- a rounded result and its error part by their patterns, or a refusal
abbrev pub told_parts : Meaning → Maybe Parts → Answer
told_parts m none = Refused
told_parts m (some s) = Split (pattern_of m s.main) (pattern_of m s.error)

-- the cause with a number
abbrev pub cause_of : ℕ → Cause
cause_of c = cond (c == 1) NotFinite (cond (c == 2) TooLarge NotInOneForm)

-- what is answered of the number that a pattern is admitted as; the cause where it is admitted as none
abbrev pub on_number : (ℤ → Answer) → Admission → Answer
on_number f (number z) = f z
on_number f (not_admitted c) = NotAdmitted (cause_of c)

-- what is answered of two numbers; the cause where one of the patterns is admitted as none, that of the first if it is so
abbrev pub on_numbers : Meaning → (ℤ → ℤ → Answer) → Pattern → Pattern → Answer
on_numbers m f a b = on_number (λ x. on_number (f x) (m.admit b.bytes)) (m.admit a.bytes)

-- ---- the operations, on patterns
abbrev pub sum_answer : Meaning → Pattern → Pattern → Answer
sum_answer m a b = on_numbers m (λ x y. told m (sum m x y)) a b

abbrev pub split_sum_answer : Meaning → Pattern → Pattern → Answer
split_sum_answer m a b = on_numbers m (λ x y. told_parts m (sum_split m x y)) a b

abbrev pub product_answer : Meaning → Pattern → Pattern → Answer
product_answer m a b = on_numbers m (λ x y. told m (product m x y)) a b

abbrev pub split_product_answer : Meaning → Pattern → Pattern → Answer
split_product_answer m a b = on_numbers m (λ x y. told_parts m (product_split m x y)) a b

-- numbers are lifted by 0 to 192
abbrev pub lift_answer : Meaning → Pattern → ℕ → Answer
lift_answer m a k = cond (nat_le k 192) (on_number (λ x. told m (lift m x k)) (m.admit a.bytes)) NotLifted

abbrev pub admission_answer : Meaning → Pattern → Answer
admission_answer m a = on_number (λ x. Number (pattern_of m x)) (m.admit a.bytes)

abbrev pub comparison_answer : Meaning → Pattern → Pattern → Answer
comparison_answer m a b = on_numbers m (λ x y. Truth (int_le x y)) a b

-- ---- what code finds two patterns to be: two numbers of the arithmetic; or the cause for which one of them is none, the first if it is
abbrev pub AreOperands : {N : Type 0} → Meaning → (N → ℤ) → Pattern → Pattern → Result (N × N) Cause → Type 0
AreOperands m value a b (Ok p) =
    (number (value p.0) ≡ m.admit a.bytes) × (number (value p.1) ≡ m.admit b.bytes) × IsNumber m (value p.0) × IsNumber m (value p.1)
AreOperands m value a b (Err c) =
    (not_admitted (cause_number c) ≡ m.admit a.bytes) ⊎ ((x : ℤ) × (number x ≡ m.admit a.bytes) × (not_admitted (cause_number c) ≡ m.admit b.bytes))
