-- Making decimal with d digits: it is made for four to eight digits, and refused with 20 for any other count.
use Rattle.std.specs.Prelude.{ℕ, cond, Ok, Err, Result}
use Rattle.scientific.specs.Precisions.{is_precision}
use Rattle.decimal.specs.declared.Decimal.{Decimal}
use Rattle.decimal.specs.declared.refusal.Refusal.{Refusal}
use Rattle.decimal.specs.declared.refusal.Refusal.TheVariants.{Digits}

-- what the making answers
pub data MakingAnswer : Type 0 where
  -- decimal with so many digits
  made : ℕ → MakingAnswer
  -- by the question with this number
  refused : ℕ → MakingAnswer

-- 20: is d from four to eight?
abbrev pub making_answer : ℕ → MakingAnswer
making_answer d = cond (is_precision d) (made d) (refused 20)

-- ---- what the code answers
abbrev pub refusal_number : Refusal → ℕ
refusal_number Digits = 20

abbrev pub told_making : Result Decimal Refusal → MakingAnswer
told_making (Ok a) = made a.precision.digits
told_making (Err r) = refused (refusal_number r)
