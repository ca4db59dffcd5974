-- What `coef_operate` answers, by the definitions of the operations. A pattern is held as a number of 64 bits: its eight bytes, the highest
-- first.
use Rattle.std.specs.Prelude.{ℕ, cond, ℤ, Option, Some, None, ◌==◌, true, false}
use Rattle.std.specs.Int.{w64, to_be_bytes, from_be_bytes}
use Rattle.arithmetic.specs.Meaning.{Meaning}
use Rattle.arithmetic.specs.Causes.{cause_number}
use Rattle.formats.specs.Formats.{Format, format_of, meaning_of}
use Rattle.patterns.specs.declared.Pattern.{Pattern}
use Rattle.operations.specs.declared.answer.Answer.{Answer}
use Rattle.operations.specs.declared.answer.Answer.TheVariants.{Number, Split, Truth, Refused, NotAdmitted, NotLifted}
use Rattle.operations.specs.Answers.{split_sum_answer, split_product_answer, lift_answer, admission_answer, comparison_answer}
use Rattle.exports.specs.declared.operating.OutsideAnswer.{OutsideAnswer}

-- the pattern of a number of 64 bits; the pattern of a number of the arithmetic, as a number of 64 bits
abbrev pub pattern : ℕ → Pattern
pattern a = record { bytes = to_be_bytes w64 a }

abbrev pub pattern_of : Meaning → ℤ → ℕ
pattern_of m z = from_be_bytes w64 (m.pattern z)

-- ---- answers as a caller outside has them
-- an outcome without a number
abbrev pub no_number : ℕ → OutsideAnswer
no_number outcome = record { outcome = outcome; main = 0; error = 0 }

-- 0 with the patterns of what is answered, or with 1 for yes and 0 for no; 4 for a refusal; the number of the cause for which an operand is no
-- number; 5 for a lift that is not
abbrev pub outside : Answer → OutsideAnswer
outside (Number a) = record { outcome = 0; main = from_be_bytes w64 a.bytes; error = 0 }
outside (Split a b) = record { outcome = 0; main = from_be_bytes w64 a.bytes; error = from_be_bytes w64 b.bytes }
outside (Truth true) = record { outcome = 0; main = 1; error = 0 }
outside (Truth false) = record { outcome = 0; main = 0; error = 0 }
outside Refused = no_number 4
outside (NotAdmitted c) = no_number (cause_number c)
outside NotLifted = no_number 5

-- by the number of the operation
abbrev pub operated : Meaning → ℕ → ℕ → ℕ → OutsideAnswer
operated m operation a b =
    cond (operation == 1) (outside (split_sum_answer m (pattern a) (pattern b)))
    (cond (operation == 2) (outside (split_product_answer m (pattern a) (pattern b)))
    (cond (operation == 3) (outside (lift_answer m (pattern a) b))
    (cond (operation == 4) (outside (admission_answer m (pattern a)))
    (cond (operation == 5) (outside (comparison_answer m (pattern a) (pattern b))) (no_number 5)))))

-- in the arithmetic of a format, where there is one
abbrev pub operated_in : Option Format → ℕ → ℕ → ℕ → OutsideAnswer
operated_in (Some format) operation a b = operated (meaning_of format) operation a b
operated_in None operation a b = no_number 5

-- by the number of the format
abbrev pub operate_in : ℕ → ℕ → ℕ → ℕ → OutsideAnswer
operate_in number operation a b = operated_in (format_of number) operation a b
