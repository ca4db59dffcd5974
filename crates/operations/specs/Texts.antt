-- How an answer is shown: numbers by their patterns, a refusal by a dash, a cause by its number after an exclamation mark.
use Rattle.std.specs.Prelude.{ℕ, true, false, List, ◌++◌, codes, decimal}
use Rattle.arithmetic.specs.Causes.{cause_number}
use Rattle.patterns.specs.Patterns.{pattern_text}
use Rattle.operations.specs.declared.answer.Answer.{Answer}
use Rattle.operations.specs.declared.answer.Answer.TheVariants.{Number, Split, Truth, Refused, NotAdmitted, NotLifted}

abbrev pub answer_text : Answer → List ℕ
answer_text (Number number) = pattern_text number
answer_text (Split main error) = pattern_text main ++ (codes " " ++ pattern_text error)
answer_text (Truth true) = codes "yes"
answer_text (Truth false) = codes "no"
answer_text Refused = codes "-"
answer_text (NotAdmitted cause) = codes "!" ++ decimal (cause_number cause)
answer_text NotLifted = codes "not lifted"
