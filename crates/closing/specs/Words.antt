-- The word that a verdict is shown by.
use Rattle.std.specs.Prelude.{ℕ, List, codes}
use Rattle.coefficients.specs.Closing.{Verdict as Defined, right, wrong, left_open}
use Rattle.closing.specs.Closings.{told_verdict}
use Rattle.closing.specs.declared.verdict.Verdict.{Verdict}

abbrev pub word : Defined → List ℕ
word right = codes "right"
word wrong = codes "wrong"
word left_open = codes "open"

abbrev pub verdict_word : Verdict → List ℕ
verdict_word v = word (told_verdict v)
