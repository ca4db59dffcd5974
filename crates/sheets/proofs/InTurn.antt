-- A text that was taken, and then another put.
use Rattle.std.proofs.Common.{ℕ, List, ◌++◌, Ok, Err, Result}
use Rattle.report.specs.Puts.{Puts}
use Rattle.report.proofs.Putting.{some_after_first}

pub puts_in_turn : {S X E : Type 0} (takes : S → S → List ℕ → Type 0) → ((r s t : S) (xs ys : List ℕ) → takes r s xs → takes s t ys → takes r t (xs ++ ys)) →
    (r s t : S) (first second : List ℕ) (result : Result X E) → takes r s first → Puts takes s t second result → Puts takes r t (first ++ second) result
puts_in_turn takes in_turn r s t first second (Ok x) p q = in_turn r s t first second p q
puts_in_turn takes in_turn r s t first second (Err e) p q = some_after_first takes in_turn r s t first second p q
