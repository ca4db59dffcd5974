-- The number of each operation of closing, and of judging.
use Rattle.std.specs.Prelude.{ℕ}
use Rattle.closing.specs.declared.operation.ClosingOperation.{ClosingOperation}
use Rattle.closing.specs.declared.operation.ClosingOperation.TheVariants.{ValueSplit, Gamma, GammaProduct, LiftedProduct, BoundSum, Bound}
use Rattle.closing.specs.declared.verdict.JudgingOperation.{JudgingOperation}
use Rattle.closing.specs.declared.verdict.JudgingOperation.TheVariants.{Difference, NearSum, Near, FarSum, Far}

abbrev pub closing_number : ClosingOperation → ℕ
closing_number ValueSplit = 1
closing_number Gamma = 2
closing_number GammaProduct = 3
closing_number LiftedProduct = 4
closing_number BoundSum = 5
closing_number Bound = 6

abbrev pub judging_number : JudgingOperation → ℕ
judging_number Difference = 1
judging_number NearSum = 2
judging_number Near = 3
judging_number FarSum = 4
judging_number Far = 5
