-- The number of each operation of an addition.
use Rattle.std.specs.Prelude.{ℕ}
use Rattle.row.specs.declared.cell.Operation.{Operation}
use Rattle.row.specs.declared.cell.Operation.TheVariants.{ProductSplit, SumSplit, LocalError, CorrectionSum, CorrectionProduct, Correction, ErrorsSum, ErrorsProduct, Errors}

abbrev pub operation_number : Operation → ℕ
operation_number ProductSplit = 1
operation_number SumSplit = 2
operation_number LocalError = 3
operation_number CorrectionSum = 4
operation_number CorrectionProduct = 5
operation_number Correction = 6
operation_number ErrorsSum = 7
operation_number ErrorsProduct = 8
operation_number Errors = 9
