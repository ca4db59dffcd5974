-- The number and the details of each refusal of the code, and how it is shown.
use Rattle.std.specs.Prelude.{ℕ, List, [], ◌∷◌, ◌++◌, flat_map, Option, None, Some, codes, decimal}
use Rattle.arithmetic.specs.Causes.{cause_number}
use Rattle.row.specs.Operations.{operation_number}
use Rattle.closing.specs.Operations.{closing_number, judging_number}
use Rattle.bench.specs.declared.refusal.Details.{Details}
use Rattle.bench.specs.declared.refusal.Details.TheVariants.{Adding, Closing, Judging, Admitting}
use Rattle.bench.specs.declared.refusal.Refusal.{Refusal}
use Rattle.bench.specs.declared.refusal.Refusal.TheVariants.{RowLength, QuestionOut, Full, ZeroOutOfLimits, AddingOutOfRange, OrderAboveRow, OrderAboveZeros, ClosingOutOfRange, TooManyOut, NotOut, ToleranceBelowZero, JudgingOutOfRange, NotAdmitted}

abbrev pub refusal_number : Refusal → ℕ
refusal_number RowLength = 1
refusal_number QuestionOut = 2
refusal_number Full = 3
refusal_number ZeroOutOfLimits = 4
refusal_number (AddingOutOfRange at) = 5
refusal_number OrderAboveRow = 6
refusal_number OrderAboveZeros = 7
refusal_number (ClosingOutOfRange operation) = 8
refusal_number TooManyOut = 9
refusal_number NotOut = 10
refusal_number ToleranceBelowZero = 11
refusal_number (JudgingOutOfRange operation) = 12
refusal_number (NotAdmitted cause) = 17

-- the details of a refusal, by their kind
abbrev pub details_of : Refusal → Option Details
details_of RowLength = None
details_of QuestionOut = None
details_of Full = None
details_of ZeroOutOfLimits = None
details_of (AddingOutOfRange at) = Some (Adding at)
details_of OrderAboveRow = None
details_of OrderAboveZeros = None
details_of (ClosingOutOfRange operation) = Some (Closing operation)
details_of TooManyOut = None
details_of NotOut = None
details_of ToleranceBelowZero = None
details_of (JudgingOutOfRange operation) = Some (Judging operation)
details_of (NotAdmitted cause) = Some (Admitting cause)

-- details as they are told, in their order
abbrev pub told_details : Option Details → List ℕ
told_details None = []
told_details (Some (Adding at)) = at.order ∷ operation_number at.operation ∷ []
told_details (Some (Closing operation)) = closing_number operation ∷ []
told_details (Some (Judging operation)) = judging_number operation ∷ []
told_details (Some (Admitting cause)) = cause_number cause ∷ []

abbrev pub refusal_details : Refusal → List ℕ
refusal_details r = told_details (details_of r)

-- a detail is shown after a space
abbrev pub detail_text : ℕ → List ℕ
detail_text d = codes " " ++ decimal d

-- how a refusal is shown: its number, then its details
abbrev pub refusal_text : Refusal → List ℕ
refusal_text r = decimal (refusal_number r) ++ flat_map detail_text (refusal_details r)
