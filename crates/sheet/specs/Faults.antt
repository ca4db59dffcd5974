-- The faults of the code as faults of the definitions, with their numbers, places and causes.
use Rattle.std.specs.Prelude.{ℕ, List, [], ◌∷◌, Option, None, Some, Ok, Err, Result}
use Rattle.arithmetic.specs.Causes.{cause_number}
use Rattle.arithmetic.specs.declared.cause.Cause.{Cause}
use Rattle.sheet.specs.Layout.{Fault, header_fault, map_fault}
use Rattle.sheet.specs.declared.fault.NumberFault.{NumberFault}
use Rattle.sheet.specs.declared.fault.SlipFault.{SlipFault}
use Rattle.sheet.specs.declared.fault.SlipFault.TheVariants.{Map, Short, Number}
use Rattle.sheet.specs.declared.fault.SheetFault.{SheetFault}
use Rattle.sheet.specs.declared.fault.SheetFault.TheVariants.{Length, Format, HighestOrder, Slip}

abbrev pub told_cause : Option Cause → Option ℕ
told_cause None = None
told_cause (Some c) = Some (cause_number c)

abbrev pub told_number_fault : NumberFault → Fault
told_number_fault f = record { number = 17; place = f.place; cause = Some (cause_number f.cause) }

abbrev pub told_slip_fault : SlipFault → Fault
told_slip_fault (Map place) = map_fault 16 place
told_slip_fault (Short place) = map_fault 19 place
told_slip_fault (Number f) = told_number_fault f

abbrev pub told_fault : SheetFault → Fault
told_fault Length = header_fault 13 0
told_fault Format = header_fault 14 0
told_fault HighestOrder = header_fault 15 1
told_fault (Slip f) = told_slip_fault f

-- the faults that patterns are checked for: none, or the one that was met
abbrev pub told_check : Result (Unit {0}) NumberFault → List Fault
told_check (Ok u) = []
told_check (Err f) = told_number_fault f ∷ []

-- the first of some faults
abbrev pub first_of : List Fault → List Fault
first_of [] = []
first_of (f ∷ fs) = f ∷ []
