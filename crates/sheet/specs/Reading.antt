-- What the code reads, as the definitions say it.
use Rattle.std.specs.Prelude.{◌≡◌, ℕ, suc, ◌<◌, Option, None, Some, Ok, Err, Result}
use Rattle.formats.specs.Words.{told_format}
use Rattle.formats.specs.declared.Format.{Format}
use Rattle.sheet.specs.Layout.{Field as DefinedField, Task as DefinedTask, Slip as DefinedSlip, Opening, opened, refused, asks, examines, Reading, ended, reads, faulty}
use Rattle.sheet.specs.Faults.{told_slip_fault, told_fault}
use Rattle.sheet.specs.declared.fault.SlipFault.{SlipFault}
use Rattle.sheet.specs.declared.fault.SheetFault.{SheetFault}
use Rattle.sheet.specs.declared.slip.Field.{Field}
use Rattle.sheet.specs.declared.slip.Task.{Task}
use Rattle.sheet.specs.declared.slip.Task.TheVariants.{Ask, Examine}
use Rattle.sheet.specs.declared.slip.Slip.{Slip}

-- ---- a slip
abbrev pub told_field : {n : ℕ} → Field n → DefinedField
told_field f = record { place = f.place; bytes = f.bytes.now }

abbrev pub told_zero : Option (Field 8) → Option DefinedField
told_zero None = None
told_zero (Some f) = Some (told_field f)

abbrev pub told_task_of : Task → DefinedTask
told_task_of (Ask order) = asks (told_field order)
told_task_of (Examine order claim tolerance) = examines (told_field order) (told_field claim) (told_field tolerance)

abbrev pub told_task : Option Task → Option DefinedTask
told_task None = None
told_task (Some task) = Some (told_task_of task)

abbrev pub told_slip : Slip → DefinedSlip
told_slip p = record { zero = told_zero p.zero; task = told_task p.task }

-- ---- what a reader answers, where it stands afterwards at the given byte
abbrev pub told_reading : Result (Option Slip) SheetFault → ℕ → Reading
told_reading (Ok None) at = ended
told_reading (Ok (Some p)) at = reads (told_slip p) at
told_reading (Err f) at = faulty (told_fault f)

-- it has moved on, and counted the slip, exactly where it has read one
abbrev pub Moved : Result (Option Slip) SheetFault → ℕ → ℕ → ℕ → ℕ → Type 0
Moved (Ok None) at slips at' slips' = (at' ≡ at) × (slips' ≡ slips)
Moved (Ok (Some p)) at slips at' slips' = (at < at') × (slips' ≡ suc slips)
Moved (Err f) at slips at' slips' = (at' ≡ at) × (slips' ≡ slips)

-- ---- the header of a sheet that is opened
abbrev pub told_opening : {S : Type 0} → (S → Format) → (S → ℕ) → Result S SheetFault → Opening
told_opening format highest (Ok s) = opened (told_format (format s)) (highest s)
told_opening format highest (Err f) = refused (told_fault f)

-- what is answered of one slip: the slip and the byte after it
abbrev pub told_slip_reading : Result (Slip × ℕ) SlipFault → Reading
told_slip_reading (Ok p) = reads (told_slip p.0) p.1
told_slip_reading (Err f) = faulty (told_slip_fault f)
