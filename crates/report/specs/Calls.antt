-- The report calls of the code as those of the definitions.
use Rattle.std.specs.Prelude.{◌≡◌, ℕ, List, ◌++◌, length, drop, Option, None, Some, Ok, Err, Result}
use Rattle.arithmetic.specs.Setting.{Setting}
use Rattle.bench.specs.Benches.{making_of, state_of}
use Rattle.bench.specs.declared.bench.Bench.{Bench}
use Rattle.sheet.specs.Layout.{Fault, Reading}
use Rattle.sheet.specs.Faults.{told_fault}
use Rattle.sheet.specs.declared.fault.SheetFault.{SheetFault}
use Rattle.slips.specs.Workings.{next_reading as reading_at}
use Rattle.report.specs.Steps.{ReportState, ReportAnswer, no_room, wrote, stopped_at, ReportStep, step_by_reading, report_step}
use Rattle.report.specs.declared.report.Report.{Report}
use Rattle.report.specs.declared.refusal.Unreported.{Unreported}
use Rattle.report.specs.declared.refusal.Unreported.TheVariants.{NoRoom, Faulty}

-- ---- the fault that was met, if one was
abbrev pub told_kept : Option SheetFault → Option Fault
told_kept None = None
told_kept (Some f) = Some (told_fault f)

-- ---- where a report and its bench stand
-- at a byte, after so many slips, with the fault that was met
abbrev pub report_state : {A N P : Type 0} {g : _} → Setting P → Report → Bench A N P g → ReportState
report_state st r bench = record { byte = r.reader.at; slips = r.reader.slips; fault = told_kept r.fault; state = state_of st bench }

-- the report call that is defined for them, with a line buffer of so many bytes
abbrev pub step_of : {A N P : Type 0} {g : _} → Setting P → Report → Bench A N P g → ℕ → ReportStep
step_of st r bench room = report_step (making_of st bench) r.reader.bytes.now room (report_state st r bench)

-- the next reading of a report, and the report call by it: what is defined where no fault was met and the line buffer fits
abbrev pub next_reading : {P : Type 0} → Setting P → Report → Reading
next_reading st r = reading_at st r.reader

abbrev pub slip_step : {A N P : Type 0} {g : _} → Setting P → Report → Bench A N P g → ReportStep
slip_step st r bench = step_by_reading (making_of st bench) (report_state st r bench) (next_reading st r)

-- ---- what a report call answers
-- a text is written at the start of a buffer, its length is answered, and the rest of the buffer is left
abbrev pub Written : List ℕ → ℕ → List ℕ → List ℕ → Type 0
Written text n old new = (n ≡ length text) × (new ≡ text ++ drop n old)

-- what a report call answers, and what it does to the buffer
abbrev pub Answers : Result ℕ Unreported → List ℕ → List ℕ → ReportAnswer → Type 0
Answers (Ok n) old new answer = (text : List ℕ) × (answer ≡ wrote text) × Written text n old new
Answers (Err (NoRoom u)) old new answer = (answer ≡ no_room) × (new ≡ old)
Answers (Err (Faulty f)) old new answer = (answer ≡ stopped_at (told_fault f)) × (new ≡ old)

-- ---- the number of a refusal: 18 for a buffer that is too small, else that of the fault
abbrev pub unreported_number : Unreported → ℕ
unreported_number (NoRoom u) = 18
unreported_number (Faulty f) = (told_fault f).number
