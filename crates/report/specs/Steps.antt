-- One report call: its answer, and where the report and its bench stand then.
use Rattle.std.specs.Prelude.{ℕ, suc, Bool, true, false, cond, List, [], Option, None, Some, nat_le}
use Rattle.coefficients.specs.Calls.{Making, State}
use Rattle.coefficients.specs.Book.{Entry, state_after}
use Rattle.calls.specs.Lines.{lines}
use Rattle.sheet.specs.Layout.{Fault, Reading, ended, reads, faulty, reading}
use Rattle.sheet.specs.Contents.{Ending, whole, broken}
use Rattle.slips.specs.Book.{slip_entries}

-- the next byte to be read, the count of slips before it, the fault that was met, and the state of the bench
pub record ReportState : Type 0 where
  pub byte : ℕ
  pub slips : ℕ
  pub fault : Option Fault
  pub state : State

pub data ReportAnswer : Type 0 where
  -- 18: the line buffer has not 128 bytes
  no_room : ReportAnswer
  -- the lines of a slip; none at the sheet's end
  wrote : List ℕ → ReportAnswer
  -- the slip has a fault and stays unread
  stopped_at : Fault → ReportAnswer

-- the lines that a call writes
abbrev pub lines_answered : ReportAnswer → List ℕ
lines_answered no_room = []
lines_answered (wrote text) = text
lines_answered (stopped_at f) = []

-- a slip was read, neither the sheet's end nor a fault
abbrev pub is_slip : Reading → Bool
is_slip ended = false
is_slip (reads p end) = true
is_slip (faulty f) = false

pub record ReportStep : Type 0 where
  pub answer : ReportAnswer
  -- the entries that are added to the book of the bench; none but where a slip is read
  pub entries : List Entry
  pub then : ReportState

-- by the reading of the next slip: its lines are written and its entries made; a fault is kept
abbrev pub step_by_reading : Making → ReportState → Reading → ReportStep
step_by_reading b s ended = record { answer = wrote []; entries = []; then = s }
step_by_reading b s (reads p end) =
    record {
      answer = wrote (lines b.meaning (slip_entries p b s.state));
      entries = slip_entries p b s.state;
      then = record { byte = end; slips = suc s.slips; fault = None; state = state_after b s.state (slip_entries p b s.state) };
    }
step_by_reading b s (faulty f) = record { answer = stopped_at f; entries = []; then = record { byte = s.byte; slips = s.slips; fault = Some f; state = s.state } }

-- a fault that was met is told again
abbrev pub step_by_fault : Making → List ℕ → ReportState → Option Fault → ReportStep
step_by_fault b sheet s None = step_by_reading b s (reading b.meaning sheet s.byte s.slips)
step_by_fault b sheet s (Some f) = record { answer = stopped_at f; entries = []; then = s }

-- with a line buffer of so many bytes
abbrev pub report_step : Making → List ℕ → ℕ → ReportState → ReportStep
report_step b sheet room s = cond (nat_le 128 room) (step_by_fault b sheet s s.fault) (record { answer = no_room; entries = []; then = s })

-- how the reading has ended, for the last call: at the fault that was met, else after so many slips
abbrev pub ending_by : ℕ → Option Fault → Ending
ending_by slips None = whole slips
ending_by slips (Some f) = broken f
