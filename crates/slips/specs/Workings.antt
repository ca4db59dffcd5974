-- What working a slip answers, and what reading and working the next slip of a sheet answers and leaves.
use Rattle.std.specs.Prelude.{ℕ, suc, ◌⊎◌, IsSome, List, [], ◌∷◌, Option, None, Some, Ok, Err, Result}
use Rattle.arithmetic.specs.Setting.{Setting}
use Rattle.coefficients.specs.Calls.{Making, State, clear}
use Rattle.coefficients.specs.Book.{Entry, state_after}
use Rattle.bench.specs.Benches.{state_of}
use Rattle.bench.specs.declared.bench.Bench.{Bench}
use Rattle.calls.specs.Entries.{alone}
use Rattle.calls.specs.Told.{Told, told, answers}
use Rattle.calls.specs.declared.answer.Answer.{Answer}
use Rattle.sheet.specs.Layout.{Field, Task, Slip, Fault, Reading, ended, reads, faulty, reading}
use Rattle.sheet.specs.Faults.{told_fault}
use Rattle.sheet.specs.declared.fault.SheetFault.{SheetFault}
use Rattle.sheet.specs.declared.sheet.Reader.{Reader}
use Rattle.slips.specs.Book.{zero_entries, task_entries, slip_entries}
use Rattle.slips.specs.declared.worked.Worked.{Worked}

-- ---- working a slip
-- what is answered to its zero, and what to its task or to its clearing; each is one answer, or none where the slip has no such part
pub record Working : Type 0 where
  pub zero : List Told
  pub task : List Told

abbrev pub working_by : Option Field → Option Task → Making → State → Working
working_by None None b s = record { zero = []; task = answers b.meaning (alone clear b s) }
working_by None (Some task) b s = record { zero = []; task = answers b.meaning (task_entries task b s) }
working_by (Some zero) None b s = record { zero = answers b.meaning (zero_entries zero b s); task = [] }
working_by (Some zero) (Some task) b s =
    record { zero = answers b.meaning (zero_entries zero b s); task = answers b.meaning (task_entries task b (state_after b s (zero_entries zero b s))) }

abbrev pub working : Slip → Making → State → Working
working p b s = working_by p.zero p.task b s

-- as the code answers it
abbrev pub answer_if : Option Answer → List Told
answer_if None = []
answer_if (Some a) = told a ∷ []

abbrev pub told_worked : Worked → Working
told_worked w = record { zero = answer_if w.zero; task = answer_if w.task }

-- to one part at least there is an answer
abbrev pub IsAnswered : Worked → Type 0
IsAnswered w = IsSome w.zero ⊎ IsSome w.task

-- ---- reading and working the next slip
-- where the reading stands: the next byte, the count of slips before it, and the state of the bench
pub record Stand : Type 0 where
  pub byte : ℕ
  pub slips : ℕ
  pub state : State

pub data Next : Type 0 where
  -- the sheet's end
  no_more : Next
  worked : Working → Next
  -- the slip has a fault and stays unread
  stopped_at : Fault → Next

abbrev pub next_by : Making → State → Reading → Next
next_by b s ended = no_more
next_by b s (reads p end) = worked (working p b s)
next_by b s (faulty f) = stopped_at f

-- the entries that are added to the book of the bench
abbrev pub entries_by_reading : Making → State → Reading → List Entry
entries_by_reading b s ended = []
entries_by_reading b s (reads p end) = slip_entries p b s
entries_by_reading b s (faulty f) = []

abbrev pub stand_by : Making → Stand → Reading → Stand
stand_by b s ended = s
stand_by b s (reads p end) = record { byte = end; slips = suc s.slips; state = state_after b s.state (slip_entries p b s.state) }
stand_by b s (faulty f) = s

-- as the code answers it
abbrev pub told_next : Result (Option Worked) SheetFault → Next
told_next (Ok None) = no_more
told_next (Ok (Some w)) = worked (told_worked w)
told_next (Err f) = stopped_at (told_fault f)

abbrev pub stand : {A N P : Type 0} {g : _} → Setting P → Reader → Bench A N P g → Stand
stand st r bench = record { byte = r.at; slips = r.slips; state = state_of st bench }

abbrev pub next_reading : {P : Type 0} → Setting P → Reader → Reading
next_reading st r = reading st.meaning r.bytes.now r.at r.slips
