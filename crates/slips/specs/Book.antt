-- The book that the slips of a sheet write: each adds the entries of its calls. A zero is added first; an order alone is asked; with a
-- claim a question is issued and the claim marked. A slip with neither a zero nor an order clears.
use Rattle.std.specs.Prelude.{ℕ, List, [], ◌∷◌, ◌++◌, Option, None, Some, slice_index}
use Rattle.coefficients.specs.Calls.{Making, State, add, clear, ask}
use Rattle.coefficients.specs.Book.{Entry, state_after}
use Rattle.calls.specs.Entries.{alone, examination}
use Rattle.sheet.specs.Layout.{Field, Task, asks, examines, Slip}

-- the order in a field of one byte
abbrev pub order_in : Field → ℕ
order_in f = slice_index f.bytes 0

abbrev pub zero_entries : Field → Making → State → List Entry
zero_entries zero = alone (add zero.bytes)

abbrev pub task_entries : Task → Making → State → List Entry
task_entries (asks order) = alone (ask (order_in order))
task_entries (examines order claim tolerance) = examination (order_in order) claim.bytes tolerance.bytes

-- some entries, and then others from the state that they lead to
abbrev pub in_turn : (Making → State → List Entry) → (Making → State → List Entry) → Making → State → List Entry
in_turn first second b s = first b s ++ second b (state_after b s (first b s))

abbrev pub entries_by : Option Field → Option Task → Making → State → List Entry
entries_by None None = alone clear
entries_by None (Some task) = task_entries task
entries_by (Some zero) None = zero_entries zero
entries_by (Some zero) (Some task) = in_turn (zero_entries zero) (task_entries task)

abbrev pub slip_entries : Slip → Making → State → List Entry
slip_entries p = entries_by p.zero p.task

-- the book of some slips
abbrev pub book_of : List Slip → Making → State → List Entry
book_of [] b s = []
book_of (p ∷ ps) b s = in_turn (slip_entries p) (book_of ps) b s
