-- What a call answers and leaves: the book of the bench goes on by its entries.
use Rattle.std.specs.Prelude.{◌≡◌, List, [], ◌∷◌}
use Rattle.arithmetic.specs.Setting.{Setting}
use Rattle.coefficients.specs.Calls.{Making, State}
use Rattle.coefficients.specs.Book.{Entry, state_after}
use Rattle.bench.specs.Benches.{making_of, state_of, Keeps}
use Rattle.bench.specs.declared.bench.Bench.{Bench}
use Rattle.calls.specs.Cells.{Leaves}
use Rattle.calls.specs.Told.{told, answers}
use Rattle.calls.specs.declared.answer.Answer.{Answer}

-- the entries by which a book goes on from a bench
abbrev pub entries_from : {A N P : Type 0} {g : _} → Setting P → Bench A N P g → (Making → State → List Entry) → List Entry
entries_from st b entries = entries (making_of st b) (state_of st b)

-- the book of a bench goes on by some entries: the state is the one after them, what a bench keeps is kept, and the plain cells that they do
-- not write are left
pub record GoesOn {A N P : Type 0} {g : _} (st : Setting P) (b b' : Bench A N P g) (entries : Making → State → List Entry) : Type 0 where
  pub then : state_of st b' ≡ state_after (making_of st b) (state_of st b) (entries_from st b entries)
  pub keeps : Keeps st b b'
  pub cells : Leaves (making_of st b).K (entries_from st b entries) b.row.now b'.row.now

-- a call answers what they tell
abbrev pub Answers : {A N P : Type 0} {g : _} → Setting P → Bench A N P g → (Making → State → List Entry) → Answer → Type 0
Answers st b entries answer = told answer ∷ [] ≡ answers st.meaning (entries_from st b entries)
