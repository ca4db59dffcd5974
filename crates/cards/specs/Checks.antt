-- When the answer to the call of a line agrees with what is expected of it, and how the bench stands after the line.
use Rattle.std.specs.Prelude.{◌≡◌, ℕ, ◌⊎◌, List, ◌++◌}
use Rattle.coefficients.specs.Calls.{Making, State}
use Rattle.coefficients.specs.Book.{state_after}
use Rattle.calls.specs.Entries.{entries}
use Rattle.calls.specs.Lines.{newline, lines}
use Rattle.calls.specs.declared.call.Call.{Call}
use Rattle.cards.specs.Questions.{LineTells}

-- the line tells a call, and what is expected is the line, without its end, of the entries by which the book of the bench then goes on
pub record Agrees (b : Making) (s : State) (line : List ℕ) : Type 0 where
  pub call : Call
  pub expected : List ℕ
  pub told : LineTells line call expected
  pub shown : lines b.meaning (entries call b s) ≡ expected ++ newline

-- the state t comes after a line: the book has gone on by the entries of the call that the line tells, or not at all where it tells none
abbrev pub LeadsTo : Making → State → List ℕ → State → Type 0
LeadsTo b s line t =
    ((c : Call) × (expected : List ℕ) × LineTells line c expected × (t ≡ state_after b s (entries c b s)))
    ⊎ (((c : Call) (expected : List ℕ) → ¬ (LineTells line c expected)) × (t ≡ s))
