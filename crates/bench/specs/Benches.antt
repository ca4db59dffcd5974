-- A bench as the definitions see it, and what its calls promise.
use Rattle.std.specs.Prelude.{◌≡◌, ℕ, suc, ◌-◌, ◌<◌, Bool, true, false, List, map, length, take, drop, slice_index_or, Result}
use Rattle.arithmetic.specs.Setting.{Setting}
use Rattle.coefficients.specs.Row.{new_row}
use Rattle.coefficients.specs.Calls.{Making, State, Call, Answer, step}
use Rattle.coefficients.specs.Law.{CallLaw}
use Rattle.row.specs.Reading.{readings, plain_cell, Canonical, AreCanonical}
use Rattle.row.specs.declared.cell.Cell.{Cell}
use Rattle.closing.specs.declared.verdict.Verdict.{Verdict}
use Rattle.bench.specs.Asking.{marking_step}
use Rattle.bench.specs.declared.refusal.Refusal.{Refusal}
use Rattle.bench.specs.declared.bench.Bench.{Bench}

-- what the bench was made with: the row has K + 1 cells
abbrev pub making_of : {A N P : Type 0} {g : _} → Setting P → Bench A N P g → Making
making_of st b = record { meaning = st.meaning; bench_number = b.number; K = length b.row.now - 1 }

-- how it stands: its plain cells as they read through the arithmetic's setting, and its counts
abbrev pub state_of : {A N P : Type 0} {g : _} → Setting P → Bench A N P g → State
state_of st b = record { row = readings st b.row.now; held = b.held; out = b.out }

-- the law at a call, as one fact
unfoldable pub LawAt : Making → State → Call → Answer → Type 0
LawAt b s call answer = CallLaw b s call answer

-- a call was answered as defined, the state after it is the one defined, and the law holds at this call
pub record Called (b : Making) (s s' : State) (call : Call) (answer : Answer) : Type 0 where
  pub answered : answer ≡ (step b s call).answer
  pub then : s' ≡ (step b s call).then
  pub law : LawAt b s call answer

-- the same of a bench before and after a call
abbrev pub AnswersCall : {A N P : Type 0} {g : _} → Setting P → Bench A N P g → Bench A N P g → Call → Answer → Type 0
AnswersCall st b b' call answer = Called (making_of st b) (state_of st b) (state_of st b') call answer

-- a claim was judged as the defined marking judges it: the answer is the marking's, and the state after the marking is that in which
-- one question less is out where a verdict is given
abbrev pub JudgesCall : {A N P : Type 0} {g : _} → Setting P → Bench A N P g → Call → Result Verdict Refusal → Type 0
JudgesCall st b call r = Called (making_of st b) (state_of st b) (marking_step (state_of st b) r).then call (marking_step (state_of st b) r).answer

-- what every call keeps: what the bench was made with, and the lent row with its length; and a row whose plain cells are all kept as this
-- arithmetic writes them stays so
pub record Keeps {A N P : Type 0} {g : _} (st : Setting P) (b b' : Bench A N P g) : Type 0 where
  pub making : making_of st b' ≡ making_of st b
  pub number : b'.number ≡ b.number
  pub long : length b'.row.now ≡ length b.row.now
  pub lender : b'.row.ghost_name ≡ b.row.ghost_name
  pub plain : AreCanonical st b.row.now → AreCanonical st b'.row.now

-- the plain cells after an addition to the orders 1 to n: all as they were if it is refused; cell 0 and those past n as they were; and
-- those that it writes kept as the arithmetic writes what they read as
pub record AdditionLeaves {P : Type 0} (st : Setting P) (n : ℕ) (accepted : Bool) (old new : List (Cell P)) : Type 0 where
  pub refused : accepted ≡ false → new ≡ old
  pub first : take 1 new ≡ take 1 old
  pub beyond : drop (suc n) new ≡ drop (suc n) old
  pub written : accepted ≡ true → (j : ℕ) → j < n → (d : Cell P) → Canonical st (slice_index_or new (suc j) d)

-- the plain cells after a clearing: all as they were if it is refused, else those of a new row
pub record ClearingLeaves {P : Type 0} (st : Setting P) (accepted : Bool) (old new : List (Cell P)) : Type 0 where
  pub refused : accepted ≡ false → new ≡ old
  pub renewed : accepted ≡ true → new ≡ map (plain_cell st) (new_row st.meaning (length old - 1))
