-- The six calls of a bench: `step` gives the answer of each and the state after it. The questions of a call are asked in the
-- order of the conditions; the first one answered no gives the refusal's number and details, and the state stays.
use Rattle.std.specs.Prelude.{ℕ, suc, ◌-◌, min, cond, ◌&&◌, List, [], ◌∷◌, ℤ, pos, ◌==◌, int_le, nat_le, nat_lt}
use Rattle.std.proofs.Math.Option.{Option, none, some}
use Rattle.arithmetic.specs.Meaning.{Meaning, Admission, number, not_admitted}
use Rattle.arithmetic.specs.Operations.{in_limits}
use Rattle.coefficients.specs.Row.{Cell, cell, new_row, Trial, done, stopped, Update, written, refused_at, row_after}
use Rattle.coefficients.specs.Closing.{Closed, close, Verdict, verdict}

-- what a bench was made with: its arithmetic, its number, and the highest order K of its row
pub record Making : Type 0 where
  pub meaning : Meaning
  pub bench_number : ℕ
  pub K : ℕ

-- the row, the count of zeros held, and the count of questions out: issued less marked less withdrawn
pub record State : Type 0 where
  pub row : List Cell
  pub held : ℕ
  pub out : ℕ

pub data Call : Type 0 where
  -- the eight bytes of a zero
  add : List ℕ → Call
  clear : Call
  -- an order
  ask : ℕ → Call
  issue : ℕ → Call
  -- a question's bench number and order, then the eight bytes of the claim and of the tolerance
  mark : ℕ → ℕ → List ℕ → List ℕ → Call
  withdraw : ℕ → ℕ → Call

pub data Answer : Type 0 where
  -- the number of the zero
  added : ℕ → Answer
  cleared : Answer
  -- the value and the bound
  asked : ℤ → ℤ → Answer
  -- the question's bench number and order
  issued : ℕ → ℕ → Answer
  marked : Verdict → Answer
  withdrawn : Answer
  -- a refusal's number and details
  refused : ℕ → List ℕ → Answer

-- question 1, asked of a row before a making: has it 2 to 65 cells?
abbrev pub row_refusal : ℕ → Option Answer
row_refusal cells = cond (nat_le 2 cells && nat_le cells 65) none (some (refused 1 []))

pub record Step : Type 0 where
  pub answer : Answer
  pub then : State

abbrev pub refuse : State → ℕ → List ℕ → Step
refuse s r details = record { answer = refused r details; then = s }

abbrev pub new_bench : Making → State
new_bench b = record { row = new_row b.meaning b.K; held = 0; out = 0 }

-- ---- adding: 17 with the cause, 2, 3, 4, 5 with order and operation
abbrev pub add_updated : State → Update → Step
add_updated s (written row) = record { answer = added (suc s.held); then = record { row = row; held = suc s.held; out = s.out } }
add_updated s (refused_at j o) = refuse s 5 (j ∷ o ∷ [])

abbrev pub add_number : Making → State → ℤ → Step
add_number b s x =
    cond (s.out == 0) (
    cond (nat_lt s.held 64) (
    cond (in_limits b.meaning x) (
    add_updated s (row_after b.meaning x s.row (min (suc s.held) b.K)))
    (refuse s 4 [])) (refuse s 3 [])) (refuse s 2 [])

abbrev pub add_admitted : Making → State → Admission → Step
add_admitted b s (number x) = add_number b s x
add_admitted b s (not_admitted c) = refuse s 17 (c ∷ [])

-- ---- asking: 6, 7, 8 with the operation
abbrev pub order_checked : Making → State → ℕ → Step → Step
order_checked b s k next = cond (nat_le k b.K) (cond (nat_le k s.held) next (refuse s 7 [])) (refuse s 6 [])

abbrev pub ask_closed : State → Trial Closed → Step
ask_closed s (done v) = record { answer = asked v.value v.bound; then = s }
ask_closed s (stopped o) = refuse s 8 (o ∷ [])

-- ---- marking: 17 with the cause for the claim and then for the tolerance, 10, 6, 7, 11, 8 and 12 with the operation
abbrev pub question_checked : Making → State → ℕ → Step → Step
question_checked b s question next = cond (question == b.bench_number && nat_lt 0 s.out) next (refuse s 10 [])

abbrev pub mark_judged : State → Trial Verdict → Step
mark_judged s (done v) = record { answer = marked v; then = record { row = s.row; held = s.held; out = s.out - 1 } }
mark_judged s (stopped o) = refuse s 12 (o ∷ [])

abbrev pub mark_closed : Making → State → ℤ → ℤ → Trial Closed → Step
mark_closed b s claim T (done v) = mark_judged s (verdict b.meaning v claim T)
mark_closed b s claim T (stopped o) = refuse s 8 (o ∷ [])

abbrev pub mark_numbers : Making → State → ℕ → ℕ → ℤ → ℤ → Step
mark_numbers b s question k claim T =
    question_checked b s question (
    order_checked b s k (
    cond (int_le (pos 0) T) (
    mark_closed b s claim T (close b.meaning (cell s.row k) s.held k))
    (refuse s 11 [])))

abbrev pub mark_tolerance : Making → State → ℕ → ℕ → ℤ → Admission → Step
mark_tolerance b s question k claim (number T) = mark_numbers b s question k claim T
mark_tolerance b s question k claim (not_admitted c) = refuse s 17 (c ∷ [])

abbrev pub mark_admitted : Making → State → ℕ → ℕ → Admission → Admission → Step
mark_admitted b s question k (number claim) T = mark_tolerance b s question k claim T
mark_admitted b s question k (not_admitted c) T = refuse s 17 (c ∷ [])

-- ---- one call
unfoldable pub step : Making → State → Call → Step
step b s (add bytes) = add_admitted b s (b.meaning.admit bytes)
-- clearing: 2
step b s clear = cond (s.out == 0) (record { answer = cleared; then = record { row = new_row b.meaning b.K; held = 0; out = s.out } }) (refuse s 2 [])
step b s (ask k) = order_checked b s k (ask_closed s (close b.meaning (cell s.row k) s.held k))
-- issuing: 6, 7, 9
step b s (issue k) = order_checked b s k (cond (nat_lt s.out 32) (record { answer = issued b.bench_number k; then = record { row = s.row; held = s.held; out = suc s.out } }) (refuse s 9 []))
step b s (mark question k claim tolerance) = mark_admitted b s question k (b.meaning.admit claim) (b.meaning.admit tolerance)
-- withdrawing: 10
step b s (withdraw question k) = question_checked b s question (record { answer = withdrawn; then = record { row = s.row; held = s.held; out = s.out - 1 } })
