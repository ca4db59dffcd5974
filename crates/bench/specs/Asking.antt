-- What the bench's inner functions ask and answer.
use Rattle.std.specs.Prelude.{ℕ, ◌-◌, ◌<◌, Bool, cond, ◌&&◌, Ok, Err, Result, ◌==◌, nat_le, nat_lt}
use Rattle.closing.specs.Closings.{told_verdict}
use Rattle.closing.specs.declared.verdict.Verdict.{Verdict}
use Rattle.coefficients.specs.Calls.{State, Step, marked}
use Rattle.bench.specs.Answers.{told_refusal}
use Rattle.bench.specs.declared.refusal.Refusal.{Refusal}
use Rattle.bench.specs.declared.refusal.Refusal.TheVariants.{OrderAboveRow, OrderAboveZeros}

-- questions 6 and 7, by their answers
abbrev pub by_answers : Bool → Bool → Result (Unit {0}) Refusal
by_answers in_row in_zeros = cond in_row (cond in_zeros (Ok tt) (Err OrderAboveZeros)) (Err OrderAboveRow)

-- questions 6 and 7 of order k, with highest order K and n zeros held
abbrev pub order_outcome : ℕ → ℕ → ℕ → Result (Unit {0}) Refusal
order_outcome K n k = by_answers (nat_le k K) (nat_le k n)

-- question 10: the bench number is the same, and one is out
abbrev pub question_out : ℕ → ℕ → ℕ → Bool
question_out question bench out = question == bench && nat_lt 0 out

-- the step of a marking: the count falls where a verdict is given
abbrev pub marking_step : State → Result Verdict Refusal → Step
marking_step s (Ok v) = record { answer = marked (told_verdict v); then = record { row = s.row; held = s.held; out = s.out - 1 } }
marking_step s (Err r) = record { answer = told_refusal r; then = s }

-- where a verdict is given, a question is out
abbrev pub JudgedOut : Result Verdict Refusal → ℕ → Type 0
JudgedOut (Ok v) out = 0 < out
JudgedOut (Err r) out = Unit {0}
