-- The step of an issuing, by the outcome of questions 6 and 7.
use Rattle.std.proofs.Common.{◌≡◌, ℕ, suc, Bool, true, false, cond, leb, ltb, [], Ok, Err, Result, refl}
use Rattle.coefficients.specs.Calls.{Making, State, Step, step, issue, issued, refuse}
use Rattle.bench.specs.Answers.{told_refusal}
use Rattle.bench.specs.Asking.{by_answers, order_outcome}
use Rattle.bench.specs.declared.refusal.Refusal.{Refusal}

abbrev pub by_order : State → Step → Result (Unit {0}) Refusal → Step
by_order s next (Ok u) = next
by_order s next (Err r) = record { answer = told_refusal r; then = s }

order_first : (s : State) (next : Step) (t u : Bool) → cond t (cond u next (refuse s 7 [])) (refuse s 6 []) ≡ by_order s next (by_answers t u)
order_first s next true true = refl
order_first s next true false = refl
order_first s next false u = refl

pub issue_step : (b : Making) (s : State) (k : ℕ) →
    step b s (issue k) ≡ by_order s (cond (ltb s.out 32) (record { answer = issued b.bench_number k; then = record { row = s.row; held = s.held; out = suc s.out } }) (refuse s 9 [])) (order_outcome b.K s.held k)
unfolding step
issue_step b s k = order_first s _ (leb k b.K) (leb k s.held)
