-- A trial goes from order n down to 1: the refusal of the orders up to k is that of order k, if it is refused, else that of the orders
-- below.
use Rattle.std.proofs.Common.{◌≡◌, ℕ, zero, suc, ◌-◌, ◌<◌, ℤ, List, Option, None, Some, Err, Result, refl, ap, arith}
use Rattle.arithmetic.specs.Meaning.{Meaning}
use Rattle.arithmetic.specs.Setting.{Setting}
use Rattle.coefficients.specs.Row.{Cell as Values, cell, new_cell, Trial, done, stopped, Update, written, refused_at, row_after, put_tried}
use Rattle.row.specs.declared.cell.Cell.{Cell}
use Rattle.row.specs.declared.cell.OutOfRange.{OutOfRange}
use Rattle.row.specs.Operations.{operation_number}
use Rattle.row.specs.Reading.{readings}
use Rattle.row.specs.Answers.{refusal, Tells, Added}

-- by the step of order k, and the refusal below
abbrev pub by_order : ℕ → Trial Values → Option (ℕ × ℕ) → Option (ℕ × ℕ)
by_order k (done c) below = below
by_order k (stopped o) below = Some (k, o)

refusal_put : (k : ℕ) (t : Trial Values) (w : Update) → refusal (put_tried k t w) ≡ by_order k t (refusal w)
refusal_put k (done c) (written row) = refl
refusal_put k (done c) (refused_at j o) = refl
refusal_put k (stopped o) w = refl

module _ (m : Meaning) (x : ℤ) (R : List Values) where
  pub nothing_refused : (k : ℕ) → k ≡ 0 → refusal (row_after m x R k) ≡ None
  unfolding row_after
  nothing_refused zero e = refl
  nothing_refused (suc k) e = absurd (omega arith)

  pub refused_first : (k : ℕ) → 0 < k → refusal (row_after m x R k) ≡ by_order k (new_cell m x (cell R k) (cell R (k - 1))) (refusal (row_after m x R (k - 1)))
  unfolding row_after
  refused_first zero h = absurd (omega arith)
  refused_first (suc j) h = let e : suc j - 1 ≡ j = omega arith in rw e (refusal_put (suc j) (new_cell m x (cell R (suc j)) (cell R j)) (row_after m x R j))

refused_is : (j o : ℕ) (w : Update) → Some (j, o) ≡ refusal w → refused_at j o ≡ w
refused_is j o (written row) e = absurd (cc e)
refused_is j o (refused_at i p) e = let f : ◌≡◌ {A = ℕ × ℕ} (j, o) (i, p) = cc e in cc (ap (λ q. q.0) f, ap (λ q. q.1) f)

-- a refused addition leaves the row as it was
pub refused : {P : Type 0} (st : Setting P) (x : ℤ) (n : ℕ) (r : Result (Unit {0}) OutOfRange) (row : List (Cell P)) (e : OutOfRange) → r ≡ Err e → Tells (Err e) (row_after st.meaning x (readings st row) n) → Added st x n r row row
refused st x n r row e is t = rw is (record { defined = refused_is e.order (operation_number e.operation) (row_after st.meaning x (readings st row) n) t; plain = λ f. absurd (cc f); refused = λ _. refl; first = refl; beyond = refl; long = refl })
