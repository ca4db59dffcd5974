-- The definition of an addition puts the new cells from order 1 upwards, the code from order n downwards. Both give one row:
-- a cell is made from the old row alone, and cells put at different orders do not disturb each other.
use Rattle.std.proofs.Common.{◌≡◌, ℕ, zero, suc, ◌<◌, List, set, ℤ, sym, refl, ap, ◌∙◌, arith}
use lib.Seq.{set_comm}
use Rattle.arithmetic.specs.Meaning.{Meaning}
use Rattle.coefficients.specs.Row.{Cell as Values, cell, Trial, done, stopped, Update, written, refused_at, new_cell, row_after, put, put_tried}

module _ (m : Meaning) (x : ℤ) (R : List Values) where
  abbrev tried_onto : ℕ → Trial Values → (List Values → Update) → List Values → Update
  tried_onto j (done c) next acc = next (set acc j c)
  tried_onto j (stopped o) next acc = refused_at j o

  -- the orders j down to 1, in that order, written to the row acc
  unfoldable pub onto : List Values → ℕ → Update
  onto acc zero = written acc
  onto acc (suc j) = tried_onto (suc j) (new_cell m x (cell R (suc j)) (cell R j)) (λ a. onto a j) acc

  put_onto : (j i : ℕ) → j < i → (c : Values) (acc : List Values) → put i c (onto acc j) ≡ onto (set acc i c) j
  unfolding onto
  put_onto zero i lt c acc = refl
  put_onto (suc j) i lt c acc = by (λ acc. put_onto j i (omega arith) c acc) (new_cell m x (cell R (suc j)) (cell R j))
    where
      by : ((acc : List Values) → put i c (onto acc j) ≡ onto (set acc i c) j) → (t : Trial Values) → put i c (tried_onto (suc j) t (λ a. onto a j) acc) ≡ tried_onto (suc j) t (λ a. onto a j) (set acc i c)
      by ih (done c') = ih (set acc (suc j) c') ∙ ap (λ a. onto a j) (set_comm acc (suc j) i c' c (λ e. omega arith))
      by ih (stopped o) = refl

  pub row_onto : (j : ℕ) → row_after m x R j ≡ onto R j
  unfolding row_after onto
  row_onto zero = refl
  row_onto (suc j) = by (row_onto j) (new_cell m x (cell R (suc j)) (cell R j))
    where
      by : row_after m x R j ≡ onto R j → (t : Trial Values) → put_tried (suc j) t (row_after m x R j) ≡ tried_onto (suc j) t (λ a. onto a j) R
      by ih (done c) = ap (put (suc j) c) ih ∙ put_onto j (suc j) (omega arith) c R
      by ih (stopped o) = refl

  pub onto_none : (acc : List Values) → onto acc 0 ≡ written acc
  unfolding onto
  onto_none acc = refl

  pub onto_done : (acc : List Values) (j : ℕ) (c : Values) → done c ≡ new_cell m x (cell R (suc j)) (cell R j) → onto acc (suc j) ≡ onto (set acc (suc j) c) j
  unfolding onto
  onto_done acc j c e = ap (λ t. tried_onto (suc j) t (λ a. onto a j) acc) (sym e)

  pub onto_stopped : (acc : List Values) (j o : ℕ) → stopped o ≡ new_cell m x (cell R (suc j)) (cell R j) → onto acc (suc j) ≡ refused_at (suc j) o
  unfolding onto
  onto_stopped acc j o e = ap (λ t. tried_onto (suc j) t (λ a. onto a j) acc) (sym e)
