-- The writing goes from order n down to 1, as the trial did, over the cells that follow the cell of order 0. At order k those above k
-- are written and those up to k are the old ones; writing the orders from k down onto the row as it stands gives the whole addition.
-- `Writing` is what holds then.
use Rattle.std.proofs.Common.{◌≡◌, ℕ, zero, suc, ◌<◌, ◌≤◌, List, [], ◌∷◌, length, get_or, take, drop, set, ℤ, None, Some, Ok, Err, Result, sym, refl, ap, ◌∙◌, subst, arith, length-set, get_or-set_other, get_or-take, get_or-set_same, drop-set-lt}
use native.Mathlib.Decide.{ℕ_discrete}
use lib.Seq.{map-set, take-set-le}
use Rattle.std.specs.Result.{IsOk}
use Rattle.arithmetic.specs.Setting.{Setting}
use Rattle.coefficients.specs.Row.{Cell as Values, cell, new_cell, row_after}
use Rattle.row.specs.declared.cell.Cell.{Cell}
use Rattle.row.specs.declared.cell.Operation.{Operation}
use Rattle.row.specs.Operations.{operation_number}
use Rattle.row.specs.Reading.{reading, readings, Canonical}
use Rattle.row.specs.Answers.{tried, refusal, Tells, Added}
use Rattle.row.proofs.Cells.{reads_at}
use Rattle.row.proofs.Orders.{onto, row_onto, onto_none, onto_done, onto_stopped}

pub record Writing {P : Type 0} (st : Setting P) (x : ℤ) (n : ℕ) (first : Cell P) (L₀ L : List (Cell P)) (k : ℕ) : Type 0 where
  pub whole : row_after st.meaning x (readings st (first ∷ L₀)) n ≡ onto st.meaning x (readings st (first ∷ L₀)) (readings st (first ∷ L)) k
  pub plain : (i : ℕ) → k ≤ i → i < n → (d : Cell P) → Canonical st (get_or L i d)
  pub old : take k L ≡ take k L₀
  pub beyond : drop n L ≡ drop n L₀
  pub long : length L ≡ length L₀

one_less : {X : Type 0} (k : ℕ) (l l' : List X) → take (suc k) l ≡ take (suc k) l' → take k l ≡ take k l'
one_less {X} k l l' e = sym (fewer k l) ∙ ap (take k) e ∙ fewer k l'
  where
    fewer : (k : ℕ) (l : List X) → take k (take (suc k) l) ≡ take k l
    fewer zero l = refl
    fewer (suc k) [] = refl
    fewer (suc k) (z ∷ l) = ap (λ t. z ∷ t) (fewer k l)

pub begins : {P : Type 0} (st : Setting P) (x : ℤ) (n : ℕ) (first : Cell P) (L : List (Cell P)) → Writing st x n first L L n
begins st x n first L = record { whole = row_onto st.meaning x (readings st (first ∷ L)) n; plain = λ i a b d. absurd (omega arith); old = refl; beyond = refl; long = refl }

module _ {P : Type 0} {st : Setting P} {x : ℤ} {n : ℕ} {first : Cell P} {L₀ L : List (Cell P)} {k : ℕ} (w : Writing st x n first L₀ L k) where
  abbrev old_row : List Values
  old_row = readings st (first ∷ L₀)

  abbrev row : List Values
  row = readings st (first ∷ L)

  -- one order, k, which is j + 1: the numbers of the cell j, read from the row as it stands, and a step that answered u
  module _ {st' : Setting P} (same : st' ≡ st) (inside : k ≤ n) (within : n ≤ length L₀) {j : ℕ} (at : k ≡ suc j) {c : Cell P} {old prior : Values} (old_is : old ≡ cell old_row k) (read : prior ≡ reading st' c) (is : c ≡ get_or (first ∷ L) j first) where
    pub prior_is : prior ≡ cell old_row j
    prior_is = reads_at st st' (first ∷ L₀) j c first prior read same (is ∙ sym (get_or-take (suc k) (first ∷ L) j first (omega arith)) ∙ ap (λ l. get_or (first ∷ l) j first) w.old ∙ get_or-take (suc k) (first ∷ L₀) j first (omega arith)) (omega arith)

    module _ (u : Result (Cell P) Operation) (step : tried st' u ≡ new_cell st'.meaning x old prior) where
      old_step : tried st u ≡ new_cell st.meaning x (cell old_row (suc j)) (cell old_row j)
      old_step = cc prior_is

      -- a refusal would be that of the whole addition
      pub not_stopped : Tells (Ok tt) (row_after st.meaning x old_row n) → IsOk u
      not_stopped t = by u old_step
        where
          by : (u : Result (Cell P) Operation) → tried st u ≡ new_cell st.meaning x (cell old_row (suc j)) (cell old_row j) → IsOk u
          by (Ok c) e = refl
          by (Err o) e =
              let f : None ≡ Some (suc j, operation_number o) = t ∙ ap refusal (w.whole ∙ ap (onto st.meaning x old_row row) at ∙ onto_stopped st.meaning x old_row row j (operation_number o) e) in
              absurd (cc f)

      pub next : (new : Cell P) → u ≡ Ok new → Canonical st new → Writing st x n first L₀ (set L j new) j
      next new e p = record {
        whole = w.whole ∙ ap (onto st.meaning x old_row row) at ∙ onto_done st.meaning x old_row row j (reading st new) (ap (tried st) (sym e) ∙ old_step) ∙ ap (λ l. onto st.meaning x old_row (reading st first ∷ l) j) (sym (map-set (reading st) L j new));
        plain = λ i a b d. at_least i a b d (ℕ_discrete i j);
        old = take-set-le j L j new (omega arith) ∙ one_less j L L₀ (rw at at w.old);
        beyond = drop-set-lt n L j new (omega arith) ∙ w.beyond;
        long = length-set L j new ∙ w.long;
      }
        where
          at_least : (i : ℕ) → j ≤ i → i < n → (d : Cell P) → Dec (i ≡ j) → Canonical st (get_or (set L j new) i d)
          at_least i a b d (yes q) = subst (λ (i : ℕ). Canonical st (get_or (set L j new) i d)) (sym q) (subst (Canonical st) (sym (get_or-set_same L j new d (omega (arith, w.long)))) p)
          at_least i a b d (no q) = subst (Canonical st) (sym (get_or-set_other L j i new d (λ r. q (omega arith)))) (w.plain i (omega arith) b d)

-- at order 0 the whole addition is written
pub ends : {P : Type 0} (st : Setting P) (x : ℤ) (n : ℕ) (first : Cell P) (L₀ L : List (Cell P)) → Writing st x n first L₀ L 0 → Added st x n (Ok tt) (first ∷ L₀) (first ∷ L)
ends st x n first L₀ L w = record {
  defined = sym (w.whole ∙ onto_none st.meaning x (readings st (first ∷ L₀)) (readings st (first ∷ L)));
  plain = λ _ j h d. w.plain j (omega arith) h d;
  refused = λ e. absurd (cc e);
  first = refl;
  beyond = w.beyond;
  long = ap suc w.long;
}
