-- The row after a list of zeros.
use Rattle.std.proofs.Common.{◌≡◌, ℕ, zero, suc, ◌+◌, ◌-◌, ◌*◌, ◌^◌, ◌<◌, ◌≤◌, min, List, [], ◌∷◌, ◌++◌, length, get_or, set, replicate, ℤ, pos, ◌+ℤ◌, ◌*ℤ◌, refl, ap, ◌∙◌, subst, arith, length-append, length-set, get_or-set_other, get_or-set_same}
use native.Mathlib.Decide.{dec_le, ℕ_discrete}
use native.Mathlib.Nat.{pow-succ', pow-zero}
use lib.ListN.{length-replicate}
use Rattle.std.proofs.lemmas.Int.{ints}
use Rattle.arithmetic.specs.Meaning.{Meaning, Number}
use Rattle.arithmetic.specs.Rules.{Rules}
use Rattle.arithmetic.proofs.Accepted.{zero_is_number}
use Rattle.coefficients.specs.Row.{Cell, no_cell, one_cell, cell, new_row, Trial, done, stopped, Update, written, refused_at, put_tried, row_after, new_cell}
use Rattle.coefficients.specs.Exact.{symmetric}
use Rattle.coefficients.proofs.Work.{Did, did}
use Rattle.coefficients.proofs.Invariant.{Holds, exact_cell, first, kept}
use Rattle.coefficients.proofs.Symmetric.{sym_zero, sym_none, sym_push, sym_beyond}

-- ---- what an accepted row of operations wrote
pub record Wrote (m : Meaning) (x : ℤ) (row : List Cell) (j : ℕ) (row' : List Cell) : Type 0 where
  pub long : length row' ≡ length row
  pub worked_at : (i : ℕ) → i < j → Did m x (cell row (suc i)) (cell row i) (cell row' (suc i))
  pub zeroth : cell row' 0 ≡ cell row 0
  pub above : (i : ℕ) → j < i → cell row' i ≡ cell row i

record Put (j : ℕ) (t : Trial Cell) (w : Update) (row' : List Cell) : Type 0 where
  c : Cell
  row₁ : List Cell
  done_is : t ≡ done c
  written_is : w ≡ written row₁
  set_is : set row₁ j c ≡ row'

put_from : (j : ℕ) (t : Trial Cell) (w : Update) (row' : List Cell) → put_tried j t w ≡ written row' → Put j t w row'
put_from j (done c) (written row₁) row' e = record { c = c; row₁ = row₁; done_is = refl; written_is = refl; set_is = cc }
put_from j (done c) (refused_at i o) row' e = let z : ◌≡◌ {A = ℕ} 0 1 = cc in absurd (omega arith)
put_from j (stopped o) (written row₁) row' e = let z : ◌≡◌ {A = ℕ} 0 1 = cc in absurd (omega arith)
put_from j (stopped o) (refused_at i o') row' e = let z : ◌≡◌ {A = ℕ} 0 1 = cc in absurd (omega arith)

pub wrote : (m : Meaning) (x : ℤ) (row : List Cell) (j : ℕ) (row' : List Cell) → j < length row → row_after m x row j ≡ written row' → Wrote m x row j row'
unfolding row_after
wrote m x row zero row' h e = subst (Wrote m x row zero) k (record { long = refl; worked_at = λ i l. absurd (omega arith); zeroth = refl; above = λ i l. refl })
  where
    k : row ≡ row'
    k = cc
wrote m x row (suc j) row' h e = go (put_from (suc j) (new_cell m x (cell row (suc j)) (cell row j)) (row_after m x row j) row' e) (λ r k. wrote m x row j r (omega arith) k)
  where
    go : Put (suc j) (new_cell m x (cell row (suc j)) (cell row j)) (row_after m x row j) row' → ((r : List Cell) → row_after m x row j ≡ written r → Wrote m x row j r) → Wrote m x row (suc j) row'
    go p f = subst (Wrote m x row (suc j)) p.set_is (record {
      long = length-set p.row₁ (suc j) p.c ∙ w.long;
      worked_at = λ i l. at_or_below i l (ℕ_discrete i j);
      zeroth = get_or-set_other p.row₁ (suc j) 0 p.c no_cell (omega arith) ∙ w.zeroth;
      above = λ i l. get_or-set_other p.row₁ (suc j) i p.c no_cell (omega arith) ∙ w.above i (omega arith);
    })
      where
        w : Wrote m x row j p.row₁
        w = f p.row₁ p.written_is

        row₂ : List Cell
        row₂ = set p.row₁ (suc j) p.c

        at_or_below : (i : ℕ) → i < suc j → Dec (i ≡ j) → Did m x (cell row (suc i)) (cell row i) (cell row₂ (suc i))
        at_or_below i l (yes e) = rw (e, get_or-set_same p.row₁ (suc j) p.c no_cell (omega (arith, w.long, h))) (did m x (cell row (suc j)) (cell row j) p.c p.done_is)
        at_or_below i l (no n) = rw (get_or-set_other p.row₁ (suc j) (suc i) p.c no_cell (omega arith)) (w.worked_at i (omega arith))

-- ---- the invariant
pub record RowHolds (m : Meaning) (K : ℕ) (zs : List ℤ) (row : List Cell) : Type 0 where
  pub long : length row ≡ suc K
  pub zeroth : cell row 0 ≡ one_cell m
  pub beyond : (j : ℕ) → length zs < j → cell row j ≡ no_cell
  pub holds : (j : ℕ) → j ≤ K → Holds m (length zs - 1) (symmetric j zs) (m.Q ^ j) (cell row j)

module _ (m : Meaning) (R : Rules m) where
  zeroth_holds : (r : ℕ) (zs : List ℤ) (c : Cell) → c ≡ one_cell m → Holds m r (symmetric 0 zs) (m.Q ^ 0) c
  zeroth_holds r zs c e = rw (e, sym_zero zs, pow-zero m.Q) (exact_cell m R r (pos 1) 1 (one_cell m) R.one_is_number refl refl (same m.Q))
    where
      same : (q : ℕ) → pos 1 *ℤ pos q ≡ pos q *ℤ pos 1
      same q = omega (arith, ints)

  empty_holds : (r : ℕ) (s : ℤ) (q : ℕ) (c : Cell) → c ≡ no_cell → s ≡ pos 0 → Holds m r s q c
  empty_holds r s q c e k = rw (e, k) (exact_cell m R r (pos 0) q no_cell (zero_is_number m R) refl refl (same m.Q q))
    where
      same : (a b : ℕ) → pos 0 *ℤ pos a ≡ pos 0 *ℤ pos b
      same a b = omega (arith, ints)

  cell_new : (K j : ℕ) → get_or (replicate K no_cell) j no_cell ≡ no_cell
  cell_new zero j = refl
  cell_new (suc K) zero = refl
  cell_new (suc K) (suc j) = cell_new K j

  pub new_holds : (K : ℕ) → RowHolds m K [] (new_row m K)
  new_holds K = record { long = ap suc (length-replicate K no_cell); zeroth = refl; beyond = none_yet; holds = each }
    where
      none_yet : (j : ℕ) → 0 < j → cell (new_row m K) j ≡ no_cell
      none_yet zero h = absurd (omega arith)
      none_yet (suc j) h = cell_new K j

      each : (j : ℕ) → j ≤ K → Holds m (0 - 1) (symmetric j []) (m.Q ^ j) (cell (new_row m K) j)
      each zero h = zeroth_holds (0 - 1) [] (one_cell m) refl
      each (suc j) h = empty_holds (0 - 1) (symmetric (suc j) []) (m.Q ^ suc j) _ (cell_new K j) (sym_none j)

  pub add_holds : (K : ℕ) (zs : List ℤ) (row row' : List Cell) (x : ℤ) → Number m x → length zs < 64 → RowHolds m K zs row →
      row_after m x row (min (suc (length zs)) K) ≡ written row' → RowHolds m K (zs ++ x ∷ []) row'
  add_holds K zs row row' x x_number few o e = record {
    long = w.long ∙ o.long;
    zeroth = w.zeroth ∙ o.zeroth;
    beyond = λ j h. w.above j (omega (arith, more)) ∙ o.beyond j (omega (arith, more));
    holds = each;
  }
    where
      more : length (zs ++ x ∷ []) ≡ length zs + 1
      more = length-append zs (x ∷ [])

      w : Wrote m x row (min (suc (length zs)) K) row'
      w = wrote m x row (min (suc (length zs)) K) row' (omega (arith, o.long)) e

      later : (i : ℕ) → suc i ≤ K → i ≤ length zs → 1 ≤ length zs → Holds m (length (zs ++ x ∷ []) - 1) (symmetric (suc i) (zs ++ x ∷ [])) (m.Q ^ suc i) (cell row' (suc i))
      later i h l k = rw (rounds, sym_push i x zs, pow-succ' m.Q i)
          (kept m R x x_number (cell row (suc i)) (cell row i) (cell row' (suc i)) (w.worked_at i (omega arith)) a.S_number a.C_number a.E_number b.S_number b.C_number b.E_number
          (length zs - 1) (omega arith) (symmetric (suc i) zs) (symmetric i zs) (m.Q ^ i) (rw (pow-succ' m.Q i) at a) b)
        where
          rounds : length (zs ++ x ∷ []) - 1 ≡ suc (length zs - 1)
          rounds = omega (arith, more)

          a : Holds m (length zs - 1) (symmetric (suc i) zs) (m.Q ^ suc i) (cell row (suc i))
          a = o.holds (suc i) h

          b : Holds m (length zs - 1) (symmetric i zs) (m.Q ^ i) (cell row i)
          b = o.holds i (omega arith)

      at_first : 1 ≤ K → length zs ≡ 0 → Holds m (length (zs ++ x ∷ []) - 1) (symmetric 1 (zs ++ x ∷ [])) (m.Q ^ 1) (cell row' 1)
      at_first h k = rw (sym_push 0 x zs, sym_beyond 1 zs (omega arith), sym_zero zs, alone x)
          (first m R x x_number (cell row' 1) (rw (o.zeroth, o.beyond 1 (omega arith)) at (w.worked_at 0 (omega arith))) _ (m.Q ^ 1) (pow-succ' m.Q 0 ∙ rw (pow-zero m.Q) (once m.Q)))
        where
          alone : (z : ℤ) → pos 0 +ℤ z *ℤ pos 1 ≡ z
          alone z = omega (arith, ints)

          once : (q : ℕ) → q * 1 ≡ q
          once q = omega arith

      within : (i : ℕ) → suc i ≤ K → i ≤ length zs → Dec (1 ≤ length zs) → Holds m (length (zs ++ x ∷ []) - 1) (symmetric (suc i) (zs ++ x ∷ [])) (m.Q ^ suc i) (cell row' (suc i))
      within i h l (yes k) = later i h l k
      within zero h l (no k) = at_first h (omega arith)
      within (suc i) h l (no k) = absurd (omega arith)

      next : (i : ℕ) → suc i ≤ K → Dec (i ≤ length zs) → Holds m (length (zs ++ x ∷ []) - 1) (symmetric (suc i) (zs ++ x ∷ [])) (m.Q ^ suc i) (cell row' (suc i))
      next i h (yes l) = within i h l (dec_le 1 (length zs))
      next i h (no l) = empty_holds _ _ _ (cell row' (suc i)) (w.above (suc i) (omega arith) ∙ o.beyond (suc i) (omega arith)) (sym_beyond (suc i) (zs ++ x ∷ []) (omega (arith, more)))

      each : (j : ℕ) → j ≤ K → Holds m (length (zs ++ x ∷ []) - 1) (symmetric j (zs ++ x ∷ [])) (m.Q ^ j) (cell row' j)
      each zero h = zeroth_holds _ (zs ++ x ∷ []) (cell row' 0) (w.zeroth ∙ o.zeroth)
      each (suc i) h = next i h (dec_le i (length zs))
