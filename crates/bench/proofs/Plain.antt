-- An addition keeps a row whose plain cells are all as the arithmetic writes them: those that it writes are written so, and the others are
-- as they were.
use Rattle.std.proofs.Common.{◌≡◌, ℕ, zero, suc, ◌-◌, ◌<◌, ◌≤◌, List, [], ◌∷◌, length, get_or, drop, ℤ, ◌⊎◌, inl, inr, Ok, Err, Result, sym, refl, ap, ◌∙◌, subst, arith, get_or-take, get_or-drop}
use Rattle.std.proofs.lemmas.Bool.{cases_lt}
use Rattle.arithmetic.specs.Setting.{Setting}
use Rattle.row.specs.declared.cell.Cell.{Cell}
use Rattle.row.specs.declared.cell.OutOfRange.{OutOfRange}
use Rattle.row.specs.Reading.{Canonical, AreCanonical}
use Rattle.row.specs.Answers.{Added}

module _ {P : Type 0} (st : Setting P) where
  canonical_at : (row : List (Cell P)) (i : ℕ) (d : Cell P) → i < length row → AreCanonical st row → Canonical st (get_or row i d)
  canonical_at (c ∷ row) zero d l k = ap (λ r. get_or r 0 c) k
  canonical_at (c ∷ row) (suc i) d l k = canonical_at row i d (omega (arith, l)) (ap (drop 1) k)
  canonical_at [] i d l k = absurd (omega (arith, l))

  from_cells : (row : List (Cell P)) → ((i : ℕ) (d : Cell P) → i < length row → Canonical st (get_or row i d)) → AreCanonical st row
  from_cells [] h = refl
  from_cells (c ∷ row) h = let first : Canonical st c = h 0 c (omega arith) in let rest : AreCanonical st row = from_cells row (λ i d l. h (suc i) d (omega (arith, l))) in cc (first, rest)

  pub kept_plain : (x : ℤ) (n : ℕ) (r : Result (Unit {0}) OutOfRange) (old new : List (Cell P)) → Added st x n r old new → AreCanonical st old → AreCanonical st new
  kept_plain x n (Err e) old new a k = subst (AreCanonical st) (sym (a.refused refl)) k
  kept_plain x n (Ok u) old new a k = from_cells new at
    where
      as_old : (i : ℕ) (d : Cell P) → i < length new → get_or new i d ≡ get_or old i d → Canonical st (get_or new i d)
      as_old i d l e = subst (Canonical st) (sym e) (canonical_at old i d (omega (arith, a.long, l)) k)

      at : (i : ℕ) (d : Cell P) → i < length new → Canonical st (get_or new i d)
      at zero d l = as_old 0 d l (sym (get_or-take 1 new 0 d (omega arith)) ∙ ap (λ r. get_or r 0 d) a.first ∙ get_or-take 1 old 0 d (omega arith))
      at (suc j) d l = by (cases_lt j n)
        where
          by : (j < n) ⊎ (n ≤ j) → Canonical st (get_or new (suc j) d)
          by (inl h) = a.plain refl j h d
          by (inr h) = as_old (suc j) d l (after new ∙ ap (λ r. get_or r (j - n) d) a.beyond ∙ sym (after old))
            where
              after : (row : List (Cell P)) → get_or row (suc j) d ≡ get_or (drop (suc n) row) (j - n) d
              after row = sym (get_or-drop (suc n) row (j - n) d ∙ ap (λ i. get_or row i d) (omega (arith, h)))
