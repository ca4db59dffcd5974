-- Which plain cells of a row the entries of a book leave as they were.
use Rattle.std.specs.Prelude.{◌≡◌, ℕ, ◌<◌, min, Bool, true, false, ◌&&◌, ◌||◌, List, [], ◌∷◌, length, nat_le, slice_index_or}
use Rattle.coefficients.specs.Calls.{Answer, added, cleared, asked, issued, marked, withdrawn, refused}
use Rattle.coefficients.specs.Book.{Entry}
use Rattle.row.specs.declared.cell.Cell.{Cell}

-- whether a call that is so answered writes the cell of order j: an accepted addition of zero i those of the orders 1 to min(i, K), an accepted
-- clearing every one, and nothing else any
abbrev pub writes : ℕ → ℕ → Answer → Bool
writes K j (added i) = nat_le 1 j && nat_le j (min i K)
writes K j cleared = true
writes K j (asked v b) = false
writes K j (issued n k) = false
writes K j (marked v) = false
writes K j withdrawn = false
writes K j (refused r ds) = false

-- whether it is an accepted addition or clearing
abbrev pub changes : Answer → Bool
changes (added i) = true
changes cleared = true
changes (asked v b) = false
changes (issued n k) = false
changes (marked v) = false
changes withdrawn = false
changes (refused r ds) = false

-- whether one of the entries does
abbrev pub any_writes : ℕ → ℕ → List Entry → Bool
any_writes K j [] = false
any_writes K j (e ∷ es) = writes K j e.answer || any_writes K j es

abbrev pub any_changes : List Entry → Bool
any_changes [] = false
any_changes (e ∷ es) = changes e.answer || any_changes es

-- the plain cells before and after the calls of some entries, with the highest order K
pub record Leaves {P : Type 0} (K : ℕ) (es : List Entry) (old new : List (Cell P)) : Type 0 where
  -- where no addition and no clearing is accepted, all are as they were (so much follows from the other, if the row has kept its length)
  pub all : any_changes es ≡ false → new ≡ old
  -- the cell of an order that no entry writes is as it was
  pub others : (j : ℕ) (d : Cell P) → j < length old → any_writes K j es ≡ false → slice_index_or new j d ≡ slice_index_or old j d
