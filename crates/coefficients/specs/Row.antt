-- The row of cells, and the addition of one zero to it. All values are multiples of 1/Q of one arithmetic.
use Rattle.std.specs.Prelude.{ℕ, zero, suc, List, ◌∷◌, replicate, ℤ, pos, slice_index_or, slice_set}
use Rattle.std.proofs.Math.Option.{Option, none, some}
use Rattle.arithmetic.specs.Meaning.{Meaning}
use Rattle.arithmetic.specs.Operations.{sum, product, sum_split, product_split, size}

-- the cell of one order: the rounded sum S, the correction C of its rounding errors, and the sum E of the sizes of what the
-- corrections added, from which the error bound is made
pub record Cell : Type 0 where
  pub S : ℤ
  pub C : ℤ
  pub E : ℤ

abbrev pub no_cell : Cell
no_cell = record { S = pos 0; C = pos 0; E = pos 0 }

abbrev pub one_cell : Meaning → Cell
one_cell m = record { S = pos m.Q; C = pos 0; E = pos 0 }

-- the row of a new or cleared bench, for the orders 0 to K: cell 0 holds 1, 0, 0 and every other cell zeros
abbrev pub new_row : Meaning → ℕ → List Cell
new_row m K = one_cell m ∷ replicate K no_cell

abbrev pub cell : List Cell → ℕ → Cell
cell row j = slice_index_or row j no_cell

-- a chain of numbered operations: its result, or the number of the first operation refused
pub data Trial (A : Type 0) : Type 0 where
  done : A → Trial A
  stopped : ℕ → Trial A

abbrev pub operation : {A B : Type 0} → ℕ → Option A → (A → Trial B) → Trial B
operation i none next = stopped i
operation i (some a) next = next a

-- cell j after the zero x, from the old cells j (here c) and j − 1 (here c₀)
unfoldable pub new_cell : Meaning → ℤ → Cell → Cell → Trial Cell
new_cell m x c c₀ =
    operation 1 (product_split m x c₀.S) (λ pβ.
    operation 2 (sum_split m c.S pβ.main) (λ sσ.
    operation 3 (sum m pβ.error sσ.error) (λ w.
    operation 4 (sum m c.C w) (λ g.
    operation 5 (product m x c₀.C) (λ h.
    operation 6 (sum m g h) (λ c'.
    operation 7 (sum m c.E (size w)) (λ f.
    operation 8 (product m (size x) c₀.E) (λ t.
    operation 9 (sum m f t) (λ e'.
    done (record { S = sσ.main; C = c'; E = e' }))))))))))

-- the row after an addition, or the order and the operation refused
pub data Update : Type 0 where
  written : List Cell → Update
  refused_at : ℕ → ℕ → Update

abbrev pub put : ℕ → Cell → Update → Update
put j c (written row) = written (slice_set row j c)
put j c (refused_at i o) = refused_at i o

abbrev pub put_tried : ℕ → Trial Cell → Update → Update
put_tried j (done c) u = put j c u
put_tried j (stopped o) u = refused_at j o

-- the zero x added to the orders j down to 1, each from the old row; the first order refused is the highest
unfoldable pub row_after : Meaning → ℤ → List Cell → ℕ → Update
row_after m x row zero = written row
row_after m x row (suc j) = put_tried (suc j) (new_cell m x (cell row (suc j)) (cell row j)) (row_after m x row j)
