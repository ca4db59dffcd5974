-- What a cell reads as in its row.
use Rattle.std.proofs.Common.{◌≡◌, ℕ, ◌<◌, List, length, get_or}
use Rattle.std.proofs.lemmas.List.{get_or-map}
use Rattle.arithmetic.specs.Setting.{Setting}
use Rattle.coefficients.specs.Row.{Cell as Values, cell, no_cell}
use Rattle.row.specs.declared.cell.Cell.{Cell}
use Rattle.row.specs.Reading.{reading, readings}

-- a cell of a row reads as the cell of its order
pub reads_in_row : {P : Type 0} (st : Setting P) (row : List (Cell P)) (j : ℕ) (d : Cell P) → j < length row → reading st (get_or row j d) ≡ cell (readings st row) j
reads_in_row st row j d h = cc (get_or-map (reading st) row j d no_cell h)

-- the values read from a cell of a row, where the arithmetic is set as before, are those of the row's readings
pub reads_at : {P : Type 0} (st st' : Setting P) (row : List (Cell P)) (j : ℕ) (c d : Cell P) (v : Values) → v ≡ reading st' c → st' ≡ st → c ≡ get_or row j d → j < length row → v ≡ cell (readings st row) j
reads_at st st' row j c d v r same is h = cc (get_or-map (reading st) row j d no_cell h)
