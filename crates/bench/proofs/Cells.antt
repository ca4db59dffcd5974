-- A cell of the row: what it reads as, and closing it is closing that order.
use Rattle.std.proofs.Common.{◌≡◌, ℕ, ◌<◌, List, length, get_or, sym, ap, ◌∙◌}
use Rattle.std.proofs.lemmas.List.{get_or-map}
use Rattle.arithmetic.specs.Setting.{Setting}
use Rattle.coefficients.specs.Row.{cell, no_cell, Trial}
use Rattle.coefficients.specs.Closing.{Closed, close}
use Rattle.row.specs.declared.cell.Cell.{Cell}
use Rattle.row.specs.Reading.{reading, readings}

at_row : {P : Type 0} (st : Setting P) (row : List (Cell P)) (k : ℕ) (c : Cell P) → k < length row → c ≡ get_or row k c → reading st c ≡ cell (readings st row) k
at_row st row k c h e = ap (reading st) e ∙ sym (get_or-map (reading st) row k c no_cell h)

pub closed_in_row : {P : Type 0} (st : Setting P) (row : List (Cell P)) (held k : ℕ) (c : Cell P) → k < length row → c ≡ get_or row k c → {t : Trial Closed} → t ≡ close st.meaning (reading st c) held k → t ≡ close st.meaning (cell (readings st row) k) held k
closed_in_row st row held k c h e f = f ∙ ap (λ r. close st.meaning r held k) (at_row st row k c h e)
