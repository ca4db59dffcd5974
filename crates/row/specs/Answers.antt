-- What the functions of a row answer, and what they leave in its plain cells.
use Rattle.std.specs.Prelude.{◌≡◌, ℕ, suc, ◌-◌, ◌<◌, true, false, List, map, length, take, drop, ℤ, is_ok, Option, None, Some, Ok, Err, Result, slice_index_or}
use Rattle.arithmetic.specs.Setting.{Setting}
use Rattle.coefficients.specs.Row.{Cell as Values, Trial, done, stopped, Update, written, refused_at, row_after, new_row}
use Rattle.row.specs.declared.cell.Cell.{Cell}
use Rattle.row.specs.declared.cell.Operation.{Operation}
use Rattle.row.specs.declared.cell.OutOfRange.{OutOfRange}
use Rattle.row.specs.Operations.{operation_number}
use Rattle.row.specs.Reading.{reading, readings, plain_cell, Canonical}

-- a new cell, or the operation refused
abbrev pub tried : {P : Type 0} → Setting P → Result (Cell P) Operation → Trial Values
tried st (Ok c) = done (reading st c)
tried st (Err o) = stopped (operation_number o)

-- a new cell is kept as the arithmetic writes it
abbrev pub WritesPlain : {P E : Type 0} → Setting P → Result (Cell P) E → Type 0
WritesPlain st (Ok c) = Canonical st c
WritesPlain st (Err o) = Unit {0}

-- an answer together with the row, as an update of the definitions
abbrev pub update : Result (Unit {0}) OutOfRange → List Values → Update
update (Ok u) row = written row
update (Err e) row = refused_at e.order (operation_number e.operation)

-- the order and the operation at which an addition is refused, if it is
abbrev pub refusal : Update → Option (ℕ × ℕ)
refusal (written row) = None
refusal (refused_at j o) = Some (j, o)

abbrev pub told : Result (Unit {0}) OutOfRange → Option (ℕ × ℕ)
told (Ok u) = None
told (Err e) = Some (e.order, operation_number e.operation)

-- a trial of an addition answers whether it is refused, and at which order and operation
abbrev pub Tells : Result (Unit {0}) OutOfRange → Update → Type 0
Tells r w = told r ≡ refusal w

-- an addition to the orders 1 to n of a row: as defined, the cells written kept as the arithmetic writes them; refused, every plain
-- cell stays; in any case cell 0 and the cells past n stay
pub record Added {P : Type 0} (st : Setting P) (x : ℤ) (n : ℕ) (r : Result (Unit {0}) OutOfRange) (old new : List (Cell P)) : Type 0 where
  pub defined : update r (readings st new) ≡ row_after st.meaning x (readings st old) n
  pub plain : is_ok r ≡ true → (j : ℕ) → j < n → (d : Cell P) → Canonical st (slice_index_or new (suc j) d)
  pub refused : is_ok r ≡ false → new ≡ old
  pub first : take 1 new ≡ take 1 old
  pub beyond : drop (suc n) new ≡ drop (suc n) old
  pub long : length new ≡ length old

-- a row made new: cell 0 keeps 1, 0, 0 and every other cell zeros, as the plain values that the arithmetic writes; so it reads as
-- the row of a new bench
pub record Renewed {P : Type 0} (st : Setting P) (old new : List (Cell P)) : Type 0 where
  pub cells : new ≡ map (plain_cell st) (new_row st.meaning (length old - 1))
  pub defined : readings st new ≡ new_row st.meaning (length old - 1)
  pub long : length new ≡ length old
