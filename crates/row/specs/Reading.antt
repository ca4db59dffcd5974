-- What the plain cells of a row read as through the setting of an arithmetic.
use Rattle.std.specs.Prelude.{◌≡◌, List, map, ℤ}
use Rattle.arithmetic.specs.Meaning.{Meaning, Number}
use Rattle.arithmetic.specs.Setting.{Setting}
use Rattle.coefficients.specs.Row.{Cell as Values}
use Rattle.row.specs.declared.cell.Cell.{Cell}

-- the values of the three parts of a cell
abbrev pub values : {T : Type 0} → (T → ℤ) → Cell T → Values
values value c = record { S = value c.sum; C = value c.correction; E = value c.errors }

-- all three are numbers of the arithmetic
pub record AreNumbers {N : Type 0} (m : Meaning) (value : N → ℤ) (c : Cell N) : Type 0 where
  pub sum : Number m (value c.sum)
  pub correction : Number m (value c.correction)
  pub errors : Number m (value c.errors)

-- what a plain cell reads as
abbrev pub reading : {P : Type 0} → Setting P → Cell P → Values
reading st c = values st.reads c

-- what the plain cells of a row read as, order by order
abbrev pub readings : {P : Type 0} → Setting P → List (Cell P) → List Values
readings st row = map (reading st) row

-- the plain cell that is written for three values
abbrev pub plain_cell : {P : Type 0} → Setting P → Values → Cell P
plain_cell st v = record { sum = st.plain v.S; correction = st.plain v.C; errors = st.plain v.E }

-- a cell is kept as the arithmetic writes what it reads as
abbrev pub Canonical : {P : Type 0} → Setting P → Cell P → Type 0
Canonical st c = c ≡ plain_cell st (reading st c)

-- every cell of a row is kept so
abbrev pub AreCanonical : {P : Type 0} → Setting P → List (Cell P) → Type 0
AreCanonical st row = row ≡ map (plain_cell st) (readings st row)
