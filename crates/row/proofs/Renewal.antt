-- A row filled with one cell of zeros, whose first sum is then set to 1, reads as the row of a new bench.
use Rattle.std.proofs.Common.{◌≡◌, ℕ, zero, suc, ◌-◌, ◌<◌, List, [], ◌∷◌, map, length, set, replicate, ℤ, pos, sym, refl, ap, ◌∙◌, subst, arith, length-set}
use Rattle.std.specs.List.{FoldsTo}
use Rattle.arithmetic.specs.Setting.{Setting}
use Rattle.coefficients.specs.Row.{Cell as Values, no_cell, new_row}
use Rattle.row.specs.declared.cell.Cell.{Cell}
use Rattle.row.specs.Reading.{reading, readings, plain_cell}

-- what is filled by calls that each give x and change nothing
pub filled : {F X : Type 0} (R : F → X → F → Type 0) (f : F) (x : X) → ((y : X) (q : F) → R f y q → (y ≡ x) × (q ≡ f)) → (ys : List X) (last : F) → FoldsTo R f ys last → ys ≡ replicate (length ys) x
filled R f x same [] last h = refl
filled R f x same (y ∷ ys) last (j, step, rest) =
    let s = same y j step in
    ap (λ z. z ∷ ys) s.0 ∙ ap (λ zs. x ∷ zs) (filled R f x same ys last (subst (λ q. FoldsTo R q ys last) s.1 rest))

map_replicate : {X Y : Type 0} (f : X → Y) (n : ℕ) (x : X) → map f (replicate n x) ≡ replicate n (f x)
map_replicate f zero x = refl
map_replicate f (suc n) x = ap (λ l. f x ∷ l) (map_replicate f n x)

-- the first cell of a row of zeros is set
set_first : {X : Type 0} (n : ℕ) (x y : X) → 0 < n → set (replicate n x) 0 y ≡ y ∷ replicate (n - 1) x
set_first zero x y h = absurd (omega arith)
set_first (suc n) x y h = let e : n ≡ suc n - 1 = omega arith in ap (λ k. y ∷ replicate k x) e

-- a cell with another sum, of plain values and of their readings
abbrev pub with_sum : {P : Type 0} → P → Cell P → Cell P
with_sum o c = record { sum = o; correction = c.correction; errors = c.errors }

abbrev pub with_value : ℤ → Values → Values
with_value x v = record { S = x; C = v.C; E = v.E }

-- what holds of the row, and of what it reads as, where it was filled with the cell c of zeros and o is the plain value of 1
module _ {P : Type 0} (st : Setting P) (row : List (Cell P)) (o : P) (c : Cell P) (some : 0 < length row) (filled : row ≡ replicate (length row) c) where
  abbrev pub first : Cell P
  first = with_sum o c

  shape : set row 0 first ≡ first ∷ replicate (length row - 1) c
  shape = ap (λ r. set r 0 first) filled ∙ set_first (length row) c first some

  pub renewed_cells : o ≡ st.plain (pos st.meaning.Q) → c ≡ plain_cell st no_cell → set row 0 first ≡ map (plain_cell st) (new_row st.meaning (length row - 1))
  renewed_cells o_is c_is =
      shape
      ∙ ap (λ x. with_sum x c ∷ replicate (length row - 1) c) o_is
      ∙ ap (λ d. with_sum (st.plain (pos st.meaning.Q)) d ∷ replicate (length row - 1) d) c_is
      ∙ ap (λ l. with_sum (st.plain (pos st.meaning.Q)) (plain_cell st no_cell) ∷ l) (sym (map_replicate (plain_cell st) (length row - 1) no_cell))

  pub renewed_reads : st.reads o ≡ pos st.meaning.Q → reading st c ≡ no_cell → readings st (set row 0 first) ≡ new_row st.meaning (length row - 1)
  renewed_reads o_reads c_reads =
      ap (readings st) shape
      ∙ ap (λ l. reading st first ∷ l) (map_replicate (reading st) (length row - 1) c)
      ∙ ap (λ x. with_value x (reading st c) ∷ replicate (length row - 1) (reading st c)) o_reads
      ∙ ap (λ v. with_value (pos st.meaning.Q) v ∷ replicate (length row - 1) v) c_reads

-- a list whose first place is set keeps its length
pub first_set_long : {X : Type 0} (row : List X) (x : X) → length (set row 0 x) ≡ length row
first_set_long row x = length-set row 0 x
