-- An arithmetic as the code holds it: its meaning, and the plain values that it keeps in cells. Then what the answers of the
-- code say, as answers of the definitions.
use Rattle.std.specs.Prelude.{◌≡◌, ◌⊎◌, ℤ, pos, Some, None, Ok, Err, Option, Result}
use Rattle.std.proofs.Math.Option.{Option as Maybe, none, some}
use Rattle.arithmetic.specs.Meaning.{Meaning, Number, Admission, number, not_admitted}
use Rattle.arithmetic.specs.Operations.{Split}
use Rattle.arithmetic.specs.Causes.{cause_number}
use Rattle.arithmetic.specs.declared.cause.Cause.{Cause}

-- P is the type of the plain values: what a cell keeps of a number, without an invariant
pub record Setting (P : Type 0) : Type 0 where
  pub meaning : Meaning
  -- the number that a plain value reads as; an arithmetic reads one that stands for none of its numbers as 0
  pub reads : P → ℤ
  -- the plain value of a number
  pub plain : ℤ → P

-- What a plain value reads as is 0, or it is the plain value of that number. So a plain value that is none of those that the
-- arithmetic writes reads as 0.
abbrev pub ZeroOrWritten : {P : Type 0} → Setting P → P → Type 0
ZeroOrWritten st p = (st.reads p ≡ pos 0) ⊎ (st.plain (st.reads p) ≡ p)

-- ---- answers of the code, by the values of the numbers in them
abbrev pub valued : {N : Type 0} → (N → ℤ) → Option N → Maybe ℤ
valued value None = none
valued value (Some n) = some (value n)

abbrev pub split_valued : {N : Type 0} → (N → ℤ) → Option (N × N) → Maybe Split
split_valued value None = none
split_valued value (Some p) = some (record { main = value p.0; error = value p.1 })

abbrev pub admission : {N : Type 0} → (N → ℤ) → Result N Cause → Admission
admission value (Ok n) = number (value n)
admission value (Err c) = not_admitted (cause_number c)

-- ---- what is answered is a number
abbrev pub Gives : {N : Type 0} → Meaning → (N → ℤ) → Option N → Type 0
Gives m value None = Unit {0}
Gives m value (Some n) = Number m (value n)

abbrev pub GivesBoth : {N : Type 0} → Meaning → (N → ℤ) → Option (N × N) → Type 0
GivesBoth m value None = Unit {0}
GivesBoth m value (Some p) = Number m (value p.0) × Number m (value p.1)

abbrev pub Admits : {N : Type 0} → Meaning → (N → ℤ) → Result N Cause → Type 0
Admits m value (Ok n) = Number m (value n)
Admits m value (Err c) = Unit {0}

-- ---- what an operation ensures: what it leaves of the arithmetic, and that its answer is the definition's and a number
-- the arithmetic is set as before, and its limits are lawful
pub record Stays {S P : Type 0} (setting : S → Setting P) (lawful : S → Type 0) (before after : S) : Type 0 where
  pub same : setting after ≡ setting before
  pub law : lawful after

pub record Rounds {S N P : Type 0} (setting : S → Setting P) (lawful : S → Type 0) (value : N → ℤ) (before after : S) (r : Option N) (defined : Maybe ℤ) : Type 0 where
  pub answer : valued value r ≡ defined
  pub number : Gives (setting before).meaning value r
  pub arith : Stays setting lawful before after

pub record Splits {S N P : Type 0} (setting : S → Setting P) (lawful : S → Type 0) (value : N → ℤ) (before after : S) (r : Option (N × N)) (defined : Maybe Split) : Type 0 where
  pub answer : split_valued value r ≡ defined
  pub number : GivesBoth (setting before).meaning value r
  pub arith : Stays setting lawful before after
