-- What an arithmetic means: its scale, its accuracy, its limits, its rounding, and the eight bytes of a number.
-- Every exact value of the arithmetic is a whole multiple of 1/Q and is written here as that multiple: the integer a stands
-- for a/Q. The limits low and high are such multiples too.
use Rattle.std.specs.Prelude.{◌≡◌, ℕ, ◌≤◌, List, ℤ, unsigned_abs}

-- what eight bytes are admitted as: a number, or none, with the number of the cause
pub data Admission : Type 0 where
  number : ℤ → Admission
  not_admitted : ℕ → Admission

pub record Meaning : Type 0 where
  -- the scale
  pub Q : ℕ
  -- the unit roundoff u is 1/U
  pub U : ℕ
  -- a product or a lift that is not zero is at least low in size
  pub low : ℕ
  -- every number is at most high in size
  pub high : ℕ
  -- the rounding of the fraction n / d, for d above 0
  pub rounding : ℤ → ℕ → ℤ
  -- what eight bytes are admitted as; the code hands over eight bytes, for any other list it is only defined
  pub admit : List ℕ → Admission
  -- the eight bytes that a number is written as
  pub pattern : ℤ → List ℕ

-- a number: a multiple that rounding leaves unchanged and whose size is at most high
pub record Number (m : Meaning) (a : ℤ) : Type 0 where
  pub unchanged : m.rounding a m.Q ≡ a
  pub bounded : unsigned_abs a ≤ m.high
