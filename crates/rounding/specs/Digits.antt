-- The numbers of p digits in radix β. Everything is counted in units of the smallest number above 0, so a number is a whole
-- number of units whose size has at most p digits, followed by zeros.
use Rattle.std.specs.Prelude.{◌≡◌, ℕ, ◌*◌, ◌^◌, ◌<◌, ℤ, unsigned_abs}

-- v is the size of a number: m · β^e with the significand m below β^p
pub record Digits (β p v : ℕ) : Type 0 where
  pub m : ℕ
  pub e : ℕ
  pub is : v ≡ m * β ^ e
  pub few : m < β ^ p

-- a is a number, with either sign
abbrev pub Number : ℕ → ℕ → ℤ → Type 0
Number β p a = Digits β p (unsigned_abs a)
