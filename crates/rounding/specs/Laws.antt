-- The laws of rounding to p digits in radix β. A value is counted in units of 1/Q: the whole number a stands for a/Q, and the
-- rounding of the fraction z/d is such a whole number. Denominators are cleared throughout.
use Rattle.std.specs.Prelude.{◌≡◌, ℕ, ◌-◌, ◌*◌, ◌%◌, ◌^◌, ◌<◌, ◌≤◌, ℤ, pos, ◌+ℤ◌, ◌-ℤ◌, ◌*ℤ◌, neg_ℤ, ◌≤ℤ◌, unsigned_abs}
use Rattle.rounding.specs.Digits.{Number}
use Rattle.rounding.specs.Radix.{rounding}

-- how far a/Q lies from z/d, times Q · d
abbrev pub off : ℕ → ℤ → ℕ → ℤ → ℕ
off Q z d a = unsigned_abs (a *ℤ pos d -ℤ z *ℤ pos Q)

-- v has an even significand at the exponent that n/d units are rounded with: the least e at which p digits reach above n/d
pub record EvenSignificand (β p n d v : ℕ) : Type 0 where
  pub m : ℕ
  pub e : ℕ
  pub is : v ≡ m * β ^ e
  pub enough : n < d * β ^ p * β ^ e
  pub least : (k : ℕ) → k < e → d * β ^ p * β ^ k ≤ n
  pub even : m % 2 ≡ 0

-- a is the number nearest to z/d, with an even significand where another number is as near
pub record NearestEven (β p Q : ℕ) (z : ℤ) (d : ℕ) (a : ℤ) : Type 0 where
  pub is_number : Number β p a
  pub none_nearer : (y : ℤ) → Number β p y → off Q z d a ≤ off Q z d y
  pub even_at_tie : (y : ℤ) → Number β p y → ¬ (y ≡ a) → off Q z d y ≡ off Q z d a → EvenSignificand β p (unsigned_abs z * Q) d (unsigned_abs a)

-- a/Q errs from z/d by at most 1/U of z/d and by at most 1/U of a/Q, where U is 2 · β^(p−1)
pub record Close (β p Q : ℕ) (z : ℤ) (d : ℕ) (a : ℤ) : Type 0 where
  pub by_exact : 2 * β ^ (p - 1) * off Q z d a ≤ unsigned_abs z * Q
  pub by_rounded : 2 * β ^ (p - 1) * off Q z d a ≤ unsigned_abs a * d

-- e/Q is the error part of a/Q · b/Q, whose rounding is r/Q: a number, and with r/Q it makes the exact product
pub record ProductPart (β p Q : ℕ) (a b r : ℤ) : Type 0 where
  pub e : ℤ
  pub is_number : Number β p e
  pub exact : (r +ℤ e) *ℤ pos Q ≡ a *ℤ b

pub record Laws (β p Q : ℕ) : Type 0 where
  -- a fraction is rounded to the nearest number, a tie to the even significand
  pub nearest_even : (z : ℤ) (d : ℕ) → 0 < d → NearestEven β p Q z d (rounding β p Q z d)
  -- and nothing else is nearest and even
  pub only_one : (z a : ℤ) (d : ℕ) → 0 < d → NearestEven β p Q z d a → a ≡ rounding β p Q z d
  -- a number is left unchanged
  pub number_stays : (a : ℤ) → Number β p a → rounding β p Q a Q ≡ a
  -- what is left unchanged is a number
  pub what_stays : (a : ℤ) → rounding β p Q a Q ≡ a → Number β p a
  -- equal fractions round alike
  pub alike : (z z' : ℤ) (d d' : ℕ) → 0 < d → 0 < d' → z *ℤ pos d' ≡ z' *ℤ pos d → rounding β p Q z d ≡ rounding β p Q z' d'
  -- a fraction that is no larger rounds to a number that is no larger
  pub monotone : (z z' : ℤ) (d d' : ℕ) → 0 < d → 0 < d' → (z *ℤ pos d') ≤ℤ (z' *ℤ pos d) → (rounding β p Q z d) ≤ℤ (rounding β p Q z' d')
  -- rounding twice is rounding once
  pub twice : (z : ℤ) (d : ℕ) → 0 < d → rounding β p Q (rounding β p Q z d) Q ≡ rounding β p Q z d
  -- the negative of a fraction rounds to the negative
  pub odd : (z : ℤ) (d : ℕ) → 0 < d → rounding β p Q (neg_ℤ z) d ≡ neg_ℤ (rounding β p Q z d)
  -- a whole number of units, as a sum of numbers is one, is rounded with a relative error of at most 1/U
  pub whole_close : (z : ℤ) → Close β p Q z Q (rounding β p Q z Q)
  -- so is a fraction that is rounded to more than β^(p−1) units
  pub fraction_close : (z : ℤ) (d : ℕ) → 0 < d → β ^ (p - 1) < unsigned_abs (rounding β p Q z d) → Close β p Q z d (rounding β p Q z d)
  -- the error part of a sum of two numbers is a number
  pub sum_part : (a b : ℤ) → Number β p a → Number β p b → Number β p ((a +ℤ b) -ℤ rounding β p Q (a +ℤ b) Q)
  -- a product of two numbers that is rounded to β^(2p) units or more has an error part, where Q is a power of β
  pub product_part : (q : ℕ) → Q ≡ β ^ q → (a b : ℤ) → Number β p a → Number β p b → β ^ p * β ^ p ≤ unsigned_abs (rounding β p Q (a *ℤ b) (Q * Q)) → ProductPart β p Q a b (rounding β p Q (a *ℤ b) (Q * Q))

-- for every radix from 2 on, every number of digits from 1 on and every scale from 1 on
abbrev pub RoundingLaws : Type 0
RoundingLaws = (β p Q : ℕ) → 2 ≤ β → 1 ≤ p → 1 ≤ Q → Laws β p Q
