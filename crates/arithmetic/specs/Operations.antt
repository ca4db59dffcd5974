-- The operations of an arithmetic, on multiples of 1/Q. `none` is a refusal.
-- The rounded ones are `unfoldable`: what is built on them cites them by name, and only the lemmas of an arithmetic unfold them.
use Rattle.std.specs.Prelude.{ℕ, ◌-◌, ◌*◌, ◌/◌, Bool, cond, ◌&&◌, ◌||◌, ℤ, pos, ◌+ℤ◌, ◌-ℤ◌, ◌*ℤ◌, ◌==◌, int_div, nat_le, unsigned_abs}
use Rattle.std.proofs.Math.Option.{Option, none, some}
use Rattle.arithmetic.specs.Meaning.{Meaning}

-- ---- the limits
-- zero, or from low to high in size
abbrev pub in_limits : Meaning → ℤ → Bool
in_limits m a = unsigned_abs a == 0 || (nat_le m.low (unsigned_abs a) && nat_le (unsigned_abs a) m.high)

-- r, refused exactly when its size is above high
abbrev pub not_above : Meaning → ℤ → Option ℤ
not_above m r = cond (nat_le (unsigned_abs r) m.high) (some r) none

-- r, refused exactly when the exact result is not zero and the size of r is below low or above high
abbrev pub in_range : Meaning → ℤ → ℤ → Option ℤ
in_range m exact r = cond (unsigned_abs exact == 0 || (nat_le m.low (unsigned_abs r) && nat_le (unsigned_abs r) m.high)) (some r) none

-- ---- rounded operations
-- the rounding of a/Q + b/Q
unfoldable pub sum : Meaning → ℤ → ℤ → Option ℤ
sum m a b = not_above m (m.rounding (a +ℤ b) m.Q)

-- the rounding of a/Q · b/Q
unfoldable pub product : Meaning → ℤ → ℤ → Option ℤ
product m a b = in_range m (a *ℤ b) (m.rounding (a *ℤ b) (m.Q * m.Q))

-- a lifted by k: the rounding of a/Q / (1 − k u), for k from 0 to 192
unfoldable pub lift : Meaning → ℤ → ℕ → Option ℤ
lift m a k = in_range m a (m.rounding (a *ℤ pos m.U) (m.Q * (m.U - k)))

-- ---- exact operations, never refused
-- the grain k: k u, for k from 0 to 192
unfoldable pub grain : Meaning → ℕ → ℤ
grain m k = pos (k * m.Q / m.U)

abbrev pub size : ℤ → ℤ
size a = pos (unsigned_abs a)

-- ---- splits: the rounded result and the error part, which together make the exact result
pub record Split : Type 0 where
  pub main : ℤ
  pub error : ℤ

-- refused exactly when the rounded result is
abbrev pub with_error : (ℤ → ℤ) → Option ℤ → Option Split
with_error error none = none
with_error error (some r) = some (record { main = r; error = error r })

abbrev pub sum_error : ℤ → ℤ → ℤ → ℤ
sum_error a b r = (a +ℤ b) -ℤ r

unfoldable pub product_error : Meaning → ℤ → ℤ → ℤ → ℤ
product_error m a b r = int_div (a *ℤ b -ℤ r *ℤ pos m.Q) (pos m.Q)

unfoldable pub sum_split : Meaning → ℤ → ℤ → Option Split
sum_split m a b = with_error (sum_error a b) (sum m a b)

unfoldable pub product_split : Meaning → ℤ → ℤ → Option Split
product_split m a b = with_error (product_error m a b) (product m a b)
