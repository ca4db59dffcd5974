-- The numbers as the code holds them: a significand and a count of zeros behind it, in units of 10^−70, the smallest value above 0.
use Rattle.std.specs.Prelude.{ℕ, ◌-◌, ◌*◌, ◌^◌, Bool, cond, ◌&&◌, ◌||◌, ℤ, pos, ◌*ℤ◌, ◌==◌, nat_le, nat_lt}

-- n with k zeros behind it
abbrev pub with_zeros : ℤ → ℕ → ℤ
with_zeros n k = n *ℤ pos (10 ^ k)

-- the size of a significand with zeros behind it
abbrev pub size_of : ℕ → ℕ → ℕ
size_of significand zeros = significand * 10 ^ zeros

-- the one form with eight digits: as few zeros as eight digits allow, so either none or eight digits
abbrev pub is_full : ℕ → ℕ → Bool
is_full significand zeros = nat_lt significand (10 ^ 8) && (zeros == 0 || nat_le (10 ^ 7) significand)

-- the one form with d digits of M and e, for an e of at most 41 − d: m is the size of M and there are e + 70 zeros, so 70 where
-- M and e are 0
abbrev pub is_form : ℕ → ℕ → ℕ → Bool
is_form d m zeros = cond (m == 0) (zeros == 70) (nat_lt m (10 ^ d) && (zeros == 0 || nat_le (10 ^ (d - 1)) m))

-- the limits 10^−40 and 10^40 in units
unfoldable pub lowest : ℕ
lowest = 10 ^ 30

unfoldable pub highest : ℕ
highest = 10 ^ 110

-- at most 10^40
abbrev pub is_small : ℕ → ℕ → Bool
is_small significand zeros = nat_le (size_of significand zeros) highest
