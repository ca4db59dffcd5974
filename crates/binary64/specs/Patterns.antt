-- Binary64 numbers as 64 bits and as eight bytes, by the fields of the format: the sign, 11 bits of exponent, 52 bits of fraction.
-- Values are whole units of 2^-1074.
use Rattle.std.specs.Prelude.{ℕ, suc, ◌+◌, ◌-◌, ◌*◌, ◌/◌, ◌%◌, ◌^◌, Bool, cond, List, [], ◌∷◌, ℤ, pos, negsuc, ◌==◌, nat_le, nat_lt, slice_index}
use Rattle.rounding.specs.Radix.{exponent as least_exponent}
use Rattle.rounding.specs.Value.{signed}
use Rattle.arithmetic.specs.Meaning.{Meaning, Admission, number, not_admitted}
use Rattle.arithmetic.specs.Radix.{radix}
use Rattle.arithmetic.specs.Setting.{Setting}
use Rattle.binary64.specs.Limits.{least, reach}

-- ---- the fields of a bit pattern
abbrev pub negative : ℕ → Bool
negative b = nat_le (2 ^ 63) b

abbrev pub exponent : ℕ → ℕ
exponent b = b % 2 ^ 63 / 2 ^ 52

abbrev pub fraction : ℕ → ℕ
fraction b = b % 2 ^ 52

-- the significand: a leading 1 before the fraction, but not where the exponent's field is 0
unfoldable pub significand : ℕ → ℕ
significand b = cond (exponent b == 0) (fraction b) (2 ^ 52 + fraction b)

-- the size in units; a field of 0 counts as a field of 1
unfoldable pub size : ℕ → ℕ
size b = significand b * 2 ^ (exponent b - 1)

-- ---- what a bit pattern is admitted and read as
-- Not admitted for cause 1 are the infinities and NaNs, whose exponent's field is all ones, and for cause 2 what is above 2^900 in
-- size. Minus zero is admitted as zero.
unfoldable pub admission : ℕ → Admission
admission b =
    cond (exponent b == 2047) (not_admitted 1)
    (cond (nat_le (size b) (2 ^ reach)) (number (signed (negative b) (size b))) (not_admitted 2))

-- what a bit pattern in a cell reads as: 0 where it is not admitted, and where it has more than 64 bits, as none in a cell has
unfoldable pub reads : ℕ → ℤ
reads b = cond (nat_lt b (2 ^ 64)) (elim (admission b) [ number z ↦ z | not_admitted c ↦ pos 0 ]) (pos 0)

-- ---- the one bit pattern of a number
-- n units, without the sign: with the least e for which n is below 2^53 · 2^e, the significand is n / 2^e. Its leading 1, if any,
-- adds one to the exponent's field, which is so 0 for a fraction alone and e + 1 otherwise.
unfoldable pub unsigned : ℕ → ℕ
unsigned n = let e : ℕ = least_exponent 2 n n (2 ^ 53) in e * 2 ^ 52 + n / 2 ^ e

-- zero has no sign: its pattern is 0
unfoldable pub written : ℤ → ℕ
written (pos n) = unsigned n
written (negsuc n) = 2 ^ 63 + unsigned (suc n)

-- ---- eight bytes, the highest first
abbrev pub joined : List ℕ → ℕ
joined bs = slice_index bs 0 * 2 ^ 56 + slice_index bs 1 * 2 ^ 48 + slice_index bs 2 * 2 ^ 40 + slice_index bs 3 * 2 ^ 32 + slice_index bs 4 * 2 ^ 24 + slice_index bs 5 * 2 ^ 16 + slice_index bs 6 * 256 + slice_index bs 7

abbrev pub bytes : ℕ → List ℕ
bytes b = (b / 2 ^ 56 % 256) ∷ (b / 2 ^ 48 % 256) ∷ (b / 2 ^ 40 % 256) ∷ (b / 2 ^ 32 % 256) ∷ (b / 2 ^ 24 % 256) ∷ (b / 2 ^ 16 % 256) ∷ (b / 256 % 256) ∷ (b % 256) ∷ []

-- what eight bytes are admitted as
unfoldable pub admitted : List ℕ → Admission
admitted bs = admission (joined bs)

-- the eight bytes of a number
unfoldable pub pattern : ℤ → List ℕ
pattern z = bytes (written z)

-- ---- the arithmetic: 53 binary digits, 2^1074 units to 1
unfoldable pub meaning : Meaning
meaning = radix 2 53 1074 (2 ^ least) (2 ^ reach) admitted pattern

-- a cell keeps the 64 bits
abbrev pub setting : Setting ℕ
setting = record { meaning = meaning; reads = reads; plain = written }
