-- Decimal numbers of d digits as M and e, which stand for M × 10^e, and as eight bytes. Values are whole units of 10^−70.
use Rattle.std.specs.Prelude.{ℕ, ◌+◌, ◌-◌, ◌*◌, ◌/◌, ◌%◌, ◌^◌, Bool, cond, ◌&&◌, ◌||◌, List, [], ◌∷◌, ℤ, pos, negsuc, ◌+ℤ◌, ◌-ℤ◌, ◌*ℤ◌, ◌==◌, int_div, int_le, nat_le, nat_lt, slice_index, unsigned_abs}
use Rattle.rounding.specs.Radix.{exponent as least_exponent}
use Rattle.arithmetic.specs.Meaning.{Meaning, Admission, number, not_admitted}
use Rattle.arithmetic.specs.Radix.{radix}
use Rattle.arithmetic.specs.Setting.{Setting}
use Rattle.scientific.specs.Forms.{lowest, highest}
use Rattle.scientific.specs.declared.written.Written.{Written}

-- ---- M and e
-- M × 10^e in units, for an e of −70 or more
abbrev pub units_of : ℤ → ℤ → ℤ
units_of M e = M *ℤ pos (10 ^ unsigned_abs (e +ℤ pos 70))

-- e is from a to b
abbrev pub from_to : ℤ → ℤ → ℤ → Bool
from_to a b e = int_le a e && int_le e b

-- M has exactly d digits
abbrev pub has_digits : ℕ → ℤ → Bool
has_digits d M = nat_le (10 ^ (d - 1)) (unsigned_abs M) && nat_lt (unsigned_abs M) (10 ^ d)

-- M is not 0 and has fewer than d digits
abbrev pub has_fewer : ℕ → ℤ → Bool
has_fewer d M = nat_lt 0 (unsigned_abs M) && nat_lt (unsigned_abs M) (10 ^ (d - 1))

-- the one form of a number of d digits: M and e are 0; or M has exactly d digits and e is from −70 to 41 − d; or M, not 0, has
-- fewer digits and e is −70
unfoldable pub one_form : ℕ → ℤ → ℤ → Bool
one_form d M e =
    (unsigned_abs M == 0 && from_to (pos 0) (pos 0) e) || ((has_digits d M && from_to (negsuc 69) (pos (41 - d)) e) || (has_fewer d M && from_to (negsuc 69) (negsuc 69) e))

-- ---- what M and e are admitted and read as
-- Not admitted for cause 3 is what is not in its one form, and for cause 2 what is above 10^40 in size.
unfoldable pub admission : ℕ → ℤ → ℤ → Admission
admission d M e =
    cond (one_form d M e) (cond (nat_le (unsigned_abs (units_of M e)) highest) (number (units_of M e)) (not_admitted 2)) (not_admitted 3)

-- what M and e in a cell read as: 0 where they are not admitted
unfoldable pub reads : ℕ → Written → ℤ
reads d w = elim (admission d w.m w.e) [ number z ↦ z | not_admitted c ↦ pos 0 ]

-- ---- the one form of a number of z units
-- with the least k for which the size of z is below 10^d · 10^k, M is z / 10^k and e is k − 70; zero is written with e = 0
unfoldable pub zeros : ℕ → ℤ → ℕ
zeros d z = least_exponent 10 (unsigned_abs z) (unsigned_abs z) (10 ^ d)

unfoldable pub written : ℕ → ℤ → Written
written d z =
    record { m = int_div z (pos (10 ^ zeros d z)); e = cond (unsigned_abs z == 0) (pos 0) (pos (zeros d z) -ℤ pos 70) }

-- ---- eight bytes: M in four and e in two, each in two's complement with the highest byte first, then two zero bytes
-- the integer that n stands for in two's complement, for n below 2^bits
abbrev pub from_complement : ℕ → ℕ → ℤ
from_complement bits n = cond (nat_lt n (2 ^ (bits - 1))) (pos n) (pos n -ℤ pos (2 ^ bits))

-- the n below 2^bits that stands for an integer in two's complement
abbrev pub complement : ℕ → ℤ → ℕ
complement bits (pos n) = n % 2 ^ bits
complement bits (negsuc n) = 2 ^ bits - 1 - n % 2 ^ bits

-- M, e and the last two bytes of eight
abbrev pub M_in : List ℕ → ℤ
M_in bs = from_complement 32 (slice_index bs 0 * 2 ^ 24 + slice_index bs 1 * 2 ^ 16 + slice_index bs 2 * 256 + slice_index bs 3)

abbrev pub e_in : List ℕ → ℤ
e_in bs = from_complement 16 (slice_index bs 4 * 256 + slice_index bs 5)

abbrev pub ends_in_zeros : List ℕ → Bool
ends_in_zeros bs = slice_index bs 6 == 0 && slice_index bs 7 == 0

-- what eight bytes are admitted as: as M and e are, and for cause 3 not at all where the last two are not both zero
unfoldable pub admitted : ℕ → List ℕ → Admission
admitted d bs = cond (ends_in_zeros bs) (admission d (M_in bs) (e_in bs)) (not_admitted 3)

-- the eight bytes of M and e, each in two's complement, and of a number of z units
abbrev pub bytes : ℕ → ℕ → List ℕ
bytes M e = (M / 2 ^ 24 % 256) ∷ (M / 2 ^ 16 % 256) ∷ (M / 256 % 256) ∷ (M % 256) ∷ (e / 256 % 256) ∷ (e % 256) ∷ 0 ∷ 0 ∷ []

unfoldable pub pattern : ℕ → ℤ → List ℕ
pattern d z = bytes (complement 32 (written d z).m) (complement 16 (written d z).e)

-- ---- the arithmetic: d decimal digits, 10^70 units to 1, limits 10^−40 and 10^40
unfoldable pub meaning : ℕ → Meaning
meaning d = radix 10 d 70 lowest highest (admitted d) (pattern d)

-- a cell keeps M and e
abbrev pub setting : ℕ → Setting Written
setting d = record { meaning = meaning d; reads = reads d; plain = written d }
