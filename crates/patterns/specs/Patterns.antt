-- The sixteen upper-case hexadecimal digits of a pattern, as they are read and shown.
use Rattle.std.specs.Prelude.{◌≡◌, ℕ, ◌+◌, ◌-◌, ◌*◌, ◌/◌, ◌%◌, ◌<◌, true, cond, ◌⊎◌, List, [], ◌∷◌, length, Some, None, Ok, Err, Option, Result, ◌≢◌, nat_le, slice_index, flat_map}
use Rattle.std.specs.Fmt.{digit_glyph}
use Rattle.patterns.specs.declared.Pattern.{Pattern}
use Rattle.patterns.specs.declared.NotAPattern.{NotAPattern}

-- 0 to 9, and A to F in upper case, by their codes
abbrev pub digit_value : ℕ → Option ℕ
digit_value c = cond (nat_le 48 c) (cond (nat_le c 57) (Some (c - 48)) (cond (nat_le 65 c) (cond (nat_le c 70) (Some (c - 55)) None) None)) None

-- sixteen times the higher digit and the lower one; none where either is no digit
abbrev pub two_digits : Option ℕ → Option ℕ → Option ℕ
two_digits None l = None
two_digits (Some h) None = None
two_digits (Some h) (Some l) = Some (h * 16 + l)

-- the byte that two characters stand for
abbrev pub byte_value : ℕ → ℕ → Option ℕ
byte_value high low = two_digits (digit_value high) (digit_value low)

-- the byte at place k of a word
abbrev pub byte_at : List ℕ → ℕ → Option ℕ
byte_at word k = byte_value (slice_index word (2 * k)) (slice_index word (2 * k + 1))

-- a word of another length, or one with two characters that are no byte; else the bytes, place by place
abbrev pub Reads : List ℕ → Result Pattern NotAPattern → Type 0
Reads word (Err e) = (length word ≢ 16) ⊎ ((k : ℕ) × (k < 8) × (byte_at word k ≡ None))
Reads word (Ok p) = (length word ≡ 16) × ((k : ℕ) → k < 8 → byte_at word k ≡ Some (slice_index p.bytes k))

-- the two digits that a byte is shown by
abbrev pub byte_text : ℕ → List ℕ
byte_text b = digit_glyph true (b / 16) ∷ digit_glyph true (b % 16) ∷ []

-- the sixteen digits of a pattern, byte by byte
abbrev pub pattern_text : Pattern → List ℕ
pattern_text p = flat_map byte_text p.bytes
