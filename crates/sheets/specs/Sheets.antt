-- Which words of a line tell a sheet, and its bytes. The digits are hexadecimal, two for each byte.
use Rattle.std.specs.Prelude.{ℕ, ◌==◌, slice_index, cond, List, [], ◌∷◌, ◌++◌, Option, None, Some, codes}
use Rattle.std.specs.Int.{w16, from_be_bytes}
use Rattle.std.specs.List.{repeat}
use Rattle.std.specs.Option.{option_map}
use Rattle.std.specs.Result.{result_ok}
use Rattle.std.specs.Str.{bytes_eq}
use Rattle.hex.specs.Hex.{decode_of, decode_sized}
use Rattle.comparison.specs.Words.{words}
use Rattle.calls.specs.Lines.{newline}
use Rattle.report.specs.Report.{report}

-- the bytes of some digits; none for other words
abbrev pub bytes_of : List ℕ → Option (List ℕ)
bytes_of digits = result_ok (decode_of digits)

-- the number that four digits write
abbrev pub count_of : List ℕ → Option ℕ
count_of digits = option_map (from_be_bytes w16) (result_ok (decode_sized digits 2))

-- the bytes of some digits, and after them so many copies of others
abbrev pub with_copies : List ℕ → Option ℕ → List ℕ → Option (List ℕ)
with_copies digits None part = None
with_copies digits (Some n) part = bytes_of (digits ++ repeat n part)

-- the bytes that the words after the first tell: none at all; digits; or digits, a count and what is repeated so many times
abbrev pub told_after : List (List ℕ) → Option (List ℕ)
told_after [] = Some []
told_after (digits ∷ []) = bytes_of digits
told_after (digits ∷ count ∷ []) = None
told_after (digits ∷ count ∷ part ∷ []) = with_copies digits (count_of count) part
told_after (digits ∷ count ∷ part ∷ word ∷ more) = None

-- the first word is `sheet`
abbrev pub told : List (List ℕ) → Option (List ℕ)
told [] = None
told (name ∷ ws) = cond (bytes_eq name (codes "sheet")) (told_after ws) None

-- the report of the sheet that a line tells; or that it tells none
abbrev pub shown_sheet : List ℕ → Option (List ℕ) → List ℕ
shown_sheet line None = codes "not a sheet: " ++ (line ++ newline)
shown_sheet line (Some sheet) = report sheet

-- what is printed of a line; a comment begins with the character 35, `#`, and is printed as it is
abbrev pub shown : List ℕ → List ℕ
shown line = cond (slice_index line 0 == 35) (line ++ newline) (shown_sheet line (told (words line)))
