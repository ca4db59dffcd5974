-- The words of a line, and what words stand for.
use Rattle.std.specs.Prelude.{◌≡◌, ℕ, ◌==◌, ◌^◌, ◌<◌, List, Option, Ok, MatchOption, slice_get}
use Rattle.std.specs.Borrow.{Bor}
use Rattle.std.specs.List.{slice_split}
use Rattle.std.specs.Option.{SomeIff, option_map}
use Rattle.std.specs.Str.Parse.{IsNumeral, digits_value, without_leading_plus}
use Rattle.patterns.specs.declared.Pattern.{Pattern}
use Rattle.patterns.specs.Patterns.{Reads}

-- the words of a line: its parts before, between and after its spaces
abbrev pub words : List ℕ → List (List ℕ)
words line = slice_split (λ c. c == 32) line

-- the word at a place of a line, counted from 0; none where the line has fewer
abbrev pub IsWordAt : List ℕ → ℕ → Option (Bor (List ℕ)) → Type 0
IsWordAt line place word = option_map (λ w. w.now) word ≡ slice_get (words line) place

-- the number below 256 that a word writes in decimal digits, after a plus if it has one; none for any other word
abbrev pub Counts : List ℕ → Option ℕ → Type 0
Counts word r = SomeIff r (IsNumeral 10 (without_leading_plus word) × (digits_value 10 (without_leading_plus word) < 2 ^ 8)) (digits_value 10 (without_leading_plus word))

-- the pattern that is read from a word; none where the word is not read as one
abbrev pub ReadsPattern : List ℕ → Option Pattern → Type 0
ReadsPattern word r = MatchOption r ((p : Pattern) → ¬ (Reads word (Ok p))) (λ p. Reads word (Ok p))
