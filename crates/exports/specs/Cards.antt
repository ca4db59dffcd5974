-- A card: zeros added to a new bench one after another, and then its orders asked. Patterns are held as numbers of 64 bits.
use Rattle.std.specs.Prelude.{◌≡◌, ℕ, ◌<◌, min, max, cond, List, [], ◌∷◌, length, Option, Some, None, nat_lt, slice_index_or}
use Rattle.std.specs.Int.{w64, to_be_bytes}
use Rattle.arithmetic.specs.Meaning.{Meaning}
use Rattle.coefficients.specs.Calls.{Making, State, Answer, add, ask, added, cleared, asked, issued, marked, withdrawn, refused, new_bench, step}
use Rattle.formats.specs.Formats.{Format, format_of, meaning_of}
use Rattle.report.specs.Text.{making}
use Rattle.exports.specs.Operations.{pattern_of}

-- the state after zeros are added in turn; one that is refused changes nothing
abbrev pub after_zeros : Making → State → List ℕ → State
after_zeros b s [] = s
after_zeros b s (x ∷ xs) = after_zeros b (step b s (add (to_be_bytes w64 x))).then xs

-- the patterns of the value and the bound that are answered; or else what is given
abbrev pub asked_or : Meaning → List ℕ → Answer → List ℕ
asked_or m otherwise (asked v b) = pattern_of m v ∷ pattern_of m b ∷ []
asked_or m otherwise (added i) = otherwise
asked_or m otherwise cleared = otherwise
asked_or m otherwise (issued n k) = otherwise
asked_or m otherwise (marked v) = otherwise
asked_or m otherwise withdrawn = otherwise
asked_or m otherwise (refused r details) = otherwise

-- answer k after the orders below n were asked
abbrev pub asked_at : Making → State → ℕ → List (List ℕ) → ℕ → List ℕ
asked_at b s n old k = cond (nat_lt k n) (asked_or b.meaning (slice_index_or old k []) (step b s (ask k)).answer) (slice_index_or old k [])

-- the answers after the orders below n were asked, as far as there is room
abbrev pub Asked : Making → State → ℕ → List (List ℕ) → List (List ℕ) → Type 0
Asked b s n old new = (length new ≡ length old) × ((k : ℕ) → k < length old → slice_index_or new k [] ≡ asked_at b s n old k)

-- the answers of a card on a bench with the number 1 and the highest order K
abbrev pub Worked : Meaning → ℕ → List ℕ → List (List ℕ) → List (List ℕ) → Type 0
Worked m K zeros old new = Asked (making m K) (after_zeros (making m K) (new_bench (making m K)) zeros) 65 old new

-- as many orders as zeros, from 1 to 64
abbrev pub card_order : List ℕ → ℕ
card_order zeros = min (max (length zeros) 1) 64

-- in the arithmetic of a format; where there is none the answers stay
abbrev pub WorkedIn : Option Format → List ℕ → List (List ℕ) → List (List ℕ) → Type 0
WorkedIn (Some format) zeros old new = Worked (meaning_of format) (card_order zeros) zeros old new
WorkedIn None zeros old new = new ≡ old

-- by the number of the format
abbrev pub CardIn : ℕ → List ℕ → List (List ℕ) → List (List ℕ) → Type 0
CardIn number zeros old new = WorkedIn (format_of number) zeros old new
