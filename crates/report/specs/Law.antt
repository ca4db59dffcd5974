-- The law, read off a report. The lines of a report but the last are those of a book; what they say is true of the zeros that the sheet has
-- put in by then, which are told from the entries before.
use Rattle.std.specs.Prelude.{◌≡◌, ℕ, List, ◌∷◌, ◌++◌, ℤ, ◌≤ℤ◌}
use Rattle.arithmetic.specs.Meaning.{Meaning, number}
use Rattle.arithmetic.specs.Rules.{Rules}
use Rattle.coefficients.specs.Closing.{Verdict}
use Rattle.coefficients.specs.Calls.{Making, ask, mark, asked, marked}
use Rattle.coefficients.specs.Book.{Entry, Kept, Place, zeros_held}
use Rattle.coefficients.specs.Law.{distance, scaled, VerdictHolds, SameZeros, WithinBoth}
use Rattle.formats.specs.Formats.{meaning_of}
use Rattle.sheet.specs.Layout.{Opening, opened, refused, opening}
use Rattle.sheet.specs.Contents.{IsWhole}
use Rattle.report.specs.Text.{making, sheet_book}

-- what the lines of a book say is true
pub record LinesHold (b : Making) (book : List Entry) : Type 0 where
  -- each answer is the one defined
  pub kept : Kept b book
  -- a line `K k v e`: v differs from the exact coefficient by at most e
  pub encloses : (before rest : List Entry) (k : ℕ) (v e : ℤ) → book ≡ before ++ (record { call = ask k; answer = asked v e } ∷ rest) →
      distance b.meaning k (zeros_held b.meaning before) v ≤ℤ scaled b.meaning k e
  -- a line `M k right` or `M k wrong`: the claim is within its tolerance T of the exact coefficient, or beyond it
  pub judges : (before rest : List Entry) (question k : ℕ) (claim_bytes tolerance_bytes : List ℕ) (v : Verdict) →
      book ≡ before ++ (record { call = mark question k claim_bytes tolerance_bytes; answer = marked v } ∷ rest) →
      (claim T : ℤ) → b.meaning.admit claim_bytes ≡ number claim → b.meaning.admit tolerance_bytes ≡ number T →
      VerdictHolds b.meaning k (zeros_held b.meaning before) claim T v
  -- two lines `K` of one order, in this report or in another, for the same zeros: their values differ by at most both bounds
  pub agrees : (before rest : List Entry) (k : ℕ) (v e : ℤ) → book ≡ before ++ (record { call = ask k; answer = asked v e } ∷ rest) →
      (b' : Making) → Rules b'.meaning → (before' : List Entry) (v' e' : ℤ) → Place b' before' (ask k) (asked v' e') →
      SameZeros b.meaning (zeros_held b.meaning before) b'.meaning (zeros_held b'.meaning before') →
      WithinBoth b.meaning v e b'.meaning v' e'

-- of the report of a sheet, if its header is accepted: the sheet is read to its end or to a fault, and what the lines say is true
pub record SheetHolds (m : Meaning) (K : ℕ) (s : List ℕ) : Type 0 where
  pub read : IsWhole m s
  pub lines : LinesHold (making m K) (sheet_book m K s)

abbrev pub law_by_header : List ℕ → Opening → Type 0
law_by_header s (opened format K) = SheetHolds (meaning_of format) K s
law_by_header s (refused f) = Unit {0}

abbrev pub ReportLaw : List ℕ → Type 0
ReportLaw s = law_by_header s (opening s)
