-- What a call answers, by value: a number, 0 where the call is accepted and the refusal's where it is refused, and its values. It is told
-- from the entries that the call adds to the book; the text of an answer is told from it.
use Rattle.std.specs.Prelude.{ℕ, List, [], ◌∷◌, ◌++◌}
use Rattle.arithmetic.specs.Meaning.{Meaning}
use Rattle.coefficients.specs.Closing.{Verdict}
use Rattle.coefficients.specs.Calls.{Call, Answer as Defined, add, clear, ask, issue, mark, withdraw, added, cleared, asked, issued, marked, withdrawn, refused}
use Rattle.coefficients.specs.Book.{Entry}
use Rattle.closing.specs.Closings.{told_verdict}
use Rattle.bench.specs.Refusals.{refusal_number, refusal_details}
use Rattle.calls.specs.declared.answer.Answer.{Answer}
use Rattle.calls.specs.declared.answer.Answer.TheVariants.{Added, Asked, Examined, Cleared, Refused}

pub data Values : Type 0 where
  -- of an addition: the number of the zero
  zero_number : ℕ → Values
  -- of an asking: the order, and the patterns of the value and of the bound
  coefficient : ℕ → List ℕ → List ℕ → Values
  -- of an examination: the order and the verdict
  judgement : ℕ → Verdict → Values
  -- of a clearing
  no_values : Values
  -- of a refusal: its details
  details : List ℕ → Values

pub record Told : Type 0 where
  pub number : ℕ
  pub values : Values

-- an answer of the code
abbrev pub told : Answer → Told
told (Added number) = record { number = 0; values = zero_number number }
told (Asked order value bound) = record { number = 0; values = coefficient order value.bytes bound.bytes }
told (Examined order verdict) = record { number = 0; values = judgement order (told_verdict verdict) }
told Cleared = record { number = 0; values = no_values }
told (Refused refusal) = record { number = refusal_number refusal; values = details (refusal_details refusal) }

-- ---- what entries tell
-- the order that a call is for; 0 for an addition and a clearing, of which no order is told
abbrev pub order_of : Call → ℕ
order_of (add zero) = 0
order_of clear = 0
order_of (ask k) = k
order_of (issue k) = k
order_of (mark n k claim tolerance) = k
order_of (withdraw n k) = k

-- an entry for the order k. An issued question and a withdrawal tell nothing: what is told of an examination is its marking.
abbrev pub told_by : Meaning → ℕ → Defined → List Told
told_by m k (added i) = record { number = 0; values = zero_number i } ∷ []
told_by m k cleared = record { number = 0; values = no_values } ∷ []
told_by m k (asked v b) = record { number = 0; values = coefficient k (m.pattern v) (m.pattern b) } ∷ []
told_by m k (issued n order) = []
told_by m k (marked v) = record { number = 0; values = judgement k v } ∷ []
told_by m k withdrawn = []
told_by m k (refused r ds) = record { number = r; values = details ds } ∷ []

-- the entries of a book, in turn
abbrev pub answers : Meaning → List Entry → List Told
answers m [] = []
answers m (e ∷ es) = told_by m (order_of e.call) e.answer ++ answers m es
