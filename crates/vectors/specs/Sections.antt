-- What a section makes of a line: the question before its ` = ` is worked, and the answers are compared with what stands after it.
use Rattle.std.specs.Prelude.{◌≡◌, ◌↔◌, ℕ, ◌==◌, IsTrue, Bool, List, Option, Some, None, MatchOption}
use Rattle.std.specs.List.{before_first}
use Rattle.arithmetic.specs.Meaning.{Meaning}
use Rattle.operations.specs.declared.answer.Answer.{Answer}
use Rattle.vectors.specs.declared.tally.Operation.{Operation}
use Rattle.vectors.specs.declared.tally.Tally.{Tally}
use Rattle.vectors.specs.declared.vector.Vector.{Vector}
use Rattle.vectors.specs.declared.work.Worked.{Worked}
use Rattle.vectors.specs.Questions.{Tells}
use Rattle.vectors.specs.Tallies.{noted}
use Rattle.operations.specs.Texts.{answer_text}
use Rattle.vectors.specs.Workings.{worked}

-- what the vector that words tell is worked to in an arithmetic; none where they tell none
abbrev pub IsWorkingOf : Meaning → List (List ℕ) → Option Worked → Type 0
IsWorkingOf m ws r = MatchOption r ((v : Vector) → ¬ (Tells ws v)) (λ w. (v : Vector) × Tells ws v × (w ≡ worked m v))

-- the first word of a text: what stands before its first space, all of it where it has none
abbrev pub first_word_of : List ℕ → List ℕ
first_word_of text = before_first (λ c. c == 32) text

-- from one tally to the next, an answer of an operation is counted, as one that agrees if it is shown as expected
abbrev pub NotesAnswer : Tally → (Operation × Answer) → List ℕ → Tally → Type 0
NotesAnswer t answered expected t' = (agrees : Bool) × (IsTrue agrees ↔ (answer_text answered.1 ≡ expected)) × (t' ≡ noted t answered.0 agrees)

-- the answer of a rounded operation is counted by the first word of what is expected, where there is such an answer, and then the whole
abbrev pub NotesRounded : Tally → Option (Operation × Answer) → List ℕ → Tally → Type 0
NotesRounded t None expected t' = t' ≡ t
NotesRounded t (Some answered) expected t' = NotesAnswer t answered (first_word_of expected) t'

abbrev pub NotesBoth : Tally → Worked → List ℕ → Tally → Type 0
NotesBoth t w expected t' = (u : Tally) × NotesRounded t w.rounded expected u × NotesAnswer u w.whole expected t'
