-- What the score of a card counts: its lines that are no comments, each compared on the bench as the lines before have left it. And how
-- a card is noted, by the format and the highest order that its first line names.
use Rattle.std.specs.Prelude.{◌≡◌, ◌↔◌, ℕ, ◌<◌, ◌≤◌, ◌⊎◌, ◌==◌, Bool, false, not, IsTrue, List, [], ◌∷◌, filter, slice_index, Option, Some, MatchOption}
use Rattle.std.specs.List.{before_first, after_first}
use Rattle.std.specs.Str.Lines.{lines}
use Rattle.arithmetic.specs.Meaning.{Meaning}
use Rattle.coefficients.specs.Calls.{Making, State, new_bench}
use Rattle.formats.specs.Formats.{meaning_of}
use Rattle.formats.specs.Words.{told_format, format_name}
use Rattle.formats.specs.declared.Format.{Format}
use Rattle.comparison.specs.Words.{Counts}
use Rattle.comparison.specs.Scores.{no_answers, counted}
use Rattle.comparison.specs.declared.score.Score.{Score}
use Rattle.cards.specs.declared.tally.Tallies.{Tallies}
use Rattle.cards.specs.Tallies.{noted_of}
use Rattle.cards.specs.Checks.{Agrees, LeadsTo}

-- a comment begins with `#`
abbrev pub is_comment : List ℕ → Bool
is_comment line = slice_index line 0 == 35

abbrev pub without_comments : List (List ℕ) → List (List ℕ)
without_comments = filter (λ line. not (is_comment line))

-- lines are counted one by one, from a state of the bench and a score on: a line counts as one that agrees or not, and the next line is
-- worked in the state that it leads to; the last score is that after all of them
abbrev pub Scored : Making → State → Score → List (List ℕ) → Score → Type 0
Scored b s before [] after = after ≡ before
Scored b s before (line ∷ more) after = (agrees : Bool) × (t : State) × (IsTrue agrees ↔ Agrees b s line) × LeadsTo b s line t × Scored b t (counted before agrees) more after

-- what the bench of a card is made with: its number is 1
abbrev pub card_making : Meaning → ℕ → Making
card_making m k = record { meaning = m; bench_number = 1; K = k }

-- the score of a card of highest order k, given its text: that of its lines that are no comments, on a new bench. There is no card of order
-- 0 or above 64, which counts as one line that does not agree
abbrev pub IsCardScore : Meaning → ℕ → List ℕ → Score → Type 0
IsCardScore m k text score =
    (0 < k → k ≤ 64 → Scored (card_making m k) (new_bench (card_making m k)) no_answers (without_comments (lines text)) score)
    × ((k ≡ 0) ⊎ (64 < k) → score ≡ counted no_answers false)

-- ---- a whole card: its first line, and the text after it
-- a heading names a format, and after its first space a highest order
abbrev pub Heads : List ℕ → Format → ℕ → Type 0
Heads heading format k = (before_first (λ c. c == 32) heading ≡ format_name format) × Counts (after_first (λ c. c == 32) heading) (Some k)

-- the format and the highest order of a heading; none where it names none
abbrev pub IsHeadedBy : List ℕ → Option (Format × ℕ) → Type 0
IsHeadedBy heading r = MatchOption r ((format : Format) (k : ℕ) → ¬ (Heads heading format k)) (λ p. Heads heading p.0 p.1)

-- from one state of the tallies to another, a card is noted with its score; a text whose first line is no heading is not
abbrev pub NotesCard : Tallies → List ℕ → Tallies → Type 0
NotesCard before card after =
    ((format : Format) × (k : ℕ) × (score : Score) × Heads (before_first (λ c. c == 10) card) format k × IsCardScore (meaning_of (told_format format)) k (after_first (λ c. c == 10) card) score × (after ≡ noted_of before format score))
    ⊎ (((format : Format) (k : ℕ) → ¬ (Heads (before_first (λ c. c == 10) card) format k)) × (after ≡ before))
