-- A heading names no format and order where its first word names no format, or what follows names no order; a card is noted, or it is not.
use Rattle.std.proofs.Common.{◌≡◌, ℕ, ◌==◌, inl, inr, List, Some, None, Result, Ok, Err, refl, subst}
use Rattle.std.specs.List.{before_first, after_first}
use Rattle.std.specs.Result.{result_ok}
use Rattle.formats.specs.Formats.{meaning_of}
use Rattle.formats.specs.Words.{told_format, Names}
use Rattle.formats.specs.declared.Format.{Format}
use Rattle.formats.specs.declared.NotAFormat.{NotAFormat}
use Rattle.comparison.specs.Words.{Counts}
use Rattle.comparison.specs.declared.score.Score.{Score}
use Rattle.cards.specs.declared.tally.Tallies.{Tallies}
use Rattle.cards.specs.Tallies.{noted_of}
use Rattle.cards.specs.Cards.{Heads, IsCardScore, NotesCard}

-- ---- what a heading names
pub no_format : (heading : List ℕ) (r : Result Format NotAFormat) → Names (before_first (λ c. c == 32) heading) r → result_ok r ≡ None → (format : Format) (k : ℕ) → ¬ (Heads heading format k)
no_format heading (Ok f) names e format k h = cc
no_format heading (Err x) names e format k h = names format h.0

pub no_order : (heading : List ℕ) → ((k : ℕ) → ¬ (Counts (after_first (λ c. c == 32) heading) (Some k))) → (format : Format) (k : ℕ) → ¬ (Heads heading format k)
no_order heading none format k h = none k h.1

-- ---- a card is noted, or it is not
pub counted_card : (before after : Tallies) (card : List ℕ) (format : Format) (k : ℕ) (score : Score) → Heads (before_first (λ c. c == 10) card) format k → IsCardScore (meaning_of (told_format format)) k (after_first (λ c. c == 10) card) score → after ≡ noted_of before format score → NotesCard before card after
counted_card before after card format k score heads scored notes = inl (format, k, score, heads, scored, notes)

pub uncounted_card : (before : Tallies) (card heading : List ℕ) → heading ≡ before_first (λ c. c == 10) card → ((format : Format) (k : ℕ) → ¬ (Heads heading format k)) → NotesCard before card before
uncounted_card before card heading first none = inr (subst (λ l. (format : Format) (k : ℕ) → ¬ (Heads l format k)) first none, refl)
