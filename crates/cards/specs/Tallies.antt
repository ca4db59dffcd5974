-- What a tally counts: the cards, and the calls of all cards.
use Rattle.std.specs.Prelude.{◌==◌}
use Rattle.comparison.specs.Scores.{no_answers, counted, gathered}
use Rattle.comparison.specs.declared.score.Score.{Score}
use Rattle.formats.specs.declared.Format.{Format}
use Rattle.formats.specs.declared.Format.TheVariants.{Binary64, Decimal}
use Rattle.cards.specs.declared.tally.Tally.{Tally}
use Rattle.cards.specs.declared.tally.Tallies.{Tallies}

-- before any card
abbrev pub no_cards : Tally
no_cards = record { cards = no_answers; calls = no_answers }

-- after one card more, given the score of its calls: it agrees if each of them does
abbrev pub noted : Tally → Score → Tally
noted t calls = record { cards = counted t.cards (calls.agree == calls.compared); calls = gathered t.calls calls }

-- before any card of any format
abbrev pub no_tallies : Tallies
no_tallies = record { binary64 = no_cards; decimal = no_cards }

-- after one card more of a format: the tally of its arithmetic alone has counted it
abbrev pub noted_of : Tallies → Format → Score → Tallies
noted_of t Binary64 calls = record t { binary64 = noted t.binary64 calls }
noted_of t (Decimal p) calls = record t { decimal = noted t.decimal calls }
