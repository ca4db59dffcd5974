-- Before each line: the arithmetic is set as at the start and lawful, the bench is of the making of the card, and what is scored of the lines
-- that are left, from the bench and the score as they stand, is the score of the card.
use Rattle.std.specs.Prelude.{◌≡◌}
use Rattle.std.specs.Str.Iter.{lines_steps}
use Rattle.std.specs.Str.Lines.{lines}
use Rattle.arithmetic.specs.Setting.{Stays}
use Rattle.coefficients.specs.Calls.{new_bench}
use Rattle.bench.specs.Benches.{making_of, state_of}
use Rattle.comparison.specs.Scores.{no_answers}
use Rattle.cards.specs.Cards.{card_making}
use Rattle.cards.proofs.Scoring.{Remains}
use Rattle.cards.proofs.work_card.Given as goal

abbrev pub invariant-loop-line : goal.invariant-loop-line
invariant-loop-line g l = record {
  arith : Stays g.A.Arithmetic.setting g.A.Arithmetic.lawful l.fn.arith l.arith;
  making : making_of (g.A.Arithmetic.setting l.fn.arith) l.bench ≡ card_making (g.A.Arithmetic.setting l.fn.arith).meaning l.fn.k;
  remains : Remains lines_steps (card_making (g.A.Arithmetic.setting l.fn.arith).meaning l.fn.k) (new_bench (card_making (g.A.Arithmetic.setting l.fn.arith).meaning l.fn.k)) no_answers (lines l.text) l.line-iterator (state_of (g.A.Arithmetic.setting l.fn.arith) l.bench) l.score;
}
