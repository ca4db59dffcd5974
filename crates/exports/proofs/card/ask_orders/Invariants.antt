-- The orders below the index are asked.
use Rattle.arithmetic.specs.Setting.{Stays}
use Rattle.bench.specs.Benches.{making_of, state_of}
use Rattle.exports.specs.Cards.{Asked}
use Rattle.exports.proofs.card.ask_orders.Given as goal

abbrev pub invariant-loop-order : goal.invariant-loop-order
invariant-loop-order g l =
    let st = g.A.Arithmetic.setting l.initial.arith in
    record {
      asked : Asked (making_of st l.bench) (state_of st l.bench) l.order l.initial.answers l.answers;
      arith : Stays g.A.Arithmetic.setting g.A.Arithmetic.lawful l.initial.arith l.arith;
    }
