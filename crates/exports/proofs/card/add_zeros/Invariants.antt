-- The zeros that are left lead to the state that all lead to.
use Rattle.std.proofs.Common.{◌≡◌, drop}
use Rattle.arithmetic.specs.Setting.{Stays}
use Rattle.bench.specs.Benches.{making_of, state_of, Keeps}
use Rattle.exports.specs.Cards.{after_zeros}
use Rattle.exports.proofs.card.add_zeros.Given as goal

abbrev pub invariant-loop-zero : goal.invariant-loop-zero
invariant-loop-zero g l =
    let st = g.A.Arithmetic.setting l.initial.arith in
    let b = making_of st l.initial.bench in
    record {
      state : after_zeros b (state_of st l.bench) (drop l.zero-index l.zeros) ≡ after_zeros b (state_of st l.initial.bench) l.zeros;
      keeps : Keeps st l.initial.bench l.bench;
      arith : Stays g.A.Arithmetic.setting g.A.Arithmetic.lawful l.initial.arith l.arith;
    }
