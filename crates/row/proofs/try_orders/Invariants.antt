-- At order k: nothing was refused above it, and the numbers carried over are those of cell k.
use Rattle.std.proofs.Common.{◌≡◌}
use Rattle.arithmetic.specs.Setting.{Stays}
use Rattle.coefficients.specs.Row.{cell, row_after}
use Rattle.row.specs.Reading.{values, readings, AreNumbers}
use Rattle.row.specs.Answers.{refusal}
use Rattle.row.proofs.try_orders.Given as goal

abbrev pub invariant-loop-order : goal.invariant-loop-order
invariant-loop-order g l =
    let st = g.A.Arithmetic.setting l.initial.arith in
    let after = row_after st.meaning (g.A.Arithmetic.value l.x) (readings st l.row) in
    record {
      told : refusal (after l.n) ≡ refusal (after l.order-counter);
      reads : values g.A.Arithmetic.value l.old ≡ cell (readings st l.row) l.order-counter;
      numbers : AreNumbers st.meaning g.A.Arithmetic.value l.old;
      arith : Stays g.A.Arithmetic.setting g.A.Arithmetic.lawful l.initial.arith l.arith;
    }
