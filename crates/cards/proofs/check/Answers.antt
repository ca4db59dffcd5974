-- Where a line tells a call, that and the comparison decide; where it tells none, it does not agree.
use Rattle.bench.specs.Benches.{making_of, state_of}
use Rattle.calls.specs.Lines.{answer_text}
use Rattle.calls.specs.Entries.{entries}
use Rattle.calls.proofs.Shown.{shown}
use Rattle.cards.proofs.Agreeing.{agreed, untold}
use Rattle.cards.proofs.check.Goals as goal

pub returns-in_default-clause-agrees : goal.returns-in_default-clause-agrees
returns-in_default-clause-agrees g c = untold _ _ c.args.line.now c.in_default.ensures

pub returns-clause-agrees : goal.returns-clause-agrees
returns-clause-agrees g c =
    let st = g.A.Arithmetic.setting c.args.arith.now in
    agreed (making_of st c.args.bench.now) (state_of st c.args.bench.now) c.args.line.now c.in-Some.expected.now c.in-Some.call c.in-Some.ensures (answer_text c.work-answer.result) (shown st c.args.bench.now (entries c.in-Some.call) c.work-answer.result c.work-answer.ensures.answer) c.compare.result c.compare.ensures
