-- What is rounded is the significand times the units of roundoff in 1, over what k leaves of them.
use Rattle.std.proofs.Common.{sym}
use Rattle.scientific.proofs.LiftResults.{answer, answer_number}
use Rattle.scientific.proofs.lifting.lift.Goals as goal

pub returns : goal.returns
returns c =
    let w = c.roundoffs_in_one-whole in
    let r = c.round_fraction-r in
    record {
      answer = sym (answer c.args.p c.args.a c.args.k c.requires.few c.if-a-eq0.false r.result.significand r.result.zeros w.result w.ensures.few w.ensures.value r.ensures.short r.ensures.value c.in_limits.result c.in_limits.ensures);
      number = answer_number c.args.p r.result.significand _ r.ensures.short c.in_limits.result c.in_limits.ensures;
    }
