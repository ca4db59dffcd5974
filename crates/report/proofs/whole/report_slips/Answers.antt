-- Where the sink refuses the last line, the lines of the slips and a beginning of that line were taken.
use Rattle.std.proofs.Common.{subst}
use Rattle.std.proofs.lemmas.Result.{MatchResult-from_err}
use Rattle.report.specs.Puts.{TakesSome}
use Rattle.report.specs.Text.{ending_line}
use Rattle.report.proofs.Putting.{some_after_first}
use Rattle.report.proofs.whole.report_slips.Goals as goal

pub returns-in_err-last-clause-written : goal.returns-in_err-last-clause-written
returns-in_err-last-clause-written g c =
    let takes = g.S.Sink.takes in
    let slips = c.in_ok-report.ensures in
    let line = subst (λ e. TakesSome takes c.write_slips.new.out c.write_last.new.out (ending_line e)) slips.ending c.in_err-last.ensures.line in
    let some = some_after_first takes g.met.S.Sink.in_turn c.args.out.now c.write_slips.new.out c.write_last.new.out _ _ slips.lines line in
    MatchResult-from_err c.from_residual-in_err-last.result _ _ c.from_residual-in_err-last.ensures.0 (λ y. some)
