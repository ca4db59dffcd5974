-- The words before the line are put, and then the line is; where the sink refuses the words, what it took is a beginning of both.
use Rattle.std.proofs.Common.{◌++◌, codes}
use Rattle.std.proofs.lemmas.Result.{MatchResult-from_err}
use Rattle.calls.specs.Lines.{newline}
use Rattle.report.proofs.Putting.{some_of_first}
use Rattle.sheets.proofs.InTurn.{puts_in_turn}
use Rattle.sheets.proofs.put_no_sheet.Goals as goal

pub returns-in_err-put : goal.returns-in_err-put
returns-in_err-put g c =
    let some = some_of_first g.S.Sink.takes c.args.out.now c.put.new.self (codes "not a sheet: ") (c.args.line.now ++ newline) c.in_err-put.ensures in
    MatchResult-from_err c.from_residual.result _ _ c.from_residual.ensures.0 (λ y. some)

pub returns : goal.returns
returns g c =
    puts_in_turn g.S.Sink.takes g.met.S.Sink.in_turn c.args.out.now c.put.new.self c.put_line.new.out (codes "not a sheet: ") (c.args.line.now ++ newline) c.put_line.result c.in_ok-put.ensures c.put_line.ensures
