-- The text was taken, and then the end of the line is put.
use Rattle.std.proofs.Common.{subst}
use Rattle.calls.specs.Lines.{newline}
use Rattle.sheets.proofs.InTurn.{puts_in_turn}
use Rattle.sheets.proofs.put_line.Goals as goal

pub returns : goal.returns
returns g c =
    let takes = g.S.Sink.takes in
    let text = subst (λ t. takes c.args.out.now c.put.new.self t) c.as_bytes.ensures.value c.in_ok-put.ensures in
    puts_in_turn takes g.met.S.Sink.in_turn c.args.out.now c.put.new.self c.put-2.new.self c.args.text.now newline c.put-2.result text c.put-2.ensures
