-- A turn either ends the loop, where nothing is left to tell, or puts the lines of one slip, or is refused by the sink.
use Rattle.std.proofs.Common.{rules, arith, length, refl, ◌∙◌}
use Rattle.std.proofs.lemmas.Result.{MatchResult-from_err}
use Rattle.bench.specs.Benches.{making_of}
use Rattle.report.specs.Calls.{report_state}
use Rattle.report.proofs.Slips.{going_as, begins}
use Rattle.report.proofs.Loop.{none_taken, made_as, turn_told, turn_counted, turn_refused, turn_ends, turn_on, turn_unmet}
use Rattle.report.proofs.whole.write_slips.Goals as goal

pub loop-turn-init : goal.loop-turn-init
loop-turn-init g c =
    let st = g.A.Arithmetic.setting c.args.arith.now in
    let sheet = c.args.sheet.bytes.now in
    let r = c.new-report.result in
    let e = c.new-report.ensures.start in
    let law = g.met.S.Sink in
    record {
      going = going_as g.S.Sink.takes law.in_turn (none_taken (length sheet)) (begins g.S.Sink.takes law.in_turn (making_of st c.args.bench.now) sheet (report_state st r c.args.bench.now) _ (law.nothing _) e.0 e.1);
      few = search rules;
      unmet = e.2;
      making = refl;
      bytes = c.new-report.ensures.bytes;
      room = refl;
      arith = search rules;
    }

pub returns-in_err-length-clause-lines : goal.returns-in_err-length-clause-lines
returns-in_err-length-clause-lines g c =
    let i = c.loop-turn.invariant in
    let some = turn_refused _ _ _ _ c.loop-turn.report c.loop-turn.bench i.arith.same i.making i.bytes _ g.met.S.Sink.in_turn c.loop-turn.turn (omega arith) _ _ _ _ _ _ i.going c.in_err-length.ensures.lines in
    MatchResult-from_err c.from_residual.result _ _ c.from_residual.ensures.0 (λ y. some)

pub returns-then-length-eq0-clause-lines : goal.returns-then-length-eq0-clause-lines
returns-then-length-eq0-clause-lines g c =
    let i = c.loop-turn.invariant in
    let e = c.in_ok-length.ensures in
    turn_told _ _ _ _ c.loop-turn.report c.loop-turn.bench i.arith.same i.making i.bytes _ g.met.S.Sink.in_turn c.loop-turn.turn (omega arith) _ _ _ _ _ _ i.going _ e.lines e.length e.slip (omega arith)

pub returns-then-length-eq0-clause-length : goal.returns-then-length-eq0-clause-length
returns-then-length-eq0-clause-length g c =
    let i = c.loop-turn.invariant in
    let e = c.in_ok-length.ensures in
    turn_counted _ _ _ _ c.loop-turn.report c.loop-turn.bench i.arith.same i.making i.bytes _ g.met.S.Sink.in_turn c.loop-turn.turn (omega arith) _ _ _ _ _ _ i.going _ e.lines e.length e.slip (omega arith)

pub returns-then-length-eq0-clause-ending : goal.returns-then-length-eq0-clause-ending
returns-then-length-eq0-clause-ending g c =
    let i = c.loop-turn.invariant in
    let e = c.in_ok-length.ensures in
    turn_ends _ _ _ _ c.loop-turn.report c.loop-turn.bench i.arith.same i.making i.bytes _ g.met.S.Sink.in_turn c.loop-turn.turn (omega arith) _ _ _ _ _ _ i.going _ e.lines e.length e.slip c.write_slip.new.report c.write_slip.new.bench e.then i.unmet (omega arith)

pub loop-turn-preserved : goal.loop-turn-preserved
loop-turn-preserved g c =
    let st = g.A.Arithmetic.setting c.args.arith.now in
    let st' = g.A.Arithmetic.setting c.loop-turn.arith in
    let i = c.loop-turn.invariant in
    let e = c.in_ok-length.ensures in
    record {
      going = turn_on _ _ _ _ c.loop-turn.report c.loop-turn.bench i.arith.same i.making i.bytes _ g.met.S.Sink.in_turn c.loop-turn.turn (omega arith) _ _ _ _ _ _ i.going _ e.lines e.length e.slip c.write_slip.new.report c.write_slip.new.bench e.then (omega arith);
      few = search rules;
      unmet = turn_unmet _ _ _ _ c.loop-turn.report c.loop-turn.bench i.arith.same i.making i.bytes _ g.met.S.Sink.in_turn c.loop-turn.turn (omega arith) _ _ _ _ _ _ i.going _ e.lines e.length e.slip c.write_slip.new.report c.write_slip.new.bench e.then (omega arith);
      making = made_as st st' i.arith.same c.loop-turn.bench c.write_slip.new.bench e.keeps.making ∙ i.making;
      bytes = e.bytes ∙ i.bytes;
      room = search rules;
      arith = search rules;
    }
