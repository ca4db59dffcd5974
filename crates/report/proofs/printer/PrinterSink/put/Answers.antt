-- A write that took some bytes moves the place on by as many; one that was interrupted leaves it.
use Rattle.std.proofs.Common.{◌≤◌, length, take, sym, subst}
use Rattle.std.specs.Io.KnownBytes.{Appends}
use Rattle.report.proofs.Writing.{moved_within, appends_more, appends_kept}
use Rattle.report.proofs.printer.PrinterSink.put.Goals as goal
use Rattle.report.proofs.printer.PrinterSink.put.Goals.{in-Ok, in-Err}

pub loop-preserved : goal.loop-preserved
loop-preserved g c =
    let bytes = c.args.bytes.now in
    let at = c.loop.at in
    let old = g.W.Write.contents c.args.self.now.out in
    let now = g.W.Write.contents c.loop.self.out in
    let new = g.W.Write.contents c.write.new.self in
    let i = c.loop.invariant in
    elim c.match-write.branch [
      | in-Ok w ↦ record {
        within = subst (λ x. x ≤ length bytes) (sym w.at-is) (moved_within bytes at w.in-Ok.n i.within w.in-Ok.ensures.bound);
        written = subst (λ x. Appends old new (take x bytes)) (sym w.at-is) (appends_more old now new bytes at w.in-Ok.n i.written w.in-Ok.ensures.bytes);
      }
      | in-Err w ↦ record {
        within = subst (λ x. x ≤ length bytes) (sym w.at-is) i.within;
        written = subst (λ x. Appends old new (take x bytes)) (sym w.at-is) (appends_kept old now new (take at bytes) i.written w.in-Err.ensures.bytes);
      }
    ]
