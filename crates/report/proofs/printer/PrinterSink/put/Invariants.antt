-- Before each write the bytes before the place were written.
use Rattle.std.proofs.Common.{◌≤◌, length, take}
use Rattle.std.specs.Io.KnownBytes.{Appends}
use Rattle.report.proofs.printer.PrinterSink.put.Given as goal

abbrev pub invariant-loop : goal.invariant-loop
invariant-loop g l =
    record {
      within : l.at ≤ length l.bytes;
      written : Appends (g.W.Write.contents l.initial.self.out) (g.W.Write.contents l.self.out) (take l.at l.bytes);
    }
