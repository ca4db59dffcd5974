-- The rest of the buffer is lent, and comes back with as much of the text as fits.
use Rattle.std.proofs.Common.{refl}
use Rattle.report.proofs.Fitting.{fill_written, fill_rest}
use Rattle.report.proofs.filling.RegionSink.put.Goals as goal

pub returns : goal.returns
returns c =
    let bytes = c.args.self.now.bytes.now in
    let at = c.args.self.now.at in
    let e = c.copy_beginning.ensures in
    record {
      written = fill_written bytes c.args.bytes.now c.copy_beginning.new.to at c.copy_beginning.result c.args.self.now.within e.count e.copied;
      rest = fill_rest bytes c.args.bytes.now c.copy_beginning.new.to at c.copy_beginning.result c.args.self.now.within e.count e.copied;
      lender = refl;
    }
