-- What was read is cut after the first byte too many, if it is cut, and has the report of the whole.
use Rattle.report.proofs.Cut.{bytes_read, report_of_read}
use Rattle.coefreport.proofs.read_sheet.Goals as goal

pub returns-clause-bytes : goal.returns-clause-bytes
returns-clause-bytes g c =
    bytes_read g.R.Read.remaining c.args.input c.take.result _ _
    c.take.ensures.inner c.take.ensures.limit c.new-sheet.ensures.items c.in_ok-read_to_end.ensures.bytes

pub returns-clause-reported : goal.returns-clause-reported
returns-clause-reported g c =
    report_of_read g.R.Read.remaining c.args.input c.take.result _ _
    c.take.ensures.inner c.take.ensures.limit c.new-sheet.ensures.items c.in_ok-read_to_end.ensures.bytes
