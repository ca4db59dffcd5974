-- What is answered where a slip was read and worked, and at a fault: the line buffer has room and no fault was met before.
use Rattle.std.proofs.Common.{rules, ◌≡◌, ◌≤◌, length, None}
use Rattle.bench.specs.Benches.{making_of}
use Rattle.slips.specs.Workings.{told_worked}
use Rattle.report.specs.Calls.{report_state}
use Rattle.report.proofs.Workings.{answers_worked, answers_fault}
use Rattle.report.proofs.report.Report.next_slip.Goals as goal

pub returns-in-Ok-Some-clause-answer : goal.returns-in-Ok-Some-clause-answer
returns-in-Ok-Some-clause-answer g c =
    let st = g.A.Arithmetic.setting c.args.arith.now in
    let s = report_state st c.args.self.now c.args.bench.now in
    let fits : 128 ≤ length c.args.buffer.now = search rules in
    let unmet : s.fault ≡ None = search rules in
    answers_worked (making_of st c.args.bench.now) c.args.self.now.reader.bytes.now (length c.args.buffer.now) s fits unmet (told_worked c.in-Ok-Some.worked) c.as_str.result.now c.args.buffer.now c.write.new.buffer c.write.result
    (search rules) (search rules) (search rules)

pub returns-in-Err-clause-answer : goal.returns-in-Err-clause-answer
returns-in-Err-clause-answer g c =
    let st = g.A.Arithmetic.setting c.args.arith.now in
    let s = report_state st c.args.self.now c.args.bench.now in
    let fits : 128 ≤ length c.args.buffer.now = search rules in
    let unmet : s.fault ≡ None = search rules in
    answers_fault (making_of st c.args.bench.now) c.args.self.now.reader.bytes.now (length c.args.buffer.now) s fits unmet c.in-Err.fault c.into-in-Err.result c.args.buffer.now
    (search rules) (search rules)
