-- Before each turn: what was put and what is left make the lines of the whole sheet, with one reading less left than turns were taken; and
-- what was put has at most 128 bytes for each turn.
use Rattle.std.proofs.Common.{◌≡◌, ◌-◌, ◌*◌, ◌≤◌, None, length}
use Rattle.arithmetic.specs.Setting.{Stays}
use Rattle.bench.specs.Benches.{making_of, state_of}
use Rattle.sheet.specs.Contents.{contents}
use Rattle.report.specs.Calls.{report_state}
use Rattle.report.proofs.Slips.{Going}
use Rattle.report.proofs.whole.write_slips.Given as goal

abbrev pub invariant-loop-turn : goal.invariant-loop-turn
invariant-loop-turn g l =
    let st = g.A.Arithmetic.setting l.initial.arith in
    let sheet = l.sheet.bytes.now in
    record {
      going : Going g.S.Sink.takes (making_of st l.initial.bench) sheet (length sheet - l.turn) (report_state st l.report l.bench) (contents st.meaning sheet) (state_of st l.initial.bench) l.initial.out l.out l.all;
      few : l.all ≤ 128 * l.turn;
      unmet : l.report.fault ≡ None;
      making : making_of st l.bench ≡ making_of st l.initial.bench;
      bytes : l.report.reader.bytes.now ≡ sheet;
      room : length l.buffer ≡ 128;
      arith : Stays g.A.Arithmetic.setting g.A.Arithmetic.lawful l.initial.arith l.arith;
    }
