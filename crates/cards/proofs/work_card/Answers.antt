-- The loop goes over the lines of the text; a comment is passed over, every other line is checked and counted.
use Rattle.std.proofs.Common.{◌≡◌, ◌+◌, length, ⊎_elim, refl, ap, ◌∙◌, arith}
use Rattle.std.specs.Str.Iter.{lines_rest, lines_steps}
use Rattle.std.specs.Str.Lines.{lines}
use Rattle.std.proofs.lemmas.Iterator.Splits.{YieldsList-from_lines}
use Rattle.coefficients.specs.Calls.{new_bench}
use Rattle.bench.specs.Benches.{making_of, state_of}
use Rattle.comparison.specs.Scores.{no_answers}
use Rattle.cards.specs.Cards.{card_making}
use Rattle.cards.proofs.Scoring.{remain_all, remain_none, remain_past_told, remain_past_checked, stays_on, keeps_making, made_for_card, new_for_card}
use Rattle.cards.proofs.work_card.Goals as goal

pub loop-line-init : goal.loop-line-init
loop-line-init g c =
    let st = g.A.Arithmetic.setting c.args.arith.now in
    let long : length c.deref_mut.result.now ≡ c.args.k + 1 = omega (arith, c.in_ok-row.ensures.len) in
    let made : making_of (g.A.Arithmetic.setting c.args.arith.now) c.make-bench.result ≡ card_making (g.A.Arithmetic.setting c.args.arith.now).meaning c.args.k = made_for_card st.meaning (making_of st c.make-bench.result) _ _ c.make-bench.ensures.made long in
    record {
      arith = record { same = refl; law = c.requires.law };
      making = made;
      remains = remain_all lines_steps (card_making st.meaning c.args.k) (new_bench (card_making st.meaning c.args.k)) no_answers (lines c.args.text.now) c.into_iter-line-iterator.result (state_of st c.make-bench.result) c.new-score.result
          (YieldsList-from_lines c.args.text.now (ap lines_rest c.into_iter-line-iterator.ensures.into_iter_gives ∙ c.lines-line-items.ensures.rest))
          (new_for_card (making_of st c.make-bench.result) (card_making st.meaning c.args.k) (state_of st c.make-bench.result) c.make-bench.ensures.state made) c.new-score.ensures;
    }

pub loop-line-preserved-then-not-is_comment : goal.loop-line-preserved-then-not-is_comment
loop-line-preserved-then-not-is_comment g c =
    let st = g.A.Arithmetic.setting c.args.arith.now in
    let here = g.A.Arithmetic.setting c.loop-line.arith in
    record {
      arith = stays_on g.A.Arithmetic.setting g.A.Arithmetic.lawful c.args.arith.now c.loop-line.arith c.check.new.arith c.loop-line.invariant.arith c.in_ok-check.ensures.arith;
      making = keeps_making st here c.loop-line.bench c.check.new.bench (card_making st.meaning c.args.k) c.loop-line.invariant.arith.same c.in_ok-check.ensures.keeps c.loop-line.invariant.making;
      remains = remain_past_checked lines_steps (card_making st.meaning c.args.k) (new_bench (card_making st.meaning c.args.k)) no_answers (lines c.args.text.now) st here c.loop-line.invariant.arith.same
          c.loop-line.bench c.check.new.bench c.loop-line.line-iterator c.next.new.self c.loop-line.score c.note-then-not-is_comment.new.self c.in-Some.line c.in_ok-check.field-0
          c.loop-line.invariant.remains c.loop-line.invariant.making c.in-Some.ensures.steps c.is_comment.result c.is_comment.ensures c.if-not-is_comment.true
          c.in_ok-check.ensures.agrees c.in_ok-check.ensures.leads c.note-then-not-is_comment.ensures;
    }

pub loop-line-preserved : goal.loop-line-preserved
loop-line-preserved g c =
    let st = g.A.Arithmetic.setting c.args.arith.now in
    record {
      arith = c.loop-line.invariant.arith;
      making = c.loop-line.invariant.making;
      remains = remain_past_told lines_steps (card_making st.meaning c.args.k) (new_bench (card_making st.meaning c.args.k)) no_answers (lines c.args.text.now) c.loop-line.line-iterator c.next.new.self (state_of st c.loop-line.bench) c.loop-line.score
          c.loop-line.invariant.remains c.in-Some.line c.in-Some.ensures.steps c.is_comment.result c.is_comment.ensures c.if-not-is_comment.false;
    }

pub returns : goal.returns
returns g c =
    let st = g.A.Arithmetic.setting c.args.arith.now in (
      λ low high. remain_none lines_steps (card_making st.meaning c.args.k) (new_bench (card_making st.meaning c.args.k)) no_answers (lines c.args.text.now) c.loop-line.line-iterator c.next.new.self (state_of st c.loop-line.bench) c.loop-line.score
          c.loop-line.invariant.remains c.in-None.ensures.steps,
      λ out. ⊎_elim (λ e. absurd (omega arith)) (λ e. absurd (omega arith)) out,
    )
