-- A turn of the loop, seen from the bench that the loop began with: the arithmetic is set as it was, the bench was made so, and the
-- sheet is the same.
use Rattle.std.proofs.Common.{◌≡◌, ℕ, ◌+◌, ◌-◌, ◌<◌, suc, true, false, List, ◌++◌, length, take, drop, Option, None, Some, Err, Result, refl, sym, ap, subst, ◌∙◌, arith, ltb, le-ltb, lt-ltb}
use Rattle.std.proofs.Math.Seq.{take-append_seam}
use Rattle.arithmetic.specs.Setting.{Setting}
use Rattle.coefficients.specs.Calls.{Making, State}
use Rattle.bench.specs.Benches.{making_of}
use Rattle.bench.specs.declared.bench.Bench.{Bench}
use Rattle.calls.specs.Lines.{lines}
use Rattle.sheet.specs.Contents.{Contents}
use Rattle.sheet.specs.Layout.{Reading, ended, reads, faulty, reading}
use Rattle.sheet.specs.declared.fault.SheetFault.{SheetFault}
use Rattle.slips.specs.Book.{book_of}
use Rattle.report.specs.Steps.{ReportState, ReportAnswer, lines_answered, is_slip, step_by_reading, ending_by}
use Rattle.report.specs.Calls.{told_kept, report_state, next_reading, slip_step, Answers}
use Rattle.report.specs.declared.report.Report.{Report}
use Rattle.report.specs.declared.refusal.Unreported.{Unreported}
use Rattle.report.specs.declared.refusal.Unreported.TheVariants.{NoRoom, Faulty}
use Rattle.report.specs.Puts.{TakesSome, Puts}
use Rattle.report.proofs.Slips.{Going, going_as, goes_on, all_told, all_counted, ends, refused}

-- as many readings are left as turns were not taken
pub none_taken : (n : ℕ) → n ≡ n - 0
none_taken n = omega arith

one_left : (n i : ℕ) → i < n → n - i ≡ suc (n - (i + 1))
one_left n i h = omega arith

-- a bench that was made like another in one setting was so in an equal one
pub made_as : {A N P : Type 0} {g : _} (st st' : Setting P) → st' ≡ st → (bench bench' : Bench A N P g) → making_of st' bench' ≡ making_of st' bench → making_of st bench' ≡ making_of st bench
made_as st st' same bench bench' e = sym (ap (λ t. making_of t bench') same) ∙ e ∙ ap (λ t. making_of t bench) same

-- what is put of the buffer is the text that was written into it
pub written_text : {S X E : Type 0} (takes : S → S → List ℕ → Type 0) (old new : List ℕ) (n : ℕ) (text : List ℕ) (out out' : S) (r : Result X E) → n ≡ length text → new ≡ text ++ drop n old → Puts takes out out' (take n new) r → Puts takes out out' text r
written_text takes old new n text out out' r l e w =
    subst (λ x. Puts takes out out' x r) (ap (λ x. take n x) e ∙ ap (λ x. take x (text ++ drop n old)) l ∙ take-append_seam text (drop n old)) w

-- a refused report call has read no slip
pub refused_none : (b : Making) (s : ReportState) (r : Reading) (u : Unreported) (old new : List ℕ) (said : ReportAnswer) → Answers (Err u) old new said → said ≡ (step_by_reading b s r).answer → false ≡ is_slip r
refused_none b s ended u old new said a e = refl
refused_none b s (reads p end) (NoRoom u) old new said a e = absurd (cc (a.0, e))
refused_none b s (reads p end) (Faulty u) old new said a e = absurd (cc (a.0, e))
refused_none b s (faulty f) u old new said a e = refl

-- after a slip no fault is kept
unmet_after : (b : Making) (s : ReportState) (r : Reading) (fault : Option SheetFault) → true ≡ is_slip r → told_kept fault ≡ (step_by_reading b s r).then.fault → fault ≡ None
unmet_after b s ended fault h e = absurd (cc h)
unmet_after b s (reads p end) None h e = refl
unmet_after b s (reads p end) (Some f) h e = absurd (cc e)
unmet_after b s (faulty f) fault h e = absurd (cc h)

module _ {A N P : Type 0} {g : _} (st st' : Setting P) (b : Making) (sheet : List ℕ) (r : Report) (bench : Bench A N P g) (same : st' ≡ st) (made : making_of st bench ≡ b) (bytes : r.reader.bytes.now ≡ sheet) where
  abbrev before : ReportState
  before = report_state st r bench

  abbrev next : Reading
  next = reading b.meaning sheet before.byte before.slips

  reading_as : next_reading st' r ≡ next
  reading_as = ap (λ t. next_reading t r) same ∙ ap (λ c. reading c.meaning r.reader.bytes.now before.byte before.slips) made ∙ ap (λ x. reading b.meaning x before.byte before.slips) bytes

  step_as : slip_step st' r bench ≡ step_by_reading b before next
  step_as =
      ap (λ t. slip_step t r bench) same
      ∙ ap (λ c. step_by_reading c before (reading c.meaning r.reader.bytes.now before.byte before.slips)) made
      ∙ ap (λ x. step_by_reading b before (reading b.meaning x before.byte before.slips)) bytes

  -- where so many turns were taken, and one more is
  module _ {S : Type 0} (takes : S → S → List ℕ → Type 0) (in_turn : (r s t : S) (xs ys : List ℕ) → takes r s xs → takes s t ys → takes r t (xs ++ ys)) (turn : ℕ) (more : turn < length sheet) (first : Contents) (state : State) (old now new : S) (n : ℕ) (left : Going takes b sheet (length sheet - turn) before first state old now n) where
    abbrev k : ℕ
    k = length sheet - (turn + 1)

    i : Going takes b sheet (suc k) before first state old now n
    i = going_as takes in_turn (one_left (length sheet) turn more) left

    -- where the sink refuses
    pub turn_refused : TakesSome takes now new (lines_answered (slip_step st' r bench).answer) → TakesSome takes old new (lines b.meaning (book_of first.slips b state))
    turn_refused p = refused takes in_turn b sheet k before before first state old now new n i (subst (λ t. TakesSome takes now new (lines_answered t.answer)) step_as p)

    -- where the lines of the next slip were put, if there is one: none exactly where they have no byte
    module _ (m : ℕ) (w : takes now new (lines_answered (slip_step st' r bench).answer)) (l : m ≡ length (lines_answered (slip_step st' r bench).answer)) (slip : ltb 0 m ≡ is_slip (next_reading st' r)) where
      written : takes now new (lines_answered (step_by_reading b before next).answer)
      written = subst (λ t. takes now new (lines_answered t.answer)) step_as w

      counted : m ≡ length (lines_answered (step_by_reading b before next).answer)
      counted = l ∙ ap (λ t. length (lines_answered t.answer)) step_as

      no_slip : m ≡ 0 → is_slip next ≡ false
      no_slip z = sym (ap is_slip reading_as) ∙ sym slip ∙ le-ltb 0 m (omega (arith, z))

      a_slip : 0 < m → true ≡ is_slip next
      a_slip h = sym (lt-ltb 0 m h) ∙ slip ∙ ap is_slip reading_as

      pub turn_told : m ≡ 0 → takes old new (lines b.meaning (book_of first.slips b state))
      turn_told z = all_told takes in_turn b sheet k before before first state old now new n i (no_slip z) written

      pub turn_counted : m ≡ 0 → n ≡ length (lines b.meaning (book_of first.slips b state))
      turn_counted z = all_counted takes in_turn b sheet k before before first state old now new n i (no_slip z) (sym z ∙ counted)

      module _ (r' : Report) (bench' : Bench A N P g) (then : report_state st' r' bench' ≡ (slip_step st' r bench).then) where
        then_as : report_state st r' bench' ≡ (step_by_reading b before next).then
        then_as = sym (ap (λ t. report_state t r' bench') same) ∙ then ∙ ap (λ t. t.then) step_as

        pub turn_on : 0 < m → Going takes b sheet k (report_state st r' bench') first state old new (n + m)
        turn_on h = goes_on takes in_turn b sheet k before (report_state st r' bench') first state old now new n i (sym (a_slip h)) m written counted then_as

        pub turn_ends : r.fault ≡ None → m ≡ 0 → ending_by r'.reader.slips (told_kept r'.fault) ≡ first.ending
        turn_ends f z = ends takes in_turn b sheet k before (report_state st r' bench') first state old now new n i (ap told_kept f) (no_slip z) then_as

        pub turn_unmet : 0 < m → r'.fault ≡ None
        turn_unmet h = unmet_after b before next r'.fault (a_slip h) (ap (λ s. s.fault) then_as)
