-- Slip after slip. With k + 1 readings left, either a slip is read, and its lines and what is left to tell with k readings make what was
-- to be told; or nothing more is to be told, at the sheet's end or at a fault.
use Rattle.std.proofs.Common.{◌≡◌, ℕ, suc, ◌+◌, true, false, List, [], ◌++◌, length, None, sym, refl, ap, subst, ◌∙◌, arith}
use Rattle.std.proofs.lemmas.List.{append_assoc, length-append}
use Rattle.coefficients.specs.Calls.{Making, State}
use Rattle.coefficients.specs.Book.{state_after}
use Rattle.calls.specs.Lines.{lines}
use Rattle.sheet.specs.Layout.{Reading, ended, reads, faulty, reading}
use Rattle.sheet.specs.Contents.{Contents, contents_from, contents}
use Rattle.sheet.specs.Contents.{by_reading as contents_by_reading}
use Rattle.slips.specs.Book.{slip_entries, book_of}
use Rattle.report.specs.Steps.{ReportState, ReportStep, lines_answered, is_slip, step_by_reading, ending_by}
use Rattle.slips.proofs.Turns.{lines_append}
use Rattle.report.specs.Puts.{TakesSome}
use Rattle.report.proofs.Putting.{some_of_first, some_after_first}

module _ (b : Making) (sheet : List ℕ) where
  -- what is left to be read, in at most k readings, and its text
  abbrev pub left : ℕ → ReportState → Contents
  left k s = contents_from k b.meaning sheet s.byte s.slips

  abbrev pub text_left : ℕ → ReportState → List ℕ
  text_left k s = lines b.meaning (book_of (left k s).slips b s.state)

  -- by the next reading: what it tells in at most k + 1 readings, and the report call
  module _ (k : ℕ) (s : ReportState) where
    abbrev read_on : Reading → Contents
    read_on r = contents_by_reading (contents_from k b.meaning sheet) s.slips r

    abbrev told_by : Reading → List ℕ
    told_by r = lines b.meaning (book_of (read_on r).slips b s.state)

    slip_told : (r : Reading) → is_slip r ≡ true → lines_answered (step_by_reading b s r).answer ++ text_left k (step_by_reading b s r).then ≡ told_by r
    slip_told ended h = absurd (cc h)
    slip_told (reads p end) h = sym (lines_append b.meaning (slip_entries p b s.state) (book_of (left k (step_by_reading b s (reads p end)).then).slips b (state_after b s.state (slip_entries p b s.state))))
    slip_told (faulty f) h = absurd (cc h)

    -- the lines of the next call are a beginning of what is told
    answered_first : (r : Reading) → (rest : List ℕ) × (lines_answered (step_by_reading b s r).answer ++ rest ≡ told_by r)
    answered_first ended = ([], refl)
    answered_first (reads p end) = (text_left k (step_by_reading b s (reads p end)).then, slip_told (reads p end) refl)
    answered_first (faulty f) = ([], refl)

    slip_ending : (r : Reading) → is_slip r ≡ true → (left k (step_by_reading b s r).then).ending ≡ (read_on r).ending
    slip_ending ended h = absurd (cc h)
    slip_ending (reads p end) h = refl
    slip_ending (faulty f) h = absurd (cc h)

    end_told : (r : Reading) → is_slip r ≡ false → lines_answered (step_by_reading b s r).answer ≡ told_by r
    end_told ended h = refl
    end_told (reads p end) h = absurd (cc h)
    end_told (faulty f) h = refl

    end_ending : (r : Reading) → s.fault ≡ None → is_slip r ≡ false → ending_by (step_by_reading b s r).then.slips (step_by_reading b s r).then.fault ≡ (read_on r).ending
    end_ending ended n h = ap (λ m. ending_by s.slips m) n
    end_ending (reads p end) n h = absurd (cc h)
    end_ending (faulty f) n h = refl

-- ---- the loop: what was put so far and what is left to tell make what was to be told at first
pub record Going {S : Type 0} (takes : S → S → List ℕ → Type 0) (b : Making) (sheet : List ℕ) (k : ℕ) (s : ReportState) (first : Contents) (state : State) (old now : S) (n : ℕ) : Type 0 where
  pub so_far : List ℕ
  pub written : takes old now so_far
  pub count : n ≡ length so_far
  pub told : so_far ++ text_left b sheet k s ≡ lines b.meaning (book_of first.slips b state)
  pub ending : (left b sheet k s).ending ≡ first.ending

module _ {S : Type 0} (takes : S → S → List ℕ → Type 0) (in_turn : (r s t : S) (xs ys : List ℕ) → takes r s xs → takes s t ys → takes r t (xs ++ ys)) where
  pub going_as : {b : Making} {sheet : List ℕ} {j k : ℕ} {s : ReportState} {first : Contents} {state : State} {old now : S} {n : ℕ} → j ≡ k →
      Going takes b sheet j s first state old now n → Going takes b sheet k s first state old now n
  going_as {b} {sheet} {j} {k} {s} {first} {state} {old} {now} {n} e i = subst (λ x. Going takes b sheet x s first state old now n) e i

  pub begins : (b : Making) (sheet : List ℕ) (s : ReportState) (old : S) → takes old old [] → s.byte ≡ 2 → s.slips ≡ 0 →
      Going takes b sheet (length sheet) s (contents b.meaning sheet) s.state old old 0
  begins b sheet s old nothing at none =
      record { so_far = []; written = nothing; count = refl; told = ap (λ c. lines b.meaning (book_of c.slips b s.state)) start; ending = ap (λ c. c.ending) start }
    where
      start : left b sheet (length sheet) s ≡ contents b.meaning sheet
      start = ap (λ x. contents_from (length sheet) b.meaning sheet x s.slips) at ∙ ap (λ x. contents_from (length sheet) b.meaning sheet 2 x) none

  module _ (b : Making) (sheet : List ℕ) (k : ℕ) (s s' : ReportState) (first : Contents) (state : State) (old now new : S) (n : ℕ) (i : Going takes b sheet (suc k) s first state old now n) where
    abbrev next : Reading
    next = reading b.meaning sheet s.byte s.slips

    abbrev turn : ReportStep
    turn = step_by_reading b s next

    abbrev answered : List ℕ
    answered = lines_answered turn.answer

    pub goes_on : is_slip next ≡ true → (m : ℕ) → takes now new answered → m ≡ length answered → s' ≡ turn.then → Going takes b sheet k s' first state old new (n + m)
    goes_on h m w l e = subst (λ x. Going takes b sheet k x first state old new (n + m)) (sym e) (
        record {
          so_far = i.so_far ++ answered;
          written = in_turn old now new i.so_far answered i.written w;
          count = ap (λ x. x + m) i.count ∙ ap (λ x. length i.so_far + x) l ∙ sym (length-append i.so_far answered);
          told = append_assoc i.so_far answered (text_left b sheet k turn.then) ∙ ap (λ x. i.so_far ++ x) (slip_told b sheet k s next h) ∙ i.told;
          ending = slip_ending b sheet k s next h ∙ i.ending;
        })

    -- where no slip was read all is told
    all_lines : is_slip next ≡ false → i.so_far ++ answered ≡ lines b.meaning (book_of first.slips b state)
    all_lines h = ap (λ x. i.so_far ++ x) (end_told b sheet k s next h) ∙ i.told

    pub all_told : is_slip next ≡ false → takes now new answered → takes old new (lines b.meaning (book_of first.slips b state))
    all_told h w = subst (λ x. takes old new x) (all_lines h) (in_turn old now new i.so_far answered i.written w)

    pub all_counted : is_slip next ≡ false → 0 ≡ length answered → n ≡ length (lines b.meaning (book_of first.slips b state))
    all_counted h l = let e = ap length (all_lines h) in let k = length-append i.so_far answered in omega (arith, i.count)

    pub ends : s.fault ≡ None → is_slip next ≡ false → s' ≡ turn.then → ending_by s'.slips s'.fault ≡ first.ending
    ends m h e = ap (λ x. ending_by x.slips x.fault) e ∙ end_ending b sheet k s next m h ∙ i.ending

    -- where the sink refuses
    pub refused : TakesSome takes now new answered → TakesSome takes old new (lines b.meaning (book_of first.slips b state))
    refused p =
        let rest = answered_first b sheet k s next in
        subst (λ t. TakesSome takes old new t) (ap (λ x. i.so_far ++ x) rest.1 ∙ i.told) (
        some_after_first takes in_turn old now new i.so_far (answered ++ rest.0) i.written (some_of_first takes now new answered rest.0 p))
