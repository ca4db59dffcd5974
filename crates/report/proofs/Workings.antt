-- A report call by what reading and working the next slip answers: the lines of what a slip's calls answered are those of its entries, and the
-- report and its bench stand where the reading has left them.
use Rattle.std.proofs.Common.{◌≡◌, ℕ, ◌≤◌, cond, subst, Ok, Err, List, [], ◌++◌, Option, None, Some, flat_map, sym, refl, ap, ◌∙◌}
use Rattle.std.proofs.lemmas.List.{append-nil}
use Rattle.integers.proofs.Tests.{leb_yes}
use Rattle.coefficients.specs.Calls.{Making, State}
use Rattle.coefficients.specs.Book.{state_after}
use Rattle.calls.specs.Cells.{Leaves}
use Rattle.calls.specs.Lines.{line, lines}
use Rattle.calls.specs.Told.{answers}
use Rattle.row.specs.declared.cell.Cell.{Cell}
use Rattle.sheet.specs.Layout.{Field, Task, Slip, Fault, Reading, ended, reads, faulty, reading}
use Rattle.sheet.specs.Faults.{told_fault}
use Rattle.sheet.specs.declared.fault.SheetFault.{SheetFault}
use Rattle.slips.specs.Book.{zero_entries, task_entries, entries_by, slip_entries}
use Rattle.slips.specs.Workings.{Working, working_by, working, Stand, no_more, worked, next_by, stand_by, entries_by_reading}
use Rattle.slips.specs.Workings.{stopped_at as stopped}
use Rattle.slips.proofs.Turns.{answers_append}
use Rattle.report.specs.Steps.{ReportState, no_room, wrote, stopped_at, ReportStep, step_by_reading, step_by_fault, report_step}
use Rattle.report.specs.Workings.{working_text}
use Rattle.report.specs.Calls.{Answers, Written}
use Rattle.report.specs.declared.refusal.Unreported.{Unreported}
use Rattle.report.specs.declared.refusal.Unreported.TheVariants.{Faulty}

told_by_parts : (zero : Option Field) (task : Option Task) (b : Making) (s : State) → (working_by zero task b s).zero ++ (working_by zero task b s).task ≡ answers b.meaning (entries_by zero task b s)
told_by_parts None None b s = refl
told_by_parts None (Some task) b s = refl
told_by_parts (Some zero) None b s = append-nil (answers b.meaning (zero_entries zero b s))
told_by_parts (Some zero) (Some task) b s = sym (answers_append b.meaning (zero_entries zero b s) (task_entries task b (state_after b s (zero_entries zero b s))))

slip_text : (p : Slip) (b : Making) (s : State) (w : Working) → w ≡ working p b s → working_text w ≡ lines b.meaning (slip_entries p b s)
slip_text p b s w e = ap working_text e ∙ ap (flat_map line) (told_by_parts p.zero p.task b s)

-- ---- the step by what is answered of the next slip. The line buffer has room, and no fault was met before.
module _ (b : Making) (sheet : List ℕ) (room : ℕ) (s : ReportState) (fits : 128 ≤ room) (unmet : s.fault ≡ None) where
  abbrev next : Reading
  next = reading b.meaning sheet s.byte s.slips

  -- where the reading stands before
  abbrev here : Stand
  here = record { byte = s.byte; slips = s.slips; state = s.state }

  abbrev step : ReportStep
  step = report_step b sheet room s

  step_is : step ≡ step_by_reading b s next
  step_is = ap (λ t. cond t (step_by_fault b sheet s s.fault) (record { answer = no_room; entries = []; then = s })) (leb_yes 128 room fits) ∙ ap (step_by_fault b sheet s) unmet

  by : (P : ReportStep → Type 0) → P (step_by_reading b s next) → P step
  by P h = subst P (sym step_is) h

  pub made_entries : {P : Type 0} (K : ℕ) (old new : List (Cell P)) → Leaves K (entries_by_reading b s.state next) old new → Leaves K step.entries old new
  made_entries K old new l = by (λ t. Leaves K t.entries old new) (go next l)
    where
      go : (r : Reading) → Leaves K (entries_by_reading b s.state r) old new → Leaves K (step_by_reading b s r).entries old new
      go ended l = l
      go (reads p end) l = l
      go (faulty f) l = l

  -- a slip was read and worked
  worked_answer : (w : Working) → worked w ≡ next_by b s.state next → step.answer ≡ wrote (working_text w)
  worked_answer w e = by (λ t. t.answer ≡ wrote (working_text w)) (go next e)
    where
      go : (r : Reading) → worked w ≡ next_by b s.state r → (step_by_reading b s r).answer ≡ wrote (working_text w)
      go ended e = absurd (cc e)
      go (reads p end) e = ap wrote (sym (slip_text p b s.state w (cc e)))
      go (faulty f) e = absurd (cc e)

  pub answers_worked : (w : Working) (text old new : List ℕ) (n : ℕ) → worked w ≡ next_by b s.state next → text ≡ working_text w → Written text n old new → Answers (Ok n) old new step.answer
  answers_worked w text old new n e is h = (text, worked_answer w e ∙ ap wrote (sym is), h)

  pub worked_then : (w : Working) (t : Stand) → worked w ≡ next_by b s.state next → t ≡ stand_by b here next → record { byte = t.byte; slips = t.slips; fault = None; state = t.state } ≡ step.then
  worked_then w t e h = by (λ x. record { byte = t.byte; slips = t.slips; fault = None; state = t.state } ≡ x.then) (go next e h)
    where
      go : (r : Reading) → worked w ≡ next_by b s.state r → t ≡ stand_by b here r → record { byte = t.byte; slips = t.slips; fault = None; state = t.state } ≡ (step_by_reading b s r).then
      go ended e h = absurd (cc e)
      go (reads p end) e h = ap (λ t. record { byte = t.byte; slips = t.slips; fault = None; state = t.state }) h
      go (faulty f) e h = absurd (cc e)

  -- the sheet's end
  pub none_next : no_more ≡ next_by b s.state next → next ≡ ended
  none_next e = go next e
    where
      go : (r : Reading) → no_more ≡ next_by b s.state r → r ≡ ended
      go ended e = refl
      go (reads p end) e = absurd (cc e)
      go (faulty f) e = absurd (cc e)

  pub none_answer : no_more ≡ next_by b s.state next → step.answer ≡ wrote []
  none_answer e = by (λ t. t.answer ≡ wrote []) (ap (λ r. (step_by_reading b s r).answer) (none_next e))

  pub none_then : (t : Stand) → no_more ≡ next_by b s.state next → t ≡ stand_by b here next → record { byte = t.byte; slips = t.slips; fault = s.fault; state = t.state } ≡ step.then
  none_then t e h = by (λ x. record { byte = t.byte; slips = t.slips; fault = s.fault; state = t.state } ≡ x.then)
      (ap (λ t. record { byte = t.byte; slips = t.slips; fault = s.fault; state = t.state }) (h ∙ ap (stand_by b here) (none_next e)) ∙ ap (λ r. (step_by_reading b s r).then) (sym (none_next e)))

  -- a fault
  fault_next : (f : Fault) → stopped f ≡ next_by b s.state next → next ≡ faulty f
  fault_next f e = go next e
    where
      go : (r : Reading) → stopped f ≡ next_by b s.state r → r ≡ faulty f
      go ended e = absurd (cc e)
      go (reads p end) e = absurd (cc e)
      go (faulty g) e = let same : f ≡ g = cc e in ap faulty (sym same)

  fault_answer : (f : Fault) → stopped f ≡ next_by b s.state next → step.answer ≡ stopped_at f
  fault_answer f e = by (λ t. t.answer ≡ stopped_at f) (ap (λ r. (step_by_reading b s r).answer) (fault_next f e))

  pub answers_fault : (f : SheetFault) (u : Unreported) (old : List ℕ) → stopped (told_fault f) ≡ next_by b s.state next → u ≡ Faulty f → Answers (Err u) old old step.answer
  answers_fault f u old e is = subst (λ u. Answers (Err u) old old step.answer) (sym is) (fault_answer (told_fault f) e, refl)

  pub fault_then : (f : Fault) (t : Stand) → stopped f ≡ next_by b s.state next → t ≡ stand_by b here next → record { byte = t.byte; slips = t.slips; fault = Some f; state = t.state } ≡ step.then
  fault_then f t e h = by (λ x. record { byte = t.byte; slips = t.slips; fault = Some f; state = t.state } ≡ x.then)
      (ap (λ t. record { byte = t.byte; slips = t.slips; fault = Some f; state = t.state }) (h ∙ ap (stand_by b here) (fault_next f e)) ∙ ap (λ r. (step_by_reading b s r).then) (sym (fault_next f e)))

pub ruleset stepped = (made_entries, answers_worked, worked_then, none_next, none_answer, none_then, answers_fault, fault_then)
