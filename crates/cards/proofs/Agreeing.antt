-- Where a line tells a call, it agrees exactly if the answer to the call is shown as what is expected: the answer's text is the line of the
-- call's entries without its end, and no other call and no other text is told. Where it tells none, it does not agree.
use Rattle.std.proofs.Common.{◌≡◌, ◌↔◌, ℕ, List, ◌++◌, Bool, false, Result, Ok, Err, ap, sym, subst, ◌∙◌}
use Rattle.std.specs.Prelude.{IsTrue, IfOk}
use Rattle.std.proofs.lemmas.List.{append_cancel_right}
use Rattle.coefficients.specs.Calls.{Making, State}
use Rattle.calls.specs.Entries.{entries}
use Rattle.calls.specs.Lines.{newline, lines}
use Rattle.calls.specs.declared.call.Call.{Call}
use Rattle.cards.specs.Questions.{LineTells}
use Rattle.cards.specs.Checks.{Agrees}
use Rattle.cards.proofs.Telling.{one_told, one_expected}

-- ---- a line that tells a call
module _ (b : Making) (s : State) (line expected : List ℕ) (c : Call) (told : LineTells line c expected) (text : List ℕ) (shown : text ++ newline ≡ lines b.meaning (entries c b s)) where
  -- what the line expects is the text of the answer, if the line agrees
  expected_text : Agrees b s line → text ≡ expected
  expected_text h =
      let same : lines b.meaning (entries c b s) ≡ expected ++ newline =
      subst (λ x. lines b.meaning (entries x b s) ≡ expected ++ newline) (one_told line h.call c h.expected expected h.told told) (h.shown ∙ ap (λ t. t ++ newline) (one_expected line h.call c h.expected expected h.told told)) in
      append_cancel_right text expected newline (shown ∙ same)

  pub agreed : {E : Type 0} (r : Result Bool E) → IfOk r (λ agrees. IsTrue agrees ↔ (text ≡ expected)) → IfOk r (λ agrees. IsTrue agrees ↔ Agrees b s line)
  agreed (Ok agrees) compared = (λ yes. record { call = c; expected = expected; told = told; shown = sym shown ∙ ap (λ t. t ++ newline) (compared.0 yes) }, λ h. compared.1 (expected_text h))
  agreed (Err e) compared = tt

-- ---- a line that tells none
module _ (b : Making) (s : State) (line : List ℕ) (none : (c : Call) (expected : List ℕ) → ¬ (LineTells line c expected)) where
  pub untold : IsTrue false ↔ Agrees b s line
  untold = (λ h. cc, λ h. absurd (none h.call h.expected h.told))
