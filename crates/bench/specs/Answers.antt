-- The answers of the bench's calls as answers of the definitions.
use Rattle.std.specs.Prelude.{◌≡◌, ℕ, ◌+◌, Bool, true, false, ℤ, Ok, Err, Result}
use Rattle.std.proofs.Math.Option.{Option, none, some}
use Rattle.coefficients.specs.Calls.{Answer, added, cleared, asked, issued, marked, withdrawn, refused}
use Rattle.closing.specs.Closings.{told_verdict}
use Rattle.closing.specs.declared.verdict.Verdict.{Verdict}
use Rattle.bench.specs.declared.question.Question.{Question}
use Rattle.bench.specs.declared.question.GivenBack.{GivenBack}
use Rattle.bench.specs.Refusals.{refusal_number, refusal_details}
use Rattle.bench.specs.declared.refusal.Refusal.{Refusal}

abbrev pub told_refusal : Refusal → Answer
told_refusal r = refused (refusal_number r) (refusal_details r)

-- whether a row will do: the refusal, if there is one
abbrev pub told_row : Result (Unit {0}) Refusal → Option Answer
told_row (Ok u) = none
told_row (Err r) = some (told_refusal r)

abbrev pub told_added : Result ℕ Refusal → Answer
told_added (Ok i) = added i
told_added (Err r) = told_refusal r

abbrev pub told_cleared : Result (Unit {0}) Refusal → Answer
told_cleared (Ok u) = cleared
told_cleared (Err r) = told_refusal r

abbrev pub told_asked : {N : Type 0} → (N → ℤ) → Result (N × N) Refusal → Answer
told_asked value (Ok c) = asked (value c.0) (value c.1)
told_asked value (Err r) = told_refusal r

abbrev pub told_issued : Result Question Refusal → Answer
told_issued (Ok q) = issued q.bench q.order
told_issued (Err r) = told_refusal r

abbrev pub told_marked : Result Verdict GivenBack → Answer
told_marked (Ok v) = marked (told_verdict v)
told_marked (Err b) = told_refusal b.refusal

abbrev pub told_withdrawn : Result (Unit {0}) GivenBack → Answer
told_withdrawn (Ok u) = withdrawn
told_withdrawn (Err b) = told_refusal b.refusal

-- a refusal gives the question back
abbrev pub GivesBack : {X : Type 0} → Question → Result X GivenBack → Type 0
GivesBack q (Ok x) = Unit {0}
GivesBack q (Err b) = b.question ≡ q

-- the count of questions out: one more where one is issued, one less where one is spent, the same where the call is refused
abbrev pub OneMore : {X Y : Type 0} → Result X Y → ℕ → ℕ → Type 0
OneMore (Ok x) out out' = out' ≡ out + 1
OneMore (Err y) out out' = out' ≡ out

abbrev pub OneLess : {X Y : Type 0} → Result X Y → ℕ → ℕ → Type 0
OneLess (Ok x) out out' = out' + 1 ≡ out
OneLess (Err y) out out' = out' ≡ out

-- an issued question has the bench's number and the order asked for
abbrev pub IssuedFor : ℕ → ℕ → Result Question Refusal → Type 0
IssuedFor bench k (Ok q) = (q.bench ≡ bench) × (q.order ≡ k)
IssuedFor bench k (Err r) = Unit {0}

-- a withdrawal is refused exactly when the question is not out
abbrev pub WithdrawnIf : Bool → Result (Unit {0}) GivenBack → Type 0
WithdrawnIf out (Ok u) = out ≡ true
WithdrawnIf out (Err b) = out ≡ false
