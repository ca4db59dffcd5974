-- The entries that a call adds to the book of a bench. An examination of a claim adds two or three: a question is issued, the claim is
-- marked by it, and where the marking is refused the question is withdrawn.
use Rattle.std.specs.Prelude.{ℕ, cond, List, [], ◌∷◌}
use Rattle.coefficients.specs.Calls.{Making, State, Step, Call as Defined, step, add, clear, ask, issue, mark, withdraw}
use Rattle.coefficients.specs.Book.{Entry, accepted}
use Rattle.calls.specs.declared.call.Call.{Call}
use Rattle.calls.specs.declared.call.Call.TheVariants.{Add, Ask, Examine, Clear}

-- the entry of one call of the definitions
abbrev pub entry : Making → State → Defined → Entry
entry b s c = record { call = c; answer = (step b s c).answer }

abbrev pub alone : Defined → Making → State → List Entry
alone c b s = entry b s c ∷ []

-- ---- an examination of a claim on the order k
-- the withdrawal after a marking, given the marking's step
abbrev pub withdrawal : ℕ → Making → Step → List Entry
withdrawal k b marking = cond (accepted marking.answer) [] (alone (withdraw b.bench_number k) b marking.then)

abbrev pub settling : ℕ → List ℕ → List ℕ → Making → State → List Entry
settling k claim tolerance b s = entry b s (mark b.bench_number k claim tolerance) ∷ withdrawal k b (step b s (mark b.bench_number k claim tolerance))

-- what follows an issuing, given its step
abbrev pub settling_if_issued : ℕ → List ℕ → List ℕ → Making → Step → List Entry
settling_if_issued k claim tolerance b issuing = cond (accepted issuing.answer) (settling k claim tolerance b issuing.then) []

abbrev pub examination : ℕ → List ℕ → List ℕ → Making → State → List Entry
examination k claim tolerance b s = entry b s (issue k) ∷ settling_if_issued k claim tolerance b (step b s (issue k))

-- ---- each call
abbrev pub entries : Call → Making → State → List Entry
entries (Add zero) = alone (add zero.bytes)
entries (Ask order) = alone (ask order)
entries (Examine order claim tolerance) = examination order claim.bytes tolerance.bytes
entries Clear = alone clear
