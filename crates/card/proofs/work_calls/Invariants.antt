-- The limits of the arithmetic are lawful after each call.
use Rattle.card.proofs.work_calls.Given as goal

abbrev pub invariant-loop-call : goal.invariant-loop-call
invariant-loop-call g l = g.A.Arithmetic.lawful l.arith
