-- The law at a call that is answered as defined.
use Rattle.std.proofs.Common.{◌≡◌}
use Rattle.arithmetic.specs.Rules.{Rules}
use Rattle.coefficients.specs.Calls.{Making, State, Call, Answer, step}
use Rattle.coefficients.proofs.Books.{call_law}
use Rattle.bench.specs.Benches.{LawAt}

pub law_at : (b : Making) (s : State) (call : Call) (answer : Answer) → Rules b.meaning → answer ≡ (step b s call).answer → LawAt b s call answer
unfolding LawAt
law_at b s call answer R e = call_law b R s call answer e
