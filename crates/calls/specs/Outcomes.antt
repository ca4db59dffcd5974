-- Whether a call is accepted, and why it is refused.
use Rattle.std.specs.Prelude.{Ok, Err, Result}
use Rattle.bench.specs.declared.refusal.Refusal.{Refusal}
use Rattle.calls.specs.declared.answer.Answer.{Answer}
use Rattle.calls.specs.declared.answer.Answer.TheVariants.{Added, Asked, Examined, Cleared, Refused}

abbrev pub outcome_of : Answer → Result (Unit {0}) Refusal
outcome_of (Added i) = Ok tt
outcome_of (Asked order value bound) = Ok tt
outcome_of (Examined order v) = Ok tt
outcome_of Cleared = Ok tt
outcome_of (Refused r) = Err r
