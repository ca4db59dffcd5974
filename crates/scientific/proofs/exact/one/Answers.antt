-- One is a number by the rules.
use Rattle.scientific.proofs.TheRules.{rules, one_is}
use Rattle.scientific.proofs.exact.one.Goals as goal

pub returns-clause-number : goal.returns-clause-number
returns-clause-number c = λ p. rw (one_is p.digits) (rules p).one_is_number
