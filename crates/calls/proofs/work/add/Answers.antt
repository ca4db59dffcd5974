-- An accepted addition leaves the cells that its entry does not write: the lemma is named here, since the search alone meets a limit first.
use Rattle.std.proofs.Common.{rules}
use Rattle.calls.proofs.Leaving.{addition_goes_on}
use Rattle.calls.proofs.work.add.Goals as goal

pub returns-in-Ok-clause-goes_on : goal.returns-in-Ok-clause-goes_on
returns-in-Ok-clause-goes_on g c = search (addition_goes_on, rules)
