-- No entry is above 19.
use Rattle.scientific.proofs.TableRules.{least_few}
use Rattle.scientific.proofs.tables.least_digits.Goals as goal

pub returns-clause-few : goal.returns-clause-few
returns-clause-few c = least_few c.args.bits c.requires
