-- The laws of rounding hold in every radix, with every number of digits and every scale.
use Rattle.rounding.proofs.Laws.{laws}
use Rattle.rounding.proofs.rounding_laws.Goals as goal

pub returns : goal.returns
returns c = laws
