use Rattle.card.proofs.Figured.{figures}
use Rattle.card.proofs.figures.worked_figures.Goals as goal

pub returns : goal.returns
returns c = figures
