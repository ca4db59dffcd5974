-- A card whose first line is no heading is not noted.
use Rattle.cards.proofs.Headings.{uncounted_card}
use Rattle.cards.proofs.check_card.Goals as goal

pub returns-in_default : goal.returns-in_default
returns-in_default c = uncounted_card c.args.tallies.now c.args.card.now c.parted.result.0.now c.parted.ensures.before c.in_default.ensures
