-- Each call has one question fewer to issue.
use Rattle.refusals.proofs.+issued_33.Given as goal

abbrev pub decreases-issued_33 : goal.decreases-issued_33
decreases-issued_33 l = l.more
