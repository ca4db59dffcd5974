-- Five parts of the line are taken, one by one.
use Rattle.std.proofs.Common.{lit<}
use Rattle.std.proofs.lemmas.Iterator.Splits.{YieldsList-from_str_split}
use Rattle.comparison.proofs.Splitting.{five_parts}
use Rattle.comparison.proofs.first_words.Goals as goal

pub returns-clause-first : goal.returns-clause-first
returns-clause-first c =
    (five_parts _ (λ s t h. h.1) c.args.line.now (YieldsList-from_str_split 32 c.args.line.now (lit< tt) c.split-words.ensures.text c.split-words.ensures.has_more c.split-words.ensures.pattern)
    c.next-first.ensures.steps c.next-second.ensures.steps c.next-third.ensures.steps c.next-fourth.ensures.steps c.next-fifth.ensures.steps).0

pub returns-clause-second : goal.returns-clause-second
returns-clause-second c =
    (five_parts _ (λ s t h. h.1) c.args.line.now (YieldsList-from_str_split 32 c.args.line.now (lit< tt) c.split-words.ensures.text c.split-words.ensures.has_more c.split-words.ensures.pattern)
    c.next-first.ensures.steps c.next-second.ensures.steps c.next-third.ensures.steps c.next-fourth.ensures.steps c.next-fifth.ensures.steps).1

pub returns-clause-third : goal.returns-clause-third
returns-clause-third c =
    (five_parts _ (λ s t h. h.1) c.args.line.now (YieldsList-from_str_split 32 c.args.line.now (lit< tt) c.split-words.ensures.text c.split-words.ensures.has_more c.split-words.ensures.pattern)
    c.next-first.ensures.steps c.next-second.ensures.steps c.next-third.ensures.steps c.next-fourth.ensures.steps c.next-fifth.ensures.steps).2

pub returns-clause-fourth : goal.returns-clause-fourth
returns-clause-fourth c =
    (five_parts _ (λ s t h. h.1) c.args.line.now (YieldsList-from_str_split 32 c.args.line.now (lit< tt) c.split-words.ensures.text c.split-words.ensures.has_more c.split-words.ensures.pattern)
    c.next-first.ensures.steps c.next-second.ensures.steps c.next-third.ensures.steps c.next-fourth.ensures.steps c.next-fifth.ensures.steps).3

pub returns-clause-fifth : goal.returns-clause-fifth
returns-clause-fifth c =
    (five_parts _ (λ s t h. h.1) c.args.line.now (YieldsList-from_str_split 32 c.args.line.now (lit< tt) c.split-words.ensures.text c.split-words.ensures.has_more c.split-words.ensures.pattern)
    c.next-first.ensures.steps c.next-second.ensures.steps c.next-third.ensures.steps c.next-fourth.ensures.steps c.next-fifth.ensures.steps).4
