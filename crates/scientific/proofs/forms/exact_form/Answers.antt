-- Where zeros are taken in, the product is the shape of n.
use Rattle.scientific.proofs.FormResults.{taken_full, taken_formed}
use Rattle.scientific.proofs.forms.exact_form.Goals as goal

pub not_above-requires-2 : goal.not_above-requires-2
not_above-requires-2 c =
    let d = c.digits-count in
    taken_full c.args.n d.result c.power-2.result c.args.zeros c.min-room.result c.ranges.n (rw c.unsigned_abs.ensures.value at d.ensures.under) (rw c.unsigned_abs.ensures.value at d.ensures.least) c.power-2.ensures c.min-room.ensures c.if-count-gt8.false c.if-n-eq0.false

pub returns : goal.returns
returns c =
    let d = c.digits-count in
    taken_formed c.args.n d.result c.power-2.result c.args.zeros c.min-room.result c.ranges.n (rw c.unsigned_abs.ensures.value at d.ensures.under) (rw c.unsigned_abs.ensures.value at d.ensures.least) c.power-2.ensures c.min-room.ensures c.if-count-gt8.false c.if-n-eq0.false c.not_above-2.result
    c.not_above-2.ensures
