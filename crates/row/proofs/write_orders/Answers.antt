-- Each turn writes the next order; none is refused, since the trial met no refusal.
use Rattle.std.proofs.Common.{◌≡◌, ◌-◌, ◌<◌, suc, length, arith, rules}
use Rattle.row.proofs.Writing.{prior_is, not_stopped, next}
use Rattle.row.proofs.write_orders.Goals as goal

pub offset_bounds-rest-order : goal.offset_bounds-rest-order
offset_bounds-rest-order g c = let h : c.loop-order.order - 1 < length c.args.rest.now = omega arith in search rules

pub unwrap-requires : goal.unwrap-requires
unwrap-requires g c =
    let i = c.loop-order.invariant in
    let at : c.loop-order.order ≡ suc (c.loop-order.order - 1) = omega arith in
    not_stopped i.row i.arith.same (omega arith) c.requires.within at i.reads c.read-before.ensures.answer c.cell_of-in-loop-order.ensures _ c.update.ensures.answer c.requires.tried

pub loop-order-preserved : goal.loop-order-preserved
loop-order-preserved g c =
    let i = c.loop-order.invariant in
    let at : c.loop-order.order ≡ suc (c.loop-order.order - 1) = omega arith in
    record {
      row = next i.row i.arith.same (omega arith) c.requires.within at i.reads c.read-before.ensures.answer c.cell_of-in-loop-order.ensures _ c.update.ensures.answer _ c.unwrap.ensures (search rules);
      reads = prior_is i.row i.arith.same (omega arith) c.requires.within at i.reads c.read-before.ensures.answer c.cell_of-in-loop-order.ensures;
      numbers = search rules;
      arith = search rules;
    }
