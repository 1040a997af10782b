use Rattle.revoke_cascade.proofs.Effecting.{lost_in_turn}
use Rattle.revoke_cascade.proofs.effects.lost_of.Goals as goal

pub returns : goal.returns
returns c =
    lost_in_turn c.args.old.now c.in_ok-beside.beside.items c.in_ok-left.left.items c.in_ok-lost.lost.items c.args.found.now.items c.args.edit.now (rw c.as_slice.ensures at c.in_ok-beside.ensures)
    (rw (c.as_slice-2.ensures.value, c.as_slice-3.ensures) at c.in_ok-left.ensures) (rw (c.as_slice-4.ensures.value, c.items.ensures.items) at c.in_ok-lost.ensures)
