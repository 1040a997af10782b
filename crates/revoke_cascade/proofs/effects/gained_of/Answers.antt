use Rattle.revoke_cascade.proofs.Effecting.{gained_in_turn}
use Rattle.revoke_cascade.proofs.effects.gained_of.Goals as goal

pub returns : goal.returns
returns c =
    gained_in_turn c.args.suspects.now.items c.in_ok-new.new.items c.in_ok-standing.standing.items c.in_ok-gained.gained.items c.args.old.now c.args.found.now.items c.args.edit.now (rw c.items.ensures.items at c.in_ok-new.ensures)
    (rw (c.as_slice.ensures.value, c.items-2.ensures.items) at c.in_ok-standing.ensures) (rw (c.as_slice-2.ensures.value, c.as_slice-3.ensures) at c.in_ok-gained.ensures)
