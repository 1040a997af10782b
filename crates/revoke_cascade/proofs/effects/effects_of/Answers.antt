use Rattle.revoke_cascade.proofs.Effecting.{fallen_are, gained_are, lost_are}
use Rattle.revoke_cascade.proofs.effects.effects_of.Goals as goal

pub returns : goal.returns
returns c = λ new tells.
    let old = c.args.c.now.items in
    let edit = c.args.edit.now in
    let suspects = c.args.suspects.now.items in
    let found = c.args.found.now.items in
    let olds = rw (c.items.ensures.items, c.items-2.ensures.items) at c.in_ok-old.ensures in record {
      lost = lost_are old edit suspects found new tells c.in_ok-old.old.items c.in_ok-lost.lost.items olds (rw c.as_slice.ensures.value at c.in_ok-lost.ensures);
      gained = gained_are old edit suspects found new tells c.in_ok-old.old.items c.in_ok-gained.gained.items olds (rw c.as_slice-2.ensures.value at c.in_ok-gained.ensures);
      fallen = fallen_are old edit suspects found new tells c.in_ok-fallen.fallen.items (rw (c.as_slice-3.ensures, c.items-3.ensures.items) at c.in_ok-fallen.ensures);
    }
