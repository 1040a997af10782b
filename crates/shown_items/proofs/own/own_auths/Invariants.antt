use Rattle.std.proofs.Common.{take}
use Rattle.shown_items.proofs.Owned.{HasAuths}
use Rattle.shown_items.proofs.own.own_auths.Given as goal

-- PUBLIC, the user and the roles so far
abbrev pub invariant-loop-name : goal.invariant-loop-name
invariant-loop-name l = HasAuths l.session.user.now (take l.name-index l.session.enabled.now) l.auths.items
