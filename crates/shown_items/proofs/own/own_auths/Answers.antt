use Rattle.std.proofs.Common.{List, subst}
use Rattle.std.proofs.lemmas.List.{take_all}
use Rattle.sql_names.specs.NameBytes.{NameBytes}
use Rattle.shown_items.specs.Viewers.{session_of}
use Rattle.shown_items.proofs.Owned.{HasAuths, one_more_role, own_among}
use Rattle.shown_items.proofs.own.own_auths.Goals as goal

pub loop-name-preserved : goal.loop-name-preserved
loop-name-preserved c =
    let user = c.args.session.user.now in
    let roles = c.args.session.enabled.now in
    rw (c.in_ok-push-3.ensures.items, c.in_ok-copy-2.ensures) (one_more_role user roles c.loop-name.name-index c.name-item.result c.loop-name.auths.items c.loop-name-test.true c.name-item.is c.loop-name.invariant)

pub returns : goal.returns
returns c =
    own_among (session_of c.args.session) c.loop-name.auths.items
    (subst (λ (roles : List NameBytes). HasAuths c.args.session.user.now roles c.loop-name.auths.items) (take_all c.loop-name.name-index c.args.session.enabled.now c.loop-name-test.false) c.loop-name.invariant)
