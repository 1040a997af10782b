use Rattle.std.proofs.Common.{subst, sym}
use Rattle.std.specs.Option.{option_copied}
use Rattle.std.proofs.lemmas.Result.{on_ok_weaker}
use Rattle.topic_keys.proofs.Adding.{adds_alike}
use Rattle.topic_lists.specs.Granted.{HasGranted, IsAskedOf}
use Rattle.topic_lists.specs.RightNames.{HasNamed}
use Rattle.topic_lists.specs.Sought.{IsAskedFor}
use Rattle.topic_lists.proofs.GrantLaws.{asked_of, has_granted}
use Rattle.topic_lists.proofs.NameLaws.{has_named}
use Rattle.topic_lists.proofs.lists.put_asked.Goals as goal

pub put_granted-requires-clause-named : goal.put_granted-requires-clause-named
put_granted-requires-clause-named c =
    subst (λ other. HasNamed other c.args.keys.now.items) (sym c.right_before.ensures) (has_named c.args.c.now.items c.args.keys.now.items (option_copied c.args.before) c.requires.asked)

pub put_granted-requires-clause-granted : goal.put_granted-requires-clause-granted
put_granted-requires-clause-granted c =
    rw c.requires.roles (subst (λ other. HasGranted c.args.c.now.items other c.args.keys.now.items) (sym c.right_before.ensures) (has_granted c.args.c.now.items c.args.keys.now.items (option_copied c.args.before) c.requires.asked))

pub returns-in-Named : goal.returns-in-Named
returns-in-Named c =
    let l = c.args.roles.now in
    let x = c.args.x.now in
    let r = c.in-Some.right.now in
    let by = c.in-Named.by in
    rw (← c.requires.roles)
    (on_ok_weaker c.put_granted.result
    (adds_alike (IsAskedOf l r by) (IsAskedFor l x) c.args.keys.now.items c.put_granted.new.keys.items (asked_of l r by c.in-Named.is x (sym c.in-Some.ensures)))
    c.put_granted.ensures)
