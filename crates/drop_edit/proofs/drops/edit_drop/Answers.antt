use Rattle.std.proofs.Common.{sym, subst}
use Rattle.edit_rules.specs.First.{IsTested}
use Rattle.drop_edit.specs.Drops.{drop_refusals, IsDrop}
use Rattle.drop_edit.proofs.drops.edit_drop.Goals as goal

pub returns-in-DropObject-clause-tested : goal.returns-in-DropObject-clause-tested
returns-in-DropObject-clause-tested c = subst (λ s. IsTested (drop_refusals c.args.c.now.items c.args.who.now s) (IsDrop c.args.c.now.items c.args.who.now s) c.drop_object.result) (sym c.in-DropObject.is) c.drop_object.ensures.tested

pub returns-in-DropRole-clause-tested : goal.returns-in-DropRole-clause-tested
returns-in-DropRole-clause-tested c = subst (λ s. IsTested (drop_refusals c.args.c.now.items c.args.who.now s) (IsDrop c.args.c.now.items c.args.who.now s) c.drop_role.result) (sym c.in-DropRole.is) c.drop_role.ensures.tested
