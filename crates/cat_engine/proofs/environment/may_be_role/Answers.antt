use Rattle.cat_engine.proofs.Answering.{reach_decides}
use Rattle.cat_engine.proofs.Decided.{so}
use Rattle.cat_engine.proofs.environment.may_be_role.Goals as goal

pub returns : goal.returns
returns c =
    reach_decides c.args.c.now.items c.args.who.now c.args.role.now c.in-Some.role c.in_ok-copy.field-0 c.in_ok-copy-2.field-0 c.reaches.result c.in-Some.is c.in_ok-copy.ensures c.in_ok-copy-2.ensures
    (so _ _ c.is_role.ensures c.if-not-is_role.false) c.reaches.ensures
