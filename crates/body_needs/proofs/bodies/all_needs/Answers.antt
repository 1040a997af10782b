use Rattle.std.proofs.Common.{subst}
use Rattle.cat_items.specs.Needs.{body_needs}
use Rattle.tree_needs.specs.Ordered.{Gains}
use Rattle.body_needs.proofs.Gained.{gains_from_none}
use Rattle.body_needs.proofs.bodies.all_needs.Goals as goal

pub returns : goal.returns
returns c = gains_from_none c.put_body.new.needs (body_needs c.args.body.now) (subst (λ l. Gains l c.put_body.new.needs (body_needs c.args.body.now)) c.new-needs.ensures c.in_ok-put_body.ensures)
