use Rattle.std.proofs.Common.{◌∙◌}
use Rattle.cat_items.proofs.OrderLemmas.{same_need}
use Rattle.body_needs.proofs.need_order.compare.Goals as goal

pub returns : goal.returns
returns c = c.cmp.ensures ∙ same_need c.args.a.now c.args.b.now
