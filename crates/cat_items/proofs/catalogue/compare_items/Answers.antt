use Rattle.std.proofs.Common.{◌∙◌}
use Rattle.cat_items.proofs.OrderLemmas.{same_order}
use Rattle.cat_items.proofs.catalogue.compare_items.Goals as goal

pub returns : goal.returns
returns c = c.cmp.ensures ∙ same_order c.args.a.now c.args.b.now
