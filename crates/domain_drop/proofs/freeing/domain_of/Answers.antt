use Rattle.cat_items.specs.Ranges.{IsDomainOf}
use Rattle.domain_drop.proofs.FreedLemmas.{none_in_range}
use Rattle.domain_drop.proofs.freeing.domain_of.Goals as goal

pub returns-then-all-clause-none : goal.returns-then-all-clause-none
returns-then-all-clause-none c = none_in_range c.args.c.now.items _ _ (IsDomainOf c.args.object.now) c.domain_places-all.ensures c.if-all.true
