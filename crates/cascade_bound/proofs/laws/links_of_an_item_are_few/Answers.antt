use Rattle.cascade_bound.proofs.Items.{links_few}
use Rattle.cascade_bound.proofs.laws.links_of_an_item_are_few.Goals as goal

pub returns : goal.returns
returns c = links_few
