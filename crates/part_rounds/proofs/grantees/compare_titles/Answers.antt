use Rattle.std.proofs.Common.{ap}
use Rattle.std.specs.Ordering.{ordering_then}
use Rattle.cat_items.specs.Order.{auth_cmp}
use Rattle.cat_items.proofs.OrderLemmas.{same_need}
use Rattle.role_graph.specs.Actors.{auth_of}
use Rattle.part_rounds.proofs.grantees.compare_titles.Goals as goal

pub returns-in-Right-Right : goal.returns-in-Right-Right
returns-in-Right-Right c =
    rw (c.in-Right-Right.is-0, c.in-Right-Right.is-1, c.then-in-Right-Right.ensures, c.cmp-in-Right-Right.ensures, c.compare_grantees.ensures)
    (ap (λ o. ordering_then o (auth_cmp (auth_of c.in-Right-Right.to) (auth_of c.in-Right-Right.other_to))) (same_need c.in-Right-Right.need.now c.in-Right-Right.other.now))
