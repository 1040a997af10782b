use Rattle.finite_chains.proofs.StrictOrders.{rising_same}
use Rattle.finite_chains.proofs.laws.members_settle_a_list_in_order.Goals as goal

pub returns : goal.returns
returns g c = λ xs ys first second same. rising_same g.T.Ord.cmp g.met.T.Ord.total xs ys first second same
