use Rattle.std.proofs.Common.{rules}
use Rattle.std.specs.Ordering.{is_le, is_lt}
use Rattle.std.proofs.lemmas.Fn.{always_returns_same}
use Rattle.cat_items.specs.Order.{name_cmp}
use Rattle.reached_roles.proofs.EdgeLemmas.{before_parted, granted_between, up_to_parted}
use Rattle.reached_roles.proofs.edges.granted_to.Goals as goal

-- the closures compare with the name
pub returns : goal.returns
returns c =
    let edges = c.args.edges.now in
    let name = c.args.name.now in
    granted_between edges name _ _ c.partition_point-end.ensures.bound
    (c.partition_point-start.ensures.partitioned (λ e. is_lt (name_cmp e.grantee.now name)) (always_returns_same _ _ _ (λ a r g called. (search rules, search rules))) (before_parted edges name c.requires))
    (c.partition_point-end.ensures.partitioned (λ e. is_le (name_cmp e.grantee.now name)) (always_returns_same _ _ _ (λ a r g called. (search rules, search rules))) (up_to_parted edges name c.requires))
