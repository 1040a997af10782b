use Rattle.std.proofs.Common.{◌≡◌, ap, rules}
use Rattle.std.specs.Ordering.{is_lt}
use Rattle.std.specs.Cmp.Lexicographic.{nat_list_cmp_total}
use Rattle.std.proofs.lemmas.Fn.{always_returns_same}
use Rattle.std.proofs.lemmas.List.Sorted.{ranks_by}
use Rattle.cat_items.specs.Order.{name_cmp}
use Rattle.reached_roles.specs.declared.edges.Edge.{Edge}
use Rattle.reached_roles.proofs.EdgeLemmas.{edges_moved}
use Rattle.reached_roles.proofs.edges.listed.Goals as goal

pub returns : goal.returns
returns c = record {
  edges_are = edges_moved c.args.c.now.items _ _ c.sort_unstable_by.ensures.permutation c.in_ok-edges.ensures;
  order = c.sort_unstable_by.ensures.sorted (λ a b. is_lt (name_cmp a.grantee.now b.grantee.now)) (ranks_by nat_list_cmp_total (λ (e : Edge). e.grantee.now))
      (always_returns_same _ _ _ (λ a r g called. let same : r ≡ name_cmp a.0.now.grantee.now a.1.0.now.grantee.now = search rules in (ap is_lt same, search rules)));
}
