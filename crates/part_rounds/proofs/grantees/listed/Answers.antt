use Rattle.std.proofs.Common.{◌≡◌, ap, rules}
use Rattle.std.specs.Ordering.{is_lt}
use Rattle.std.proofs.lemmas.Fn.{always_returns_same}
use Rattle.std.proofs.lemmas.List.Sorted.{ranks_by}
use Rattle.cat_items.proofs.OrderLemmas.{item_cmp-total}
use Rattle.part_rounds.specs.declared.grantees.GrantOption.{GrantOption}
use Rattle.part_rounds.specs.Grantees.{title_cmp, titled}
use Rattle.part_rounds.proofs.GrantedLaws.{options_moved}
use Rattle.part_rounds.proofs.grantees.listed.Goals as goal

pub returns : goal.returns
returns c = record {
  options_are = options_moved c.args.c.now.items _ _ c.sort_unstable_by.ensures.permutation c.in_ok-options.ensures;
  order = c.sort_unstable_by.ensures.sorted (λ a b. is_lt (title_cmp a.title b.title)) (ranks_by item_cmp-total (λ (o : GrantOption). titled o.title))
      (always_returns_same _ _ _ (λ a r g called. let same : r ≡ title_cmp a.0.now.title a.1.0.now.title = search rules in (ap is_lt same, search rules)));
}
