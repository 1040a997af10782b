use Rattle.std.proofs.Common.{◌∙◌, sym, subst}
use Rattle.std.specs.List.{Contains}
use Rattle.finite_chains.proofs.Members.{Contains-nil}
use Rattle.cat_items.specs.Catalogues.{IsInOrder}
use Rattle.table_additions.proofs.AddedItems.{put_in_order}
use Rattle.table_additions.proofs.added.in_order.Goals as goal

pub put_all-requires-clause-beside : goal.put_all-requires-clause-beside
put_all-requires-clause-beside c = λ x y h k e. absurd (Contains-nil x (subst (λ l. Contains l x) (c.of_sorted-sorted.ensures.items ∙ c.new.ensures.items) h))

pub returns : goal.returns
returns c =
    put_in_order c.args.items.now c.of_sorted-sorted.result.items c.put_all.new.added.items c.from_vec.result (c.of_sorted-sorted.ensures.items ∙ c.new.ensures.items) c.in_ok-put_all.ensures
    (c.from_vec.ensures ∙ c.into_items.ensures.items) (subst IsInOrder (sym c.from_vec.ensures) c.into_items.ensures.order)
