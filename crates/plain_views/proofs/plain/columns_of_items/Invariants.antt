use Rattle.std.proofs.Common.{◌≡◌, drop, map}
use Rattle.cat_items.specs.Plain.{all_columns}
use Rattle.plain_views.specs.Alone as spec
use Rattle.plain_views.proofs.Columns.{after}
use Rattle.plain_views.proofs.plain.columns_of_items.Given as goal

abbrev pub invariant-loop-item : goal.invariant-loop-item
invariant-loop-item l = all_columns (map spec.select_item_base l.items) ≡ after l.out (all_columns (map spec.select_item_base (drop l.item-index l.items)))
