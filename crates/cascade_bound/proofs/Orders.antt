-- Lists in order have nothing twice.
use Rattle.std.proofs.Common.{◌≡◌, List, get_or, sym, ◌∙◌, subst}
use Rattle.std.specs.declared.cmp.Ordering.TheVariants.{Less, Equal}
use Rattle.cat_items.specs.declared.item.Item.{Item}
use Rattle.cat_items.specs.Catalogues.{IsInOrder}
use Rattle.cat_items.specs.Order.{item_cmp}
use Rattle.cat_items.proofs.KeyLemmas.{same_key}
use Rattle.look_up_bound.proofs.Counting.{IsOnce, once}

pub order_once : (xs : List Item) → IsInOrder xs → IsOnce xs
order_once xs order = once xs (λ i j d low high e. let odd : Less ≡ Equal = sym (order i j d low high) ∙ subst (λ y. item_cmp (get_or xs i d) y ≡ Equal) e (same_key (get_or xs i d)) in absurd (cc odd))
