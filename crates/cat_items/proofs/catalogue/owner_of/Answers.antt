use Rattle.std.proofs.Common.{rules}
use Rattle.std.proofs.lemmas.Fn.{always_returns_same}
use Rattle.cat_items.specs.Order.{item_cmp}
use Rattle.cat_items.specs.Catalogues.{schema_key}
use Rattle.cat_items.proofs.CatalogueLemmas.{none_at}
use Rattle.cat_items.proofs.KeyLemmas.{owner_at, owner_found, is_schema}
use Rattle.cat_items.proofs.catalogue.owner_of.Goals as goal

pub returns-in-Schema-clause-found : goal.returns-in-Schema-clause-found
returns-in-Schema-clause-found c =
    let equal = c.in-Ok.ensures.position (λ y. item_cmp y (schema_key c.args.schema.now)) (always_returns_same _ _ _ (λ a r g called. (search rules, search rules))) in
    rw (← c.items-items.ensures.items, c.get.ensures) (owner_found _ _ _ _ _ c.in-Ok.ensures.bound equal c.index-items-at.is c.in-Schema.is)

pub returns-in_default : goal.returns-in_default
returns-in_default c =
    let equal = c.in-Ok.ensures.position (λ y. item_cmp y (schema_key c.args.schema.now)) (always_returns_same _ _ _ (λ a r g called. (search rules, search rules))) in
    absurd (is_schema c.items-items.result.now c.args.schema.now c.in-Ok.at c.index-items-at.result equal c.index-items-at.is c.in_default.not-Schema)

pub returns-in-Err : goal.returns-in-Err
returns-in-Err c =
    let parted = c.in-Err.ensures.position (λ y. item_cmp y (schema_key c.args.schema.now)) (always_returns_same _ _ _ (λ a r g called. (search rules, search rules))) in
    record {
      found = tt;
      none = rw (← c.items-items.ensures.items) (λ owner owns. let found = owner_at _ _ owner owns in none_at _ (schema_key c.args.schema.now) _ (rw c.items-items.ensures.items c.items-items.ensures.order) parted found.0 found.1);
    }
