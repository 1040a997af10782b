use Rattle.std.proofs.Common.{◌∙◌}
use Rattle.cat_items.specs.declared.item.Item.TheVariants as item
use Rattle.domain_drop.specs.Lists.{IsFreedOf}
use Rattle.domain_drop.proofs.FreedLemmas.{freed_is, freed_is_new, none_put, not_based, not_standing, on_ok, put_as}
use Rattle.domain_drop.proofs.freeing.put_freed.Goals as goal

pub returns-in_default : goal.returns-in_default
returns-in_default c = none_put c.args.added.now.items (IsFreedOf c.args.c.now.items c.args.column.now) (not_based c.args.c.now.items c.args.column.now c.in_default.is)

pub returns-in_default-domain_of : goal.returns-in_default-domain_of
returns-in_default-domain_of c =
    none_put c.args.added.now.items (IsFreedOf c.args.c.now.items c.args.column.now) (not_standing c.args.c.now.items c.args.column.now c.in-Some.object c.in-Some.is c.in_default-domain_of.ensures.none)

pub put-requires : goal.put-requires
put-requires c = freed_is_new c.args.added.now.items c.args.column.now c.in_ok-new.field-0 c.in-Some-domain_of.domain.now (c.in_ok-new.ensures ∙ c.in_ok-freed.ensures) c.requires

pub returns : goal.returns
returns c =
    on_ok c.put.result _ _
    (put_as c.args.added.now.items c.put.new.items.items (item.Column c.in_ok-new.field-0) (IsFreedOf c.args.c.now.items c.args.column.now)
    (freed_is c.args.c.now.items c.items.ensures.order c.args.column.now c.in-Some.object c.in-Some-domain_of.domain.now c.in_ok-new.field-0 c.in-Some.is c.in-Some-domain_of.ensures.found.0 c.in-Some-domain_of.ensures.found.1
    (c.in_ok-new.ensures ∙ c.in_ok-freed.ensures)))
    c.put.ensures.members
