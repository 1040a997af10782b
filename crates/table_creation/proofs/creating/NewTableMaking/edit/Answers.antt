use Rattle.std.proofs.Common.{◌⊎◌, ◌↔◌, List, refl, subst, sym, ◌∙◌}
use Rattle.std.specs.List.{Contains}
use Rattle.finite_chains.proofs.Members.{Contains-nil}
use Rattle.cat_items.specs.declared.item.Item.{Item}
use Rattle.cat_items.specs.Catalogues.{IsInOrder}
use Rattle.table_creation.proofs.NewTables.{few, makes, once}
use Rattle.table_creation.proofs.creating.NewTableMaking.edit.Goals as goal

pub with_table-requires : goal.with_table-requires
with_table-requires c =
    let t = c.args.self.now in
    few c.args.c.now.items c.args.who.now t.table t.parts c.requires.passed c.args.made.items c.args.made.needs c.requires.made

pub put_all-requires-clause-one : goal.put_all-requires-clause-one
put_all-requires-clause-one c =
    let t = c.args.self.now in
    λ x y h k e.
    once c.args.c.now.items c.args.who.now t.table t.parts c.requires.passed c.args.made.items c.args.made.needs c.requires.made x y
    (subst (λ (l : List Item). Contains l x) c.in_ok-items.ensures h) (subst (λ (l : List Item). Contains l y) c.in_ok-items.ensures k) e

pub put_all-requires-clause-beside : goal.put_all-requires-clause-beside
put_all-requires-clause-beside c = λ x y h k e. absurd (Contains-nil x (subst (λ (l : List Item). Contains l x) (c.of_sorted-added.ensures.items ∙ c.new.ensures.items) h))

pub returns : goal.returns
returns c =
    let t = c.args.self.now in
    makes c.args.c.now.items c.args.who.now t.table t.parts c.requires.passed c.args.made.items c.args.made.needs c.requires.made c.of_sorted-added.result.items c.put_all.new.added.items c.from_vec.result
    (record { target = c.new-2.result; changed = c.new-3.result; added = c.from_vec.result }) (c.of_sorted-added.ensures.items ∙ c.new.ensures.items)
    (subst (λ (l : List Item). (x : Item) → Contains c.put_all.new.added.items x ↔ (Contains c.of_sorted-added.result.items x ⊎ Contains l x)) c.in_ok-items.ensures c.in_ok-put_all.ensures)
    (c.from_vec.ensures ∙ c.into_items.ensures.items) (subst IsInOrder (sym c.from_vec.ensures) c.into_items.ensures.order) c.new-2.ensures c.new-3.ensures refl
