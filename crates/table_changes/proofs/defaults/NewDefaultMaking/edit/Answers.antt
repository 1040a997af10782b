use Rattle.std.proofs.Common.{◌∷◌, [], ap, ◌∙◌}
use Rattle.cat_items.specs.declared.item.Column.{Column}
use Rattle.cat_items.specs.declared.item.Item.TheVariants as item
use Rattle.table_changes.proofs.SoundDefaults.{made_default}
use Rattle.table_changes.proofs.defaults.NewDefaultMaking.edit.Goals as goal

pub returns : goal.returns
returns c =
    let d = c.args.self.now in
    made_default c.args._c.now.items c.requires.good d.table d.column.now c.args.made.column c.requires.made.0 d.default c.in_ok-new.new (record { target = c.in_ok-only.field-0; changed = c.new-2.result; added = c.in_ok-only-2.field-0 })
    c.in_ok-new.ensures (c.in_ok-only.ensures ∙ ap (λ (z : Column). item.Column z ∷ []) c.in_ok-new-2.ensures) c.new-2.ensures (c.in_ok-only-2.ensures ∙ ap (λ (z : Column). item.Column z ∷ []) c.in_ok-new-3.ensures)
