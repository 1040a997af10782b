-- Views keep their columns.
use Rattle.std.specs.Prelude.{List}
use Rattle.std.specs.List.{Contains}
use Rattle.cat_items.specs.declared.edit.Edit.{Edit}
use Rattle.cat_items.specs.declared.item.Item.{Item}
use Rattle.cat_items.specs.declared.item.Item.TheVariants as item
use Rattle.cat_items.specs.declared.item.View.{View}
use Rattle.cat_items.specs.Shape.{IsColumnOf}
use Rattle.edit_laws.specs.Kinds.{IsKept}

-- no column of a view that is kept is destroyed or changed
abbrev pub KeepsViewColumns : List Item → Edit → Type 0
KeepsViewColumns c edit = (v : View) (x : Item) → IsKept c edit (item.View v) → Contains c x → IsColumnOf v.view x → (¬ (Contains edit.target x)) × (¬ (Contains edit.changed x))
