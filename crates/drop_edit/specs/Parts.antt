-- Where what goes with an object stands.
use Rattle.std.specs.Prelude.{List}
use Rattle.sql_names.specs.declared.object.Object.{Object}
use Rattle.sql_tree.specs.declared.statement.DropKind.{DropKind}
use Rattle.cat_items.specs.declared.item.Item.{Item}
use Rattle.cat_items.specs.declared.ranges.Part.{Part}
use Rattle.cat_items.specs.Shape.{HasAllowedName}
use Rattle.chosen_parts.specs.Parts.{LiesIn}
use Rattle.drop_edit.specs.DroppedObjects.{GoesWith}

-- of what goes with an object of this kind, each item with an allowed name is in one of these parts
abbrev pub HoldAllOf : DropKind → Object → List Part → Type 0
HoldAllOf k o parts = (x : Item) → HasAllowedName x → GoesWith k o x → LiesIn parts x
