-- Edits that leave the users of a catalogue: no statement makes or destroys one.
use Rattle.std.specs.Prelude.{List}
use Rattle.std.specs.List.{Contains}
use Rattle.sql_names.specs.NameBytes.{NameBytes}
use Rattle.cat_items.specs.declared.edit.Edit.{Edit}
use Rattle.cat_items.specs.declared.item.Item.TheVariants.{User}

-- no user is destroyed, changed or added
abbrev pub LeavesUsers : Edit → Type 0
LeavesUsers edit = (name : NameBytes) → (¬ (Contains edit.target (User name))) × (¬ (Contains edit.changed (User name))) × (¬ (Contains edit.added (User name)))
