-- Where the grants of roles stand.
use Rattle.std.specs.Prelude.{List}
use Rattle.std.specs.List.{Contains}
use Rattle.sql_names.specs.NameBytes.{NameBytes}
use Rattle.cat_items.specs.declared.item.Item.TheVariants.{RoleAuth, RoleAdmin}
use Rattle.cat_items.specs.declared.item.RoleGrant.{RoleGrant}
use Rattle.cat_items.specs.declared.ranges.Part.{Part}
use Rattle.chosen_parts.specs.Parts.{LiesIn}

-- each grant of one of these roles, and each admin option, is in one of these parts
abbrev pub HoldGrantsOf : List NameBytes → List Part → Type 0
HoldGrantsOf roles parts = (g : RoleGrant) → Contains roles g.role → LiesIn parts (RoleAuth g) × LiesIn parts (RoleAdmin g)
