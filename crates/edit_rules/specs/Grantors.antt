-- Who grants and revokes: the current user, or the current role where GRANTED BY says so (SQL:2003 part 2, 12.1 and 12.7).
use Rattle.std.specs.Prelude.{◌≡◌, true, List, Option, Some}
use Rattle.sql_names.specs.NameBytes.{NameBytes}
use Rattle.sql_tree.specs.declared.rights.Grantor.{Grantor}
use Rattle.sql_tree.specs.declared.rights.Grantor.TheVariants.{CurrentRole}
use Rattle.cat_items.specs.declared.edit.Refusal.{Refusal}
use Rattle.cat_items.specs.declared.edit.Refusal.TheVariants.{InvalidRole}
use Rattle.cat_items.specs.declared.edit.Who.{Who}
use Rattle.cat_items.specs.declared.item.Item.{Item}
use Rattle.edit_rules.specs.Owners.{IsCurrentRole}

abbrev pub IsGrantor : List Item → Who → Option Grantor → NameBytes → Type 0
IsGrantor c who (Some CurrentRole) name = IsCurrentRole c who name
IsGrantor c who by name = name ≡ who.user

-- CURRENT_ROLE is named, and there is none
abbrev pub no_current_role : List Item → Who → Option Grantor → Refusal → Type 0
no_current_role c who by refusal = ((name : NameBytes) → ¬ (IsGrantor c who by name)) × (refusal ≡ InvalidRole true)
