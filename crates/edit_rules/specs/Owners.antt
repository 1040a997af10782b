-- For whom a statement acts, and refusals of who isn't the owner (SQL:2003 part 2, 4.34 and 11.2).
use Rattle.std.specs.Prelude.{◌≡◌, ◌⊎◌, List, Some}
use Rattle.sql_names.specs.NameBytes.{NameBytes}
use Rattle.cat_items.specs.declared.edit.Refusal.{Refusal}
use Rattle.cat_items.specs.declared.edit.Refusal.TheVariants.{NotOwner}
use Rattle.cat_items.specs.declared.edit.Who.{Who}
use Rattle.cat_items.specs.declared.item.Item.{Item}
use Rattle.cat_items.specs.declared.item.Item.TheVariants.{Schema}
use Rattle.cat_items.specs.declared.need.Auth.TheVariants.{Named}
use Rattle.cat_items.specs.Reach.{Has, Reaches}
use Rattle.role_graph.specs.Roles.{IsEnabled}

-- the role that is set, where the user still reaches it
abbrev pub IsCurrentRole : List Item → Who → NameBytes → Type 0
IsCurrentRole c who name = (who.role ≡ Some name) × Reaches c (Named who.user) (Named name)

-- the session's user, or an enabled role
abbrev pub ActsFor : List Item → Who → NameBytes → Type 0
ActsFor c who name = (name ≡ who.user) ⊎ IsEnabled c who.user who.role name

-- a schema of this name whose owner the session acts for
abbrev pub IsOwnSchema : List Item → Who → NameBytes → Item → Type 0
IsOwnSchema c who schema (Schema x) = (x.name ≡ schema) × ActsFor c who x.owner
IsOwnSchema c who schema x = ⊥

-- what a schema has is made, changed and dropped for its owner alone
abbrev pub not_owner : List Item → Who → NameBytes → Refusal → Type 0
not_owner c who schema refusal = (¬ (Has c (IsOwnSchema c who schema))) × (refusal ≡ NotOwner schema)
