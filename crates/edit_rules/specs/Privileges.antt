-- Refusals of who lacks a privilege.
use Rattle.std.specs.Prelude.{◌≡◌, ◌≢◌, false, List, Option, Some, None}
use Rattle.std.specs.List.{Contains}
use Rattle.std.specs.declared.cmp.Ordering.TheVariants.{Greater}
use Rattle.sql_names.specs.NameBytes.{NameBytes}
use Rattle.cat_items.specs.declared.edit.Refusal.{Refusal}
use Rattle.cat_items.specs.declared.edit.Refusal.TheVariants.{NoPrivilege}
use Rattle.cat_items.specs.declared.item.Item.{Item}
use Rattle.cat_items.specs.declared.need.Auth.TheVariants.{Named}
use Rattle.cat_items.specs.declared.need.Need.{Need}
use Rattle.cat_items.specs.Order.{need_cmp}
use Rattle.cat_items.specs.Rights.{Met}

-- the least of the needs that are so
pub record IsLeastNeed (P : Need → Type 0) (need : Need) : Type 0 where
  pub is : P need
  pub least : (other : Need) → P other → need_cmp need other ≢ Greater

-- a need that isn't met for the user or role of this name
abbrev pub IsUnmet : List Item → NameBytes → List Need → Need → Type 0
IsUnmet c owner needs need = Contains needs need × (¬ (Met false c (Named owner) need))

-- the least need of these that isn't met, or none where all are met
abbrev pub IsLeastUnmet : List Item → NameBytes → List Need → Option Need → Type 0
IsLeastUnmet c owner needs None = (need : Need) → ¬ (IsUnmet c owner needs need)
IsLeastUnmet c owner needs (Some need) = IsLeastNeed (IsUnmet c owner needs) need

-- a need that doesn't come before that one
abbrev pub IsBehind : Option Need → Need → Type 0
IsBehind None need = ⊥
IsBehind (Some least) need = need_cmp least need ≢ Greater

-- not all of these needs are met; the least that isn't is told
abbrev pub no_privilege : List Item → NameBytes → List Need → Refusal → Type 0
no_privilege c owner needs refusal = (need : Need) × IsLeastNeed (IsUnmet c owner needs) need × (refusal ≡ NoPrivilege need)
