-- Rights by the system, and what pays for those that it could grant in the old catalogue, that don't stand there, and that aren't spoken of any more.
use Rattle.std.specs.Prelude.{◌≡◌, ℕ, ◌+◌, ◌*◌, Bool, true, false, None, Some}
use Rattle.cat_items.specs.declared.need.Auth.TheVariants.{System}
use Rattle.cat_items.specs.declared.item.Right.{Right}
use Rattle.cat_items.specs.declared.item.Item.{Item}
use Rattle.cat_items.specs.declared.item.Item.TheVariants as item
use Rattle.cat_items.specs.Rights.{path_of, execute, usage}

abbrev pub IsBySystem : Item → Type 0
IsBySystem (item.Held r) = r.grantor ≡ System
IsBySystem (item.Grantable r) = r.grantor ≡ System
IsBySystem x = ⊥

-- the object that the right is on, or the column where it is on one
abbrev pub IsRightOn : Right → Item → Type 0
IsRightOn r (item.Table o) = (r.need.on ≡ path_of o) × (r.need.column ≡ None)
IsRightOn r (item.View v) = (r.need.on ≡ path_of v.view) × (r.need.column ≡ None)
IsRightOn r (item.Column k) = (r.need.on ≡ path_of k.table) × (r.need.column ≡ Some k.name)
IsRightOn r (item.Domain d) = r.need ≡ usage d.domain
IsRightOn r (item.Routine z) = r.need ≡ execute z.routine
IsRightOn r x = ⊥

-- a schema, which leads to its owner, or a role authorization, which leads to its role
abbrev pub leads_on : Item → Bool
leads_on (item.Schema z) = true
leads_on (item.RoleAuth g) = true
leads_on x = false

-- The look-ups of such a right: `leads` schemas and role authorizations are relevant to what it is on.
abbrev pub right_look_ups : (leads : ℕ) → ℕ
right_look_ups leads = 99 + 18 * leads

-- at most how many of them are on an item; those on tables and domains always stand
abbrev pub rights_on : Item → ℕ
rights_on (item.View v) = 8
rights_on (item.Column k) = 6
rights_on (item.Routine z) = 2
rights_on x = 0
