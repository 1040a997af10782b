-- Grant options of the system's rights to SELECT, and what is known of them.
use Rattle.std.specs.Prelude.{◌≡◌, Bool, true, false, List, Option, Some, None}
use Rattle.sql_names.specs.NameBytes.{NameBytes}
use Rattle.sql_tree.specs.declared.rights.Action.TheVariants.{Select}
use Rattle.cat_items.specs.declared.need.Auth.TheVariants.{System, Named}
use Rattle.cat_items.specs.declared.item.Right.{Right}
use Rattle.cat_items.specs.declared.item.Item.{Item}
use Rattle.cat_items.specs.declared.item.Item.TheVariants as item
use Rattle.cat_items.specs.Reach.{Has}
use Rattle.cat_items.specs.Rights.{Stands}
use Rattle.cat_items.specs.SystemRights.{SystemGrants}
use Rattle.cat_items.specs.Supported.{IsGrantee, IsHeld, Supported}
use Rattle.part_rounds.specs.declared.options.Found.{Found}

-- by the system, to SELECT
abbrev pub IsToSelect : Right → Type 0
IsToSelect r = (r.grantor ≡ System) × (r.need.action ≡ Select)

-- on one object, to one user or role
abbrev pub AreAlike : Right → Right → Type 0
AreAlike r q = (name : NameBytes) × (r.grantee ≡ Named name) × (q.grantee ≡ Named name) × (r.need.on ≡ q.need.on)

-- its object stands, with its column, and it is held
abbrev pub IsHeldThere : List Item → Right → Type 0
IsHeldThere s r = Stands s r.need × Has s (IsHeld r)

-- its grantee stands, and the system grants it with grant option
abbrev pub IsGranted : List Item → Right → Type 0
IsGranted s r = IsGrantee s r.grantee × SystemGrants true s r

-- this was found of a right like this one
abbrev pub IsFound : Option Found → Right → Bool → Type 0
IsFound None r granted = ⊥
IsFound (Some f) r granted = AreAlike f.right.now r × (f.granted ≡ granted)

-- the items of s support its option, or don't grant it
abbrev pub IsAnswer : List Item → List Item → Right → Bool → Type 0
IsAnswer c s r true = Supported c s (item.Grantable r)
IsAnswer c s r false = ¬ (IsGranted s r)

-- what was found is so by the items of s
abbrev pub Knows : List Item → List Item → Option Found → Type 0
Knows c s None = Unit {0}
Knows c s (Some f) = IsToSelect f.right.now × IsAnswer c s f.right.now f.granted
