-- Kinds of edits, and items that an edit leaves.
use Rattle.std.specs.Prelude.{◌≡◌, List, []}
use Rattle.std.specs.List.{Contains}
use Rattle.std.specs.declared.cmp.Ordering.TheVariants.{Equal}
use Rattle.cat_items.specs.declared.need.Auth.TheVariants.{System}
use Rattle.cat_items.specs.declared.edit.Edit.{Edit}
use Rattle.cat_items.specs.declared.item.Item.{Item}
use Rattle.cat_items.specs.declared.item.Item.TheVariants as item
use Rattle.cat_items.specs.Order.{item_cmp}

-- items are added, and nothing else is done
abbrev pub adding : List Item → Edit
adding added = record { target = []; changed = []; added = added }

-- items are destroyed, and nothing else is done
abbrev pub taking : List Item → Edit
taking target = record { target = target; changed = []; added = [] }

-- an item that the edit leaves as it is
abbrev pub IsKept : List Item → Edit → Item → Type 0
IsKept c edit x = Contains c x × (¬ (Contains edit.target x)) × (¬ (Contains edit.changed x))

-- an added item that has the key of a kept one is that item
abbrev pub HaveOwnKeys : List Item → Edit → Type 0
HaveOwnKeys c edit = (x y : Item) → Contains edit.added x → IsKept c edit y → item_cmp x y ≡ Equal → x ≡ y

-- a right that the system granted
abbrev pub IsBySystem : Item → Type 0
IsBySystem (item.Held r) = r.grantor ≡ System
IsBySystem (item.Grantable r) = r.grantor ≡ System
IsBySystem x = ⊥
