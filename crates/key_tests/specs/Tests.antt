-- Tests on the keys of a board: whether a key is a helper's, and whether a topic's; and whether an item may have a ghost.
use Rattle.std.specs.Prelude.{Bool, true, false, cond, ◌&&◌, ◌||◌, Option, Some, None}
use Rattle.cat_items.specs.declared.need.Auth.{Auth}
use Rattle.cat_items.specs.declared.need.Auth.TheVariants.{System, Public, Named}
use Rattle.cat_items.specs.declared.item.Item.{Item}
use Rattle.cat_items.specs.declared.item.Item.TheVariants as item
use Rattle.board_graph.specs.BoardKeys.{ghost_key}

abbrev pub is_public : Auth → Bool
is_public Public = true
is_public a = false

abbrev pub is_system : Auth → Bool
is_system System = true
is_system a = false

-- whether it is a user or a role
abbrev pub is_named : Auth → Bool
is_named (Named name) = true
is_named a = false

abbrev pub is_place : Auth → Auth → Bool
is_place grantor grantee = is_public grantor || is_system grantee

-- whether it is a key that no catalogue has: a right or a role grant by PUBLIC, or a right to the system
abbrev pub is_helper : Item → Bool
is_helper (item.RoleAuth g) = is_public g.grantor
is_helper (item.RoleAdmin g) = is_public g.grantor
is_helper (item.Held r) = is_place r.grantor r.grantee
is_helper (item.Grantable r) = is_place r.grantor r.grantee
is_helper x = false

abbrev pub is_topic_place : Auth → Auth → Bool
is_topic_place grantor grantee = is_public grantor || (is_system grantor && is_system grantee)

-- whether a key of a board is a topic's: it is granted by PUBLIC, or by the system to the system
abbrev pub is_topic : Item → Bool
is_topic (item.RoleAuth g) = is_public g.grantor
is_topic (item.RoleAdmin g) = is_public g.grantor
is_topic (item.Held r) = is_topic_place r.grantor r.grantee
is_topic x = false

abbrev pub is_by_system : Auth → Auth → Bool
is_by_system grantor grantee = is_system grantor && is_named grantee

-- whether it is a right by the system to a user or a role: where it doesn't stand, it may have a ghost
abbrev pub may_be_ghost : Item → Bool
may_be_ghost (item.Held r) = is_by_system r.grantor r.grantee
may_be_ghost (item.Grantable r) = is_by_system r.grantor r.grantee
may_be_ghost x = false

-- that ghost's key
abbrev pub ghost_of : Item → Option Item
ghost_of x = cond (may_be_ghost x) (Some (ghost_key x)) None
