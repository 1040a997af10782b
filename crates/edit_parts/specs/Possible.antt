-- The rights by the system that keys of a board are of.
use Rattle.std.specs.Prelude.{Bool, cond, ◌&&◌, Option, Some, None}
use Rattle.cat_items.specs.declared.need.Auth.TheVariants.{System}
use Rattle.cat_items.specs.declared.item.Right.{Right}
use Rattle.edit_suspects.specs.Helpers.{is_by_system, is_named, is_system}

-- whether this is the right of a ghost's key: its grantor is a user or a role, and its grantee the system
abbrev pub is_ghost : Right → Bool
is_ghost r = is_named r.grantor && is_system r.grantee

-- the right that it stands for
abbrev pub possible_right : Right → Option Right
possible_right r = cond (is_ghost r) (Some (record r { grantor = System; grantee = r.grantor })) None

-- the right, if it is by the system to a user or a role, and that which it stands for, if it is a ghost's
abbrev pub right_of : Right → Option Right
right_of r = cond (is_by_system r.grantor r.grantee) (Some r) (possible_right r)
