-- Refusals by the connections of a session.
use Rattle.std.specs.Prelude.{◌≡◌, false, true, ℕ, List, None}
use Rattle.std.specs.List.{Contains}
use Rattle.sql_names.specs.NameBytes.{NameBytes}
use Rattle.cat_items.specs.declared.edit.Refusal.{Refusal}
use Rattle.cat_items.specs.declared.edit.Refusal.TheVariants.{NotConnected, ConnectionInUse, UnknownUser}
use Rattle.cat_items.specs.declared.item.Item.{Item}
use Rattle.cat_items.specs.declared.item.Item.TheVariants.{User}
use Rattle.cat_engine.specs.Sessions.{has_connection, session_of, who_of}
use Rattle.cat_engine.specs.declared.session.Session.{Session}

-- the session has no connection of this name
abbrev pub no_such_connection : List (ℕ × Session) → ℕ → NameBytes → Refusal → Type 0
no_such_connection sessions number name refusal = (has_connection (session_of sessions number) name ≡ false) × (refusal ≡ NotConnected)

-- no connection of the session is current
abbrev pub not_connected : List (ℕ × Session) → ℕ → Refusal → Type 0
not_connected sessions number refusal = (who_of sessions number ≡ None) × (refusal ≡ NotConnected)

-- the session has a connection of this name
abbrev pub connection_in_use : List (ℕ × Session) → ℕ → NameBytes → Refusal → Type 0
connection_in_use sessions number name refusal = (has_connection (session_of sessions number) name ≡ true) × (refusal ≡ ConnectionInUse)

-- no user has this name
abbrev pub unknown_user : List Item → NameBytes → Refusal → Type 0
unknown_user c name refusal = (¬ (Contains c (User name))) × (refusal ≡ UnknownUser)
