-- The connections of sessions (SQL-connection management, SQL:2003 part 2, 17).
use Rattle.std.specs.Prelude.{Bool, if◌then◌else◌, ℕ, List, [], ◌∷◌, ◌++◌, Option, None, Some, remove, slice_get, slice_set}
use Rattle.std.specs.List.{list_any, position}
use Rattle.std.specs.Option.{option_and_then, option_map, unwrap_or}
use Rattle.std.specs.Ordering.{nat_cmp}
use Rattle.std.specs.Str.{bytes_eq}
use Rattle.std.specs.BTreeMap.{is_at, insert_entry}
use Rattle.std.specs.Map.{lookup, set_value}
use Rattle.sql_names.specs.NameBytes.{NameBytes}
use Rattle.cat_items.specs.declared.edit.Who.{Who}
use Rattle.cat_engine.specs.declared.session.Connection.{Connection}
use Rattle.cat_engine.specs.declared.session.Session.{Session}
use Rattle.cat_engine.specs.declared.session.Setting.{Setting}
use Rattle.cat_engine.specs.declared.session.Setting.TheVariants.{Schema, Role}

-- the connection has this name
abbrev pub is_named : NameBytes → Connection → Bool
is_named name connection = bytes_eq name connection.name

-- the session has a connection of this name
abbrev pub has_connection : Session → NameBytes → Bool
has_connection session name = list_any (is_named name) session.connections

-- the place of its connection of this name
abbrev pub place_of : Session → NameBytes → Option ℕ
place_of session name = position (is_named name) session.connections

-- its current connection
abbrev pub current : Session → Option Connection
current session = option_and_then (slice_get session.connections) (option_and_then (place_of session) session.current)

-- a session that has made no connection
abbrev pub fresh : Session
fresh = record { connections = []; current = None }

-- the session of this number
abbrev pub session_of : List (ℕ × Session) → ℕ → Session
session_of sessions number = unwrap_or (lookup (is_at (nat_cmp number)) sessions) fresh

-- for whom the statements of a session are run: whom its current connection is for
abbrev pub who_of : List (ℕ × Session) → ℕ → Option Who
who_of sessions number = option_map (λ (c : Connection). c.who) (current (session_of sessions number))

-- the sessions with this one, in the place of the one of its number or at its place in order
abbrev pub with_session : List (ℕ × Session) → ℕ → Session → List (ℕ × Session)
with_session sessions number session = elim (lookup (is_at (nat_cmp number)) sessions) [
  | Some old ↦ set_value (is_at (nat_cmp number)) sessions session
  | None ↦ insert_entry nat_cmp sessions number session
]

-- with a connection more, which is the current one
abbrev pub connected : Session → Connection → Session
connected session connection = record { connections = session.connections ++ connection ∷ []; current = Some connection.name }

-- with the connection of this name as the current one
abbrev pub switched : Session → NameBytes → Session
switched session name = record session { current = Some name }

-- a name, where it isn't this one
abbrev pub unless : NameBytes → Option NameBytes → Option NameBytes
unless name None = None
unless name (Some other) = if bytes_eq name other then None else Some other

-- without the connection of this name; if it was current, none is
abbrev pub disconnected : Session → NameBytes → Session
disconnected session name = elim (place_of session name) [
  | None ↦ session
  | Some at ↦ record { connections = remove session.connections at; current = unless name session.current }
]

-- for the same user, with this schema or this role
abbrev pub who_with : Setting → Who → Who
who_with (Schema schema) who = record { user = who.user; role = who.role; schema = schema }
who_with (Role role) who = record { user = who.user; role = role; schema = who.schema }

abbrev pub with_setting : Setting → Connection → Connection
with_setting setting c = record { name = c.name; who = who_with setting c.who }

-- with this set for the connection at a place
abbrev pub with_setting_at : Session → ℕ → Setting → Option Connection → Session
with_setting_at session at setting None = session
with_setting_at session at setting (Some c) = record { connections = slice_set session.connections at (with_setting setting c); current = session.current }

-- with this set for its current connection
abbrev pub set_for : Session → Setting → Session
set_for session setting = elim (option_and_then (place_of session) session.current) [
  | None ↦ session
  | Some at ↦ with_setting_at session at setting (slice_get session.connections at)
]
