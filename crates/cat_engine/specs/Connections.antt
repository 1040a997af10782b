-- What holds of the connections of a session that a book reaches (SQL-connection management, SQL:2003 part 2, 17).
use Rattle.std.specs.Prelude.{◌≡◌, ◌≢◌, List, Some, map}
use Rattle.std.specs.List.{AllPairs, Contains}
use Rattle.sql_names.specs.NameBytes.{NameBytes}
use Rattle.cat_engine.specs.declared.session.Connection.{Connection}
use Rattle.cat_engine.specs.declared.session.Session.{Session}

-- the names of a session's connections, in the order in which they were made
abbrev pub connection_names : Session → List NameBytes
connection_names session = map (λ (c : Connection). c.name) session.connections

-- no two connections of the session have one name, and the current one is one of them
pub record IsProperSession (session : Session) : Type 0 where
  pub names : AllPairs (λ a b. a ≢ b) (connection_names session)
  pub current : (name : NameBytes) → session.current ≡ Some name → Contains (connection_names session) name
