-- The kinds of statements that are built.
use Rattle.sql_tree.specs.declared.statement.Statement.{Statement}
use Rattle.sql_tree.specs.declared.statement.Statement.TheVariants.{Connect, SetConnection, Disconnect, Select, SetSchema, SetRole}
use Rattle.catalogue_edits.specs.Statements.{IsBuiltEdit}

-- CONNECT, SET CONNECTION, DISCONNECT, SET SCHEMA, SET ROLE, SELECT, and what edits the catalogue
abbrev pub IsBuilt : Statement → Type 0
IsBuilt (Connect c) = Unit {0}
IsBuilt (SetConnection name) = Unit {0}
IsBuilt (Disconnect name) = Unit {0}
IsBuilt (SetSchema name) = Unit {0}
IsBuilt (SetRole choice) = Unit {0}
IsBuilt (Select query) = Unit {0}
IsBuilt statement = IsBuiltEdit statement
