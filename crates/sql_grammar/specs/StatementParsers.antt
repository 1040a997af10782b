-- Reading statements.
use Rattle.std.specs.Prelude.{Bool, true, false, ◌&&◌, List, [], Option, if◌then◌else◌}
use Rattle.sql_tree.specs.declared.rights.Grantor.{Grantor}
use Rattle.sql_tree.specs.declared.statement.DropKind.{DropKind}
use Rattle.sql_tree.specs.declared.statement.DropKind.TheVariants as drops
use Rattle.sql_tree.specs.declared.statement.RoleChoice.{RoleChoice}
use Rattle.sql_tree.specs.declared.statement.RoleChoice.TheVariants as choices
use Rattle.sql_tree.specs.declared.statement.SchemaNameClause.{SchemaNameClause}
use Rattle.sql_tree.specs.declared.statement.SchemaNameClause.TheVariants as clauses
use Rattle.sql_tree.specs.declared.statement.Statement.{Statement}
use Rattle.sql_tree.specs.declared.statement.Statement.TheVariants as statements
use Rattle.sql_spelling.specs.declared.kind.Kind.{Kind}
use Rattle.sql_spelling.specs.declared.kind.Kind.TheVariants as k
use Rattle.sql_words.specs.declared.word.Word.{Word}
use Rattle.sql_phrases.specs.Reading.{peek, next, sees}
use Rattle.sql_phrases.specs.Parsers.{Parser, ◌>>=◌, ◌>>◌, ◌<$>◌, pure, refuse, skip, eat, expect, separated, optional}
use Rattle.sql_phrases.specs.NameParsers.{identifier, literal_name, identifiers, object_name}
use Rattle.sql_grammar.specs.RightsParsers.{behaviour, grantor_after, granted_by, grantee, privileges_on, with_option, option_for, names_then}
use Rattle.sql_grammar.specs.AlterParsers.{alter_table_action, alter_domain_action}
use Rattle.sql_grammar.specs.InformationParsers.{info_query}
use Rattle.sql_grammar.specs.CreateParsers.{create_table, create_view, create_domain, create_assertion, create_function, create_procedure}

unfoldable pub role_choice : Parser RoleChoice
role_choice = λ ws. if sees k.Literal ws then (choices.Literal <$> literal_name) ws else (do
  is_none ← eat k.None
  if is_none then pure choices.NoRole else choices.Identifier <$> identifier) ws

unfoldable pub schema_name_clause : Parser SchemaNameClause
schema_name_clause = do
  is_owner ← eat k.Authorization
  if is_owner then clauses.Authorization <$> identifier else (do
    schema ← identifier
    owner ← optional k.Authorization identifier
    pure (clauses.Named schema owner))

-- after CONNECT
unfoldable pub connect : Parser Statement
connect = do
  expect k.To
  server ← literal_name
  connection ← optional k.As literal_name
  expect k.User
  user ← literal_name
  pure (statements.Connect (record { server = server; connection = connection; user = user }))

abbrev pub set_by : Kind → Parser Statement
set_by k.Connection = skip >> statements.SetConnection <$> literal_name
set_by k.Schema = skip >> statements.SetSchema <$> literal_name
set_by k.Role = skip >> statements.SetRole <$> role_choice
set_by _ = refuse

-- after SET
unfoldable pub set : Parser Statement
set = λ ws. set_by (peek ws) ws

-- after CREATE SCHEMA
unfoldable pub create_schema : Parser Statement
create_schema = (λ schema. statements.CreateSchema (record { schema = schema; elements = [] })) <$> schema_name_clause

unfoldable pub admin : Parser (Option Grantor)
admin = optional k.With (grantor_after k.Admin)

-- after CREATE ROLE
unfoldable pub create_role : Parser Statement
create_role = do
  role ← identifier
  by ← admin
  pure (statements.CreateRole (record { role = role; admin = by }))

abbrev pub create_by : Kind → Parser Statement
create_by k.Schema = skip >> create_schema
create_by k.Role = skip >> create_role
create_by k.Table = skip >> create_table
create_by k.View = skip >> create_view
create_by k.Domain = skip >> create_domain
create_by k.Assertion = skip >> create_assertion
create_by k.Function = skip >> create_function
create_by k.Procedure = skip >> create_procedure
create_by _ = refuse

-- after CREATE
unfoldable pub create : Parser Statement
create = λ ws. create_by (peek ws) ws

-- after ALTER TABLE
unfoldable pub alter_table : Parser Statement
alter_table = do
  table ← object_name
  action ← alter_table_action
  pure (statements.AlterTable (record { table = table; action = action }))

-- after ALTER DOMAIN
unfoldable pub alter_domain : Parser Statement
alter_domain = do
  domain ← object_name
  action ← alter_domain_action
  pure (statements.AlterDomain (record { domain = domain; action = action }))

-- after ALTER
unfoldable pub alter : Parser Statement
alter = do
  is_table ← eat k.Table
  if is_table then alter_table else (expect k.Domain >> alter_domain)

-- after DROP SCHEMA
unfoldable pub drop_schema : Parser Statement
drop_schema = do
  schema ← identifier
  how ← behaviour
  pure (statements.DropSchema schema how)

-- after DROP and the kind
unfoldable pub drop_object : DropKind → Parser Statement
drop_object kind = do
  object ← object_name
  how ← behaviour
  pure (statements.DropObject (record { kind = kind; object = object; behaviour = how }))

abbrev pub drop_by : Kind → Parser Statement
drop_by k.Role = skip >> statements.DropRole <$> identifier
drop_by k.Schema = skip >> drop_schema
drop_by k.Table = skip >> drop_object drops.Table
drop_by k.View = skip >> drop_object drops.View
drop_by k.Domain = skip >> drop_object drops.Domain
drop_by k.Assertion = skip >> drop_object drops.Assertion
drop_by k.Function = skip >> drop_object drops.Function
drop_by k.Procedure = skip >> drop_object drops.Procedure
drop_by k.Routine = skip >> drop_object drops.Routine
drop_by _ = refuse

-- after DROP
unfoldable pub drop : Parser Statement
drop = λ ws. drop_by (peek ws) ws

unfoldable pub grant_privileges : Parser Statement
grant_privileges = do
  granted ← privileges_on
  expect k.To
  to ← separated k.Comma grantee
  grantable ← with_option k.Grant
  by ← granted_by
  pure (statements.GrantPrivileges (record { privileges = granted.0; target = granted.1; grantees = to; grant_option = grantable; grantor = by }))

unfoldable pub grant_roles : Parser Statement
grant_roles = do
  roles ← identifiers
  expect k.To
  to ← identifiers
  grantable ← with_option k.Admin
  by ← granted_by
  pure (statements.GrantRoles (record { roles = roles; grantees = to; admin_option = grantable; grantor = by }))

-- after GRANT
unfoldable pub grant : Parser Statement
grant = λ ws. if names_then k.To ws then grant_roles ws else grant_privileges ws

unfoldable pub revoke_privileges : Parser Statement
revoke_privileges = do
  option_alone ← option_for k.Grant
  revoked ← privileges_on
  expect k.From
  from ← separated k.Comma grantee
  by ← granted_by
  how ← behaviour
  pure (statements.RevokePrivileges (record { option_alone = option_alone; privileges = revoked.0; target = revoked.1; grantees = from; grantor = by; behaviour = how }))

unfoldable pub revoke_roles : Bool → Parser Statement
revoke_roles option_alone = do
  roles ← identifiers
  expect k.From
  from ← identifiers
  by ← granted_by
  how ← behaviour
  pure (statements.RevokeRoles (record { option_alone = option_alone; roles = roles; grantees = from; grantor = by; behaviour = how }))

-- after REVOKE ADMIN OPTION, which are two words
unfoldable pub revoke_admin_option : Parser Statement
revoke_admin_option = do
  skip
  skip
  expect k.For
  revoke_roles true

-- ADMIN OPTION
unfoldable pub sees_admin_option : List Word → Bool
sees_admin_option ws = sees k.Admin ws && sees k.Option (next ws)

-- after REVOKE
unfoldable pub revoke : Parser Statement
revoke = λ ws. if names_then k.From ws then revoke_roles false ws else (if sees_admin_option ws then revoke_admin_option ws else revoke_privileges ws)

abbrev pub statement_by : Kind → Parser Statement
statement_by k.Connect = skip >> connect
statement_by k.Disconnect = skip >> statements.Disconnect <$> literal_name
statement_by k.Set = skip >> set
statement_by k.Create = skip >> create
statement_by k.Alter = skip >> alter
statement_by k.Drop = skip >> drop
statement_by k.Grant = skip >> grant
statement_by k.Revoke = skip >> revoke
statement_by k.Select = skip >> statements.Select <$> info_query
statement_by _ = refuse

unfoldable pub statement : Parser Statement
statement = λ ws. statement_by (peek ws) ws
