-- Statements, and the grammar of a statement's words.
use Rattle.std.specs.Prelude.{ℕ, suc, ◌-◌, Bool, false, List, [], Option}
use Rattle.sql_names.specs.NameBytes.{NameBytes}
use Rattle.sql_tree.specs.declared.body.Act.{Act}
use Rattle.sql_tree.specs.declared.body.Body.TheVariants as bodies
use Rattle.sql_tree.specs.declared.body.Security.TheVariants.{Definer}
use Rattle.sql_names.specs.declared.column.ObjectName.{ObjectName}
use Rattle.sql_tree.specs.declared.expr.Expr.{Expr}
use Rattle.sql_tree.specs.declared.expr.Query.{Query}
use Rattle.sql_tree.specs.declared.rights.Grantee.{Grantee}
use Rattle.sql_tree.specs.declared.rights.Grantor.{Grantor}
use Rattle.sql_tree.specs.declared.rights.Privileges.{Privileges}
use Rattle.sql_tree.specs.declared.rights.Target.{Target}
use Rattle.sql_names.specs.declared.sort.Default.{Default}
use Rattle.sql_names.specs.declared.sort.Param.{Param}
use Rattle.sql_names.specs.declared.sort.SqlType.{SqlType}
use Rattle.sql_tree.specs.declared.statement.AlterDomainAction.{AlterDomainAction}
use Rattle.sql_tree.specs.declared.statement.AlterTableAction.{AlterTableAction}
use Rattle.sql_tree.specs.declared.statement.Behaviour.{Behaviour}
use Rattle.sql_tree.specs.declared.statement.DropKind.{DropKind}
use Rattle.sql_tree.specs.declared.statement.DropKind.TheVariants as drops
use Rattle.sql_tree.specs.declared.statement.InfoQuery.{InfoQuery}
use Rattle.sql_tree.specs.declared.statement.RoleChoice.{RoleChoice}
use Rattle.sql_tree.specs.declared.statement.RoleChoice.TheVariants as choices
use Rattle.sql_tree.specs.declared.statement.SchemaNameClause.{SchemaNameClause}
use Rattle.sql_tree.specs.declared.statement.SchemaNameClause.TheVariants as clauses
use Rattle.sql_tree.specs.declared.statement.Statement.{Statement}
use Rattle.sql_tree.specs.declared.statement.Statement.TheVariants as statements
use Rattle.sql_tree.specs.declared.table.DomainCheck.{DomainCheck}
use Rattle.sql_tree.specs.declared.table.TableElement.{TableElement}
use Rattle.sql_spelling.specs.declared.kind.Kind.TheVariants as k
use Rattle.sql_words.specs.declared.word.Word.{Word}
use Rattle.sql_phrases.specs.Shapes.{Token, Separated, Repeated, Optional, Marked}
use Rattle.sql_phrases.specs.NameRules.{SpellsIdentifier, SpellsLiteralName, SpellsObjectName, SpellsIdentifiers, SpellsColumns}
use Rattle.sql_phrases.specs.TypeRules.{SpellsType, SpellsDefault}
use Rattle.sql_expressions.specs.ExpressionRules.{SpellsExprWithin, SpellsQueryWithin}
use Rattle.sql_definitions.specs.CheckRules.{SpellsCheck, SpellsDomainCheck}
use Rattle.sql_definitions.specs.BodyRules.{SpellsActs}
use Rattle.sql_definitions.specs.RoutineRules.{SpellsParams, SpellsLanguage}
use Rattle.sql_grammar.specs.RightsRules.{SpellsBehaviour, SpellsGrantorAfter, SpellsGrantedBy, SpellsGrantee, SpellsPrivilegesOn, SpellsWithOption, SpellsOptionFor}
use Rattle.sql_grammar.specs.AlterRules.{SpellsAlterTableAction, SpellsAlterDomainAction}
use Rattle.sql_grammar.specs.InformationRules.{SpellsInfoQuery}
use Rattle.sql_definitions.specs.TableRules.{SpellsTableElements}

-- lit | name | NONE
pub data SpellsRoleChoice : RoleChoice → List Word → List Word → Type 0 where
  by_literal : {n : NameBytes} {ws rest : List Word} → SpellsLiteralName n ws rest → SpellsRoleChoice (choices.Literal n) ws rest
  by_name : {n : NameBytes} {ws rest : List Word} → SpellsIdentifier n ws rest → SpellsRoleChoice (choices.Identifier n) ws rest
  no_role : {ws rest : List Word} → Token k.None ws rest → SpellsRoleChoice choices.NoRole ws rest

-- name [AUTHORIZATION name] | AUTHORIZATION name
pub data SpellsSchemaNameClause : SchemaNameClause → List Word → List Word → Type 0 where
  named : {n : NameBytes} {owner : Option NameBytes} {ws a rest : List Word} → SpellsIdentifier n ws a → Optional k.Authorization SpellsIdentifier owner a rest
      → SpellsSchemaNameClause (clauses.Named n owner) ws rest
  authorization : {n : NameBytes} {ws a rest : List Word} → Token k.Authorization ws a → SpellsIdentifier n a rest → SpellsSchemaNameClause (clauses.Authorization n) ws rest

-- TABLE | VIEW | DOMAIN | ASSERTION | FUNCTION | PROCEDURE | ROUTINE
pub data SpellsDropKind : DropKind → List Word → List Word → Type 0 where
  table : {ws rest : List Word} → Token k.Table ws rest → SpellsDropKind drops.Table ws rest
  view : {ws rest : List Word} → Token k.View ws rest → SpellsDropKind drops.View ws rest
  domain : {ws rest : List Word} → Token k.Domain ws rest → SpellsDropKind drops.Domain ws rest
  assertion : {ws rest : List Word} → Token k.Assertion ws rest → SpellsDropKind drops.Assertion ws rest
  function : {ws rest : List Word} → Token k.Function ws rest → SpellsDropKind drops.Function ws rest
  procedure : {ws rest : List Word} → Token k.Procedure ws rest → SpellsDropKind drops.Procedure ws rest
  routine : {ws rest : List Word} → Token k.Routine ws rest → SpellsDropKind drops.Routine ws rest

-- with at most this many brackets open at one word, where CASE and BEGIN are brackets up to their END
pub data SpellsStatement (most : ℕ) : Statement → List Word → List Word → Type 0 where
  -- CONNECT TO lit [AS lit] USER lit
  connect : {server user : NameBytes} {connection : Option NameBytes} {ws a b c d e rest : List Word} → Token k.Connect ws a → Token k.To a b → SpellsLiteralName server b c
      → Optional k.As SpellsLiteralName connection c d → Token k.User d e → SpellsLiteralName user e rest
      → SpellsStatement most (statements.Connect (record { server = server; connection = connection; user = user })) ws rest
  -- SET CONNECTION lit
  set_connection : {n : NameBytes} {ws a b rest : List Word} → Token k.Set ws a → Token k.Connection a b → SpellsLiteralName n b rest → SpellsStatement most (statements.SetConnection n) ws rest
  -- DISCONNECT lit
  disconnect : {n : NameBytes} {ws a rest : List Word} → Token k.Disconnect ws a → SpellsLiteralName n a rest → SpellsStatement most (statements.Disconnect n) ws rest
  -- SET SCHEMA lit
  set_schema : {n : NameBytes} {ws a b rest : List Word} → Token k.Set ws a → Token k.Schema a b → SpellsLiteralName n b rest → SpellsStatement most (statements.SetSchema n) ws rest
  -- SET ROLE (lit | name | NONE)
  set_role : {choice : RoleChoice} {ws a b rest : List Word} → Token k.Set ws a → Token k.Role a b → SpellsRoleChoice choice b rest → SpellsStatement most (statements.SetRole choice) ws rest
  -- CREATE SCHEMA (name [AUTHORIZATION name] | AUTHORIZATION name)
  create_schema : {schema : SchemaNameClause} {ws a b rest : List Word} → Token k.Create ws a → Token k.Schema a b → SpellsSchemaNameClause schema b rest
      → SpellsStatement most (statements.CreateSchema (record { schema = schema; elements = [] })) ws rest
  -- CREATE ROLE name [WITH ADMIN (CURRENT_USER | CURRENT_ROLE)]
  create_role : {role : NameBytes} {admin : Option Grantor} {ws a b c rest : List Word} → Token k.Create ws a → Token k.Role a b → SpellsIdentifier role b c
      → Optional k.With (SpellsGrantorAfter k.Admin) admin c rest → SpellsStatement most (statements.CreateRole (record { role = role; admin = admin })) ws rest
  -- DROP ROLE name
  drop_role : {role : NameBytes} {ws a b rest : List Word} → Token k.Drop ws a → Token k.Role a b → SpellsIdentifier role b rest → SpellsStatement most (statements.DropRole role) ws rest
  -- CREATE TABLE obj '(' (coldef | tcon),.. ')'
  create_table : {table : ObjectName} {es : List TableElement} {ws a b c rest : List Word} → Token k.Create ws a → Token k.Table a b → SpellsObjectName table b c → SpellsTableElements (most - 1) es c rest
      → SpellsStatement most (statements.CreateTable (record { table = table; elements = es })) ws rest
  -- CREATE VIEW obj ['(' name,.. ')'] AS query
  create_view : {v : ObjectName} {cs : List NameBytes} {q : Query} {ws a b c d e rest : List Word} → Token k.Create ws a → Token k.View a b → SpellsObjectName v b c → SpellsColumns cs c d → Token k.As d e
      → SpellsQueryWithin false (suc most) q e rest → SpellsStatement most (statements.CreateView (record { view = v; columns = cs; query = q })) ws rest
  -- CREATE DOMAIN obj [AS] type [DEFAULT default] {dcheck}
  create_domain : {n : ObjectName} {as_said : Bool} {t : SqlType} {value : Option Default} {checks : List DomainCheck} {ws a b c d e f rest : List Word} → Token k.Create ws a
      → Token k.Domain a b → SpellsObjectName n b c → Marked k.As as_said c d → SpellsType most t d e → Optional k.Default SpellsDefault value e f → Repeated (SpellsDomainCheck most) checks f rest
      → SpellsStatement most (statements.CreateDomain (record { domain = n; sort = t; default = value; checks = checks })) ws rest
  -- CREATE ASSERTION obj CHECK '(' expr ')'
  create_assertion : {n : ObjectName} {x : Expr} {ws a b c rest : List Word} → Token k.Create ws a → Token k.Assertion a b → SpellsObjectName n b c → SpellsCheck false most x c rest
      → SpellsStatement most (statements.CreateAssertion (record { assertion = n; condition = x })) ws rest
  -- CREATE FUNCTION obj '(' [param,..] ')' RETURNS type [LANGUAGE SQL] RETURN expr
  create_function : {n : ObjectName} {ps : List Param} {t : SqlType} {x : Expr} {ws a b c d e f g h rest : List Word} → Token k.Create ws a → Token k.Function a b → SpellsObjectName n b c
      → SpellsParams most ps c d → Token k.Returns d e → SpellsType most t e f → SpellsLanguage f g → Token k.Return g h → SpellsExprWithin false (suc most) x h rest
      → SpellsStatement most (statements.CreateFunction (record { function = n; params = ps; returns = t; body = bodies.Return Definer x })) ws rest
  -- CREATE PROCEDURE obj '(' [param,..] ')' [LANGUAGE SQL] BEGIN ATOMIC act ';' {act ';'} END
  create_procedure : {n : ObjectName} {ps : List Param} {xs : List Act} {ws a b c d e f g h rest : List Word} → Token k.Create ws a → Token k.Procedure a b → SpellsObjectName n b c → SpellsParams most ps c d
      → SpellsLanguage d e → Token k.Begin e f → Token k.Atomic f g → SpellsActs most xs g h → Token k.End h rest
      → SpellsStatement most (statements.CreateProcedure (record { procedure = n; params = ps; body = bodies.Atomic Definer xs })) ws rest
  -- ALTER TABLE obj action
  alter_table : {table : ObjectName} {action : AlterTableAction} {ws a b c rest : List Word} → Token k.Alter ws a → Token k.Table a b → SpellsObjectName table b c → SpellsAlterTableAction most action c rest
      → SpellsStatement most (statements.AlterTable (record { table = table; action = action })) ws rest
  -- ALTER DOMAIN obj action
  alter_domain : {domain : ObjectName} {action : AlterDomainAction} {ws a b c rest : List Word} → Token k.Alter ws a → Token k.Domain a b → SpellsObjectName domain b c → SpellsAlterDomainAction most action c rest
      → SpellsStatement most (statements.AlterDomain (record { domain = domain; action = action })) ws rest
  -- DROP SCHEMA name [beh]
  drop_schema : {schema : NameBytes} {behaviour : Behaviour} {ws a b c rest : List Word} → Token k.Drop ws a → Token k.Schema a b → SpellsIdentifier schema b c → SpellsBehaviour behaviour c rest
      → SpellsStatement most (statements.DropSchema schema behaviour) ws rest
  -- DROP (TABLE | VIEW | DOMAIN | ASSERTION | FUNCTION | PROCEDURE | ROUTINE) obj [beh]
  drop_object : {kind : DropKind} {object : ObjectName} {behaviour : Behaviour} {ws a b c rest : List Word} → Token k.Drop ws a → SpellsDropKind kind a b → SpellsObjectName object b c
      → SpellsBehaviour behaviour c rest → SpellsStatement most (statements.DropObject (record { kind = kind; object = object; behaviour = behaviour })) ws rest
  -- GRANT privs ON target TO grantee,.. [WITH GRANT OPTION] [by]
  grant_privileges : {ps : Privileges} {t : Target} {gs : List Grantee} {grantable : Bool} {by : Option Grantor} {ws a b c d e rest : List Word} → Token k.Grant ws a
      → SpellsPrivilegesOn ps t a b → Token k.To b c → Separated k.Comma SpellsGrantee gs c d → SpellsWithOption k.Grant grantable d e → SpellsGrantedBy by e rest
      → SpellsStatement most (statements.GrantPrivileges (record { privileges = ps; target = t; grantees = gs; grant_option = grantable; grantor = by })) ws rest
  -- REVOKE [GRANT OPTION FOR] privs ON target FROM grantee,.. [by] [beh]
  revoke_privileges : {ps : Privileges} {t : Target} {gs : List Grantee} {option_alone : Bool} {by : Option Grantor} {behaviour : Behaviour} {ws a b c d e f rest : List Word}
      → Token k.Revoke ws a → SpellsOptionFor k.Grant option_alone a b → SpellsPrivilegesOn ps t b c → Token k.From c d → Separated k.Comma SpellsGrantee gs d e → SpellsGrantedBy by e f
      → SpellsBehaviour behaviour f rest
      → SpellsStatement most (statements.RevokePrivileges (record { option_alone = option_alone; privileges = ps; target = t; grantees = gs; grantor = by; behaviour = behaviour })) ws rest
  -- GRANT name,.. TO name,.. [WITH ADMIN OPTION] [by]
  grant_roles : {roles gs : List NameBytes} {grantable : Bool} {by : Option Grantor} {ws a b c d e rest : List Word} → Token k.Grant ws a → SpellsIdentifiers roles a b
      → Token k.To b c → SpellsIdentifiers gs c d → SpellsWithOption k.Admin grantable d e → SpellsGrantedBy by e rest
      → SpellsStatement most (statements.GrantRoles (record { roles = roles; grantees = gs; admin_option = grantable; grantor = by })) ws rest
  -- REVOKE [ADMIN OPTION FOR] name,.. FROM name,.. [by] [beh]
  revoke_roles : {roles gs : List NameBytes} {option_alone : Bool} {by : Option Grantor} {behaviour : Behaviour} {ws a b c d e f rest : List Word} → Token k.Revoke ws a
      → SpellsOptionFor k.Admin option_alone a b → SpellsIdentifiers roles b c → Token k.From c d → SpellsIdentifiers gs d e → SpellsGrantedBy by e f → SpellsBehaviour behaviour f rest
      → SpellsStatement most (statements.RevokeRoles (record { option_alone = option_alone; roles = roles; grantees = gs; grantor = by; behaviour = behaviour })) ws rest
  -- SELECT ('*' | name,..) FROM INFORMATION_SCHEMA . name [WHERE test {AND test}]
  select : {query : InfoQuery} {ws rest : List Word} → SpellsInfoQuery query ws rest → SpellsStatement most (statements.Select query) ws rest

-- the words are those of the statement, and at most 64 brackets are open at one of them
abbrev pub Grammar : List Word → Statement → Type 0
Grammar words s = SpellsStatement 64 s words []
