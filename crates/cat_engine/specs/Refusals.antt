-- Why a text is refused: the first test that refuses, in the order in which they are made.
use Rattle.std.specs.Prelude.{◌≡◌, false, ℕ, List, [], ◌∷◌, Option, Some, None}
use Rattle.std.specs.Option.{unwrap_or}
use Rattle.sql_names.specs.NameBytes.{NameBytes}
use Rattle.sql_tree.specs.declared.statement.Connect.{Connect as ConnectParts}
use Rattle.sql_tree.specs.declared.statement.RoleChoice.{RoleChoice}
use Rattle.sql_tree.specs.declared.statement.RoleChoice.TheVariants.{Literal, Identifier, NoRole}
use Rattle.sql_tree.specs.declared.statement.Statement.{Statement}
use Rattle.sql_tree.specs.declared.statement.InfoQuery.{InfoQuery}
use Rattle.sql_tree.specs.declared.statement.Statement.TheVariants.{Connect, SetConnection, Disconnect, Select, SetSchema, SetRole}
use Rattle.cat_items.specs.declared.edit.Refusal.{Refusal}
use Rattle.cat_items.specs.declared.edit.Refusal.TheVariants.{InvalidRole, TypeMismatch, UnknownName}
use Rattle.cat_items.specs.declared.edit.Who.{Who}
use Rattle.cat_items.specs.declared.item.Item.{Item}
use Rattle.cat_items.specs.declared.limits.Limits.{Limits}
use Rattle.cat_items.specs.declared.need.Auth.TheVariants.{Named}
use Rattle.cat_items.specs.Reach.{Has, Reaches}
use Rattle.cat_items.specs.Rights.{IsRole}
use Rattle.edit_rules.specs.First.{First}
use Rattle.information_schema.specs.Queries.{refusal as refusal_of_query}
use Rattle.information_schema.specs.declared.answers.InfoError.{InfoError}
use Rattle.information_schema.specs.declared.answers.InfoError.TheVariants as info
use Rattle.catalogue_edits.specs.Revisions.{revision_refusals}
use Rattle.cat_engine.specs.ConnectionRefusals.{no_such_connection, not_connected, connection_in_use, unknown_user}
use Rattle.cat_engine.specs.Contents.{Content}
use Rattle.cat_engine.specs.Sessions.{who_of}
use Rattle.cat_engine.specs.WordRefusals.{Reads, bad_token, not_in_profile, syntax_error}
use Rattle.cat_engine.specs.declared.session.Session.{Session}

-- a test by whom the session's current connection is for
abbrev pub for_current : List (ℕ × Session) → ℕ → (Who → Refusal → Type 0) → Refusal → Type 0
for_current sessions number test refusal = (who : Who) × (who_of sessions number ≡ Some who) × test who refusal

-- the name of the connection that CONNECT makes: its own, else that of the server
abbrev pub connection_name : ConnectParts → NameBytes
connection_name connect = unwrap_or connect.connection connect.server

-- the role that SET ROLE names; NONE names none
abbrev pub role_chosen : RoleChoice → Option NameBytes
role_chosen (Literal name) = Some name
role_chosen (Identifier name) = Some name
role_chosen NoRole = None

-- no role, or a role that the user reaches
abbrev pub MayBeRole : List Item → Who → Option NameBytes → Type 0
MayBeRole c who None = Unit {0}
MayBeRole c who (Some role) = Has c (IsRole role) × Reaches c (Named who.user) (Named role)

abbrev pub invalid_role : List Item → Who → Option NameBytes → Refusal → Type 0
invalid_role c who role refusal = (¬ (MayBeRole c who role)) × (refusal ≡ InvalidRole false)

-- the tests of SET ROLE, in their order
abbrev pub set_role_refusals : ℕ → Content → RoleChoice → List (Refusal → Type 0)
set_role_refusals number old choice = not_connected old.sessions number ∷ for_current old.sessions number (λ who. invalid_role old.catalogue who (role_chosen choice)) ∷ []

-- what is told where there is no answer
abbrev pub IsTold : InfoError → Refusal → Type 0
IsTold (info.UnknownName path) refusal = refusal ≡ UnknownName path
IsTold info.TypeMismatch refusal = refusal ≡ TypeMismatch
IsTold info.Memory refusal = ⊥

-- a name of the query doesn't stand in the Information Schema, or a column is compared with a value of another sort
abbrev pub unanswered : InfoQuery → Refusal → Type 0
unanswered query refusal = (error : InfoError) × (refusal_of_query query ≡ Some error) × IsTold error refusal

-- the tests of SELECT, in their order
abbrev pub select_refusals : ℕ → Content → InfoQuery → List (Refusal → Type 0)
select_refusals number old query = not_connected old.sessions number ∷ unanswered query ∷ []

-- the tests of a statement that edits the catalogue, in their order
abbrev pub session_edit_refusals : Limits → ℕ → Content → Statement → List (Refusal → Type 0)
session_edit_refusals limits number old statement =
    not_connected old.sessions number
    ∷ for_current old.sessions number (λ who. First (revision_refusals limits old.catalogue who statement))
    ∷ []

-- the tests of a statement, in their order
abbrev pub statement_refusals : Limits → ℕ → Content → Statement → List (Refusal → Type 0)
statement_refusals limits number old (Connect c) = connection_in_use old.sessions number (connection_name c) ∷ unknown_user old.catalogue c.user ∷ []
statement_refusals limits number old (SetConnection name) = no_such_connection old.sessions number name ∷ []
statement_refusals limits number old (Disconnect name) = no_such_connection old.sessions number name ∷ []
statement_refusals limits number old (SetSchema name) = not_connected old.sessions number ∷ []
statement_refusals limits number old (SetRole choice) = set_role_refusals number old choice
statement_refusals limits number old (Select query) = select_refusals number old query
statement_refusals limits number old statement = session_edit_refusals limits number old statement

-- a test of the statement that the text is
abbrev pub for_statement : List ℕ → (Statement → Refusal → Type 0) → Refusal → Type 0
for_statement text test refusal = (statement : Statement) × Reads text statement × test statement refusal

-- the tests of a text, in their order
abbrev pub text_refusals : Limits → ℕ → Content → List ℕ → List (Refusal → Type 0)
text_refusals limits number old text =
    bad_token text ∷ not_in_profile text ∷ syntax_error text ∷ for_statement text (λ statement. First (statement_refusals limits number old statement)) ∷ []
