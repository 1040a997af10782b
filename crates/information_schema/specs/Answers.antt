-- The answer to a SELECT from a view of the Information Schema.
use Rattle.std.specs.Prelude.{◌≡◌, List, Option, Some, None, Result, Ok, Err}
use Rattle.cat_items.specs.declared.edit.Who.{Who}
use Rattle.cat_items.specs.declared.item.Item.{Item}
use Rattle.role_graph.specs.Roles.{AreNames, IsEnabled}
use Rattle.sql_tree.specs.declared.statement.InfoQuery.{InfoQuery}
use Rattle.schema_tables.specs.Cells.{Row}
use Rattle.schema_tables.specs.Listings.{AreRows}
use Rattle.schema_tables.specs.Sight.{Session, IsShown}
use Rattle.schema_tables.specs.TableRows.{HasRow}
use Rattle.information_schema.specs.Views.{View, view_named}
use Rattle.information_schema.specs.Queries.{selected}
use Rattle.information_schema.specs.declared.answers.InfoError.{InfoError}
use Rattle.information_schema.specs.declared.answers.InfoError.TheVariants.{Memory}

-- a refusal is this one; want of memory alone is free; else the value is so
abbrev pub Answers : {T : Type 0} → Result T InfoError → Option InfoError → (T → Type 0) → Type 0
Answers (Ok x) refusal P = (refusal ≡ None) × P x
Answers (Err Memory) refusal P = Unit {0}
Answers (Err e) refusal P = refusal ≡ Some e

-- for whom a session looks: its user, and its enabled roles
abbrev pub IsSession : List Item → Who → Session → Type 0
IsSession c who s = (s.user ≡ who.user) × AreNames s.enabled (IsEnabled c who.user who.role)

-- the rows of the view, of what is shown to the session, and of these what the query selects
abbrev pub IsAnswer : List Item → Session → InfoQuery → List Row → Type 0
IsAnswer c s q rows = (v : View) × (all : List Row) × (view_named q.view ≡ Some v) × AreRows (HasRow (IsShown c (Some s)) v.table) all × (rows ≡ selected v.columns q all)

abbrev pub IsAnswerFor : List Item → Who → InfoQuery → List Row → Type 0
IsAnswerFor c who q rows = (s : Session) × IsSession c who s × IsAnswer c s q rows
