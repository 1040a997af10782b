-- DROP of an object: its refusals, and what it takes (drop statements, SQL:2003 part 2, 11.21, 11.23, 11.30, 11.38 and 11.52).
use Rattle.std.specs.Prelude.{◌≡◌, ◌⊎◌, List, [], ◌∷◌, IsNone, IsSome}
use Rattle.sql_names.specs.NameBytes.{PathNames}
use Rattle.sql_names.specs.declared.column.ObjectName.{ObjectName}
use Rattle.sql_names.specs.declared.object.Object.{Object}
use Rattle.sql_tree.specs.declared.rights.Action.{Action}
use Rattle.sql_tree.specs.declared.rights.Action.TheVariants.{Usage, Execute}
use Rattle.sql_tree.specs.declared.statement.DropKind.{DropKind}
use Rattle.sql_tree.specs.declared.statement.DropKind.TheVariants as kind
use Rattle.cat_items.specs.declared.edit.Edit.{Edit}
use Rattle.cat_items.specs.declared.edit.Refusal.{Refusal}
use Rattle.cat_items.specs.declared.edit.Refusal.TheVariants.{UnknownName}
use Rattle.cat_items.specs.declared.edit.Who.{Who}
use Rattle.cat_items.specs.declared.item.Item.{Item}
use Rattle.cat_items.specs.declared.item.Item.TheVariants as item
use Rattle.cat_items.specs.declared.ranges.ObjectKind.TheVariants as objects
use Rattle.cat_items.specs.Ranges.{IsDomainOf, IsObjectIn, IsRoutineOf, IsView}
use Rattle.cat_items.specs.Reach.{Has}
use Rattle.cat_items.specs.Rights.{path_of, IsBaseTable}
use Rattle.edit_rules.specs.Chosen.{IsTaking}
use Rattle.edit_rules.specs.Names.{object_in}
use Rattle.edit_rules.specs.Owners.{not_owner}
use Rattle.chosen_parts.specs.Tables.{IsTableAction}

-- ---- what is named

abbrev pub IsAssertion : Object → Item → Type 0
IsAssertion o (item.Assertion a) = a.name ≡ o
IsAssertion o x = ⊥

-- a function has a type that it returns, a procedure has none
abbrev pub IsFunction : Object → Item → Type 0
IsFunction o (item.Routine r) = (r.routine ≡ o) × IsSome r.returns
IsFunction o x = ⊥

abbrev pub IsProcedure : Object → Item → Type 0
IsProcedure o (item.Routine r) = (r.routine ≡ o) × IsNone r.returns
IsProcedure o x = ⊥

-- the object that DROP names: TABLE a base table, ROUTINE a function or a procedure
abbrev pub IsNamedBy : DropKind → Object → Item → Type 0
IsNamedBy kind.Table o x = IsBaseTable o x
IsNamedBy kind.View o x = IsView o x
IsNamedBy kind.Domain o x = IsDomainOf o x
IsNamedBy kind.Assertion o x = IsAssertion o x
IsNamedBy kind.Function o x = IsFunction o x
IsNamedBy kind.Procedure o x = IsProcedure o x
IsNamedBy kind.Routine o x = IsRoutineOf o x

-- an item of its name, or an assertion of its schema: where it stands in the order of a catalogue
abbrev pub IsBeside : DropKind → Object → Item → Type 0
IsBeside kind.Table o x = IsBaseTable o x
IsBeside kind.View o x = IsView o x
IsBeside kind.Domain o x = IsDomainOf o x
IsBeside kind.Assertion o x = IsObjectIn objects.Assertion o.schema x
IsBeside kind.Function o x = IsRoutineOf o x
IsBeside kind.Procedure o x = IsRoutineOf o x
IsBeside kind.Routine o x = IsRoutineOf o x

-- ---- refusals

-- no object of this kind has the name, though one of another kind may
abbrev pub unknown_object : List Item → DropKind → Object → Refusal → Type 0
unknown_object c k o refusal = (¬ (Has c (IsNamedBy k o))) × (refusal ≡ UnknownName (path_of o))

abbrev pub refusals_by_object : List Item → Who → DropKind → Object → List (Refusal → Type 0)
refusals_by_object c who k o = unknown_object c k o ∷ not_owner c who o.schema ∷ []

-- an object without a schema is one of the session's schema
abbrev pub drop_object_refusals : List Item → Who → DropKind → ObjectName → List (Refusal → Type 0)
drop_object_refusals c who k name = refusals_by_object c who k (object_in who.schema name)

-- ---- what goes with it

-- a base table or a view, its columns and its constraints
abbrev pub IsPartOfTable : Object → Item → Type 0
IsPartOfTable o (item.Table t) = t ≡ o
IsPartOfTable o (item.View v) = v.view ≡ o
IsPartOfTable o (item.Column x) = x.table ≡ o
IsPartOfTable o (item.Key k) = k.table ≡ o
IsPartOfTable o (item.Foreign f) = f.table ≡ o
IsPartOfTable o (item.Check x) = x.table ≡ o
IsPartOfTable o x = ⊥

-- a domain and its checks
abbrev pub IsPartOfDomain : Object → Item → Type 0
IsPartOfDomain o (item.Domain d) = d.domain ≡ o
IsPartOfDomain o (item.DomainCheck x) = x.domain ≡ o
IsPartOfDomain o x = ⊥

abbrev pub IsPartOf : DropKind → Object → Item → Type 0
IsPartOf kind.Table o x = IsPartOfTable o x
IsPartOf kind.View o x = IsPartOfTable o x
IsPartOf kind.Domain o x = IsPartOfDomain o x
IsPartOf kind.Assertion o x = IsAssertion o x
IsPartOf kind.Function o x = IsRoutineOf o x
IsPartOf kind.Procedure o x = IsRoutineOf o x
IsPartOf kind.Routine o x = IsRoutineOf o x

-- the actions on objects of a kind
abbrev pub IsActionOn : DropKind → Action → Type 0
IsActionOn kind.Table action = IsTableAction action
IsActionOn kind.View action = IsTableAction action
IsActionOn kind.Domain action = action ≡ Usage
IsActionOn kind.Assertion action = ⊥
IsActionOn kind.Function action = action ≡ Execute
IsActionOn kind.Procedure action = action ≡ Execute
IsActionOn kind.Routine action = action ≡ Execute

-- a privilege on the object of this kind and path, or on one of its columns
abbrev pub IsRightOn : DropKind → PathNames → Item → Type 0
IsRightOn k path (item.Held r) = IsActionOn k r.need.action × (r.need.on ≡ path)
IsRightOn k path (item.Grantable r) = IsActionOn k r.need.action × (r.need.on ≡ path)
IsRightOn k path x = ⊥

-- an object goes with its parts and with the privileges on it
abbrev pub GoesWith : DropKind → Object → Item → Type 0
GoesWith k o x = IsPartOf k o x ⊎ IsRightOn k (path_of o) x

-- these are taken, and nothing else is done
abbrev pub IsObjectDrop : List Item → DropKind → Object → Edit → Type 0
IsObjectDrop c k o edit = IsTaking c (GoesWith k o) edit
