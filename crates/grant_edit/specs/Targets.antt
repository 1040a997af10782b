-- What GRANT and REVOKE of privileges name, and refusals by names that don't stand.
use Rattle.std.specs.Prelude.{◌≡◌, List, [], ◌∷◌, ◌++◌, Option, Some, None, map}
use Rattle.sql_names.specs.declared.object.Object.{Object}
use Rattle.sql_tree.specs.declared.rights.Grantee.{Grantee}
use Rattle.sql_tree.specs.declared.rights.Grantee.TheVariants as grantee
use Rattle.sql_tree.specs.declared.rights.Privilege.{Privilege}
use Rattle.sql_tree.specs.declared.rights.Privileges.{Privileges}
use Rattle.sql_tree.specs.declared.rights.Privileges.TheVariants.{All, Listed}
use Rattle.sql_tree.specs.declared.rights.TargetKind.{TargetKind}
use Rattle.sql_tree.specs.declared.rights.TargetKind.TheVariants as kinds
use Rattle.sql_names.specs.declared.sort.SqlType.{SqlType}
use Rattle.cat_items.specs.declared.edit.Refusal.{Refusal}
use Rattle.cat_items.specs.declared.edit.Refusal.TheVariants.{UnknownName}
use Rattle.cat_items.specs.declared.item.Item.{Item}
use Rattle.cat_items.specs.declared.item.Item.TheVariants as item
use Rattle.cat_items.specs.Reach.{Has}
use Rattle.cat_items.specs.Ranges.{IsDomainOf}
use Rattle.cat_items.specs.Rights.{path_of, IsTable}
use Rattle.edit_rules.specs.First.{tests_of}
use Rattle.edit_rules.specs.Names.{unknown_authorization, unknown_column}

-- FUNCTION names a routine that returns a value, PROCEDURE one that doesn't, ROUTINE either
abbrev pub IsKindOfRoutine : TargetKind → Option SqlType → Type 0
IsKindOfRoutine kinds.Function (Some sort) = Unit {0}
IsKindOfRoutine kinds.Procedure None = Unit {0}
IsKindOfRoutine kinds.Routine returns = Unit {0}
IsKindOfRoutine kind returns = ⊥

abbrev pub IsRoutineOfKind : TargetKind → Object → Item → Type 0
IsRoutineOfKind kind object (item.Routine r) = (r.routine ≡ object) × IsKindOfRoutine kind r.returns
IsRoutineOfKind kind object x = ⊥

-- the object that a target names: TABLE, which may be left out, names a base table or a view
abbrev pub IsTarget : TargetKind → Object → Item → Type 0
IsTarget kinds.Table object x = IsTable (path_of object) x
IsTarget kinds.Domain object x = IsDomainOf object x
IsTarget kinds.Function object x = IsRoutineOfKind kinds.Function object x
IsTarget kinds.Procedure object x = IsRoutineOfKind kinds.Procedure object x
IsTarget kinds.Routine object x = IsRoutineOfKind kinds.Routine object x

-- no object of this kind has the name
abbrev pub unknown_target_object : List Item → TargetKind → Object → Refusal → Type 0
unknown_target_object c kind object refusal = (¬ (Has c (IsTarget kind object))) × (refusal ≡ UnknownName (path_of object))

-- PUBLIC stands by itself; of another grantee no user and no role has the name
abbrev pub unknown_grantee : List Item → Grantee → Refusal → Type 0
unknown_grantee c grantee.Public refusal = ⊥
unknown_grantee c (grantee.Named name) refusal = unknown_authorization c name refusal

-- the columns of the lists, in reading order
abbrev pub unknown_listed_columns : List Item → Object → Privileges → List (Refusal → Type 0)
unknown_listed_columns c object All = []
unknown_listed_columns c object (Listed all) = tests_of (λ (p : Privilege). map (unknown_column c object) p.columns) all

-- the names of the statement in reading order: columns, target, grantees
abbrev pub unknown_names_of_rights : List Item → Object → Privileges → TargetKind → List Grantee → List (Refusal → Type 0)
unknown_names_of_rights c object privileges kind grantees = unknown_listed_columns c object privileges ++ unknown_target_object c kind object ∷ map (unknown_grantee c) grantees
