-- What is known of a table between its tests and its edit.
use Rattle.std.specs.Prelude.{◌↔◌, List, [], Option}
use Rattle.std.specs.List.{Contains}
use Rattle.sql_names.specs.declared.object.Object.{Object}
use Rattle.cat_items.specs.declared.edit.Who.{Who}
use Rattle.cat_items.specs.declared.item.Item.{Item}
use Rattle.cat_items.specs.declared.need.Need.{Need}
use Rattle.view_deps.specs.declared.resolve.ResolvedExpr.{ResolvedExpr}
use Rattle.table_parts.specs.declared.parts.Part.{Part}
use Rattle.table_parts.specs.Parts.{constraints_of}
use Rattle.table_names.specs.declared.named.NamedConstraint.{NamedConstraint}
use Rattle.table_names.specs.Named.{AreConstraints}
use Rattle.table_needs.specs.Needs.{IsNeeded}
use Rattle.table_elements.specs.Found.{AreFoundOf}
use Rattle.table_creation.specs.Tables.{IsNewConstraint, work_with}

-- what the conditions of its checks come to
abbrev pub AreFoundIn : List Item → Who → Object → List Part → List (Option ResolvedExpr) → Type 0
AreFoundIn c who table all found = AreFoundOf c who (work_with c who table all []) (constraints_of all) found

-- the constraints that are made, with their names, and the privileges that all of it needs
pub record AreMadeFor (c : List Item) (who : Who) (table : Object) (all : List Part) (items : List Item) (needs : List Need) : Type 0 where
  pub named : List NamedConstraint
  pub are : AreConstraints c table all named
  pub made : (x : Item) → Contains items x ↔ IsNewConstraint c who table all named x
  pub needed : (need : Need) → Contains needs need ↔ IsNeeded who table all (IsNewConstraint c who table all named) need
