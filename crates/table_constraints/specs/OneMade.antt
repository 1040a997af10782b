-- What one constraint makes, where its condition is found.
use Rattle.std.specs.Prelude.{◌≡◌, ◌↔◌, List, Option, None, Some}
use Rattle.sql_names.specs.NameBytes.{NameBytes}
use Rattle.sql_names.specs.declared.object.Object.{Object}
use Rattle.cat_items.specs.declared.edit.Refusal.{Refusal}
use Rattle.cat_items.specs.declared.edit.Refusal.TheVariants.{NoSuchKey}
use Rattle.cat_items.specs.declared.edit.Who.{Who}
use Rattle.cat_items.specs.declared.item.Check.{Check}
use Rattle.cat_items.specs.declared.item.Item.{Item}
use Rattle.cat_items.specs.declared.item.Item.TheVariants as item
use Rattle.cat_items.specs.declared.item.Key.{Key}
use Rattle.cat_items.specs.Shape.{AreOwnColumns}
use Rattle.view_deps.specs.declared.resolve.ResolvedExpr.{ResolvedExpr}
use Rattle.statement_steps.specs.Steps.{where_it_is}
use Rattle.table_names.specs.declared.named.NamedConstraint.{NamedConstraint}
use Rattle.table_work.specs.declared.work.Work.{Work}
use Rattle.table_work.specs.Keys.{beside}
use Rattle.table_constraints.specs.Made.{MakesConstraint}
use Rattle.table_constraints.specs.Rules.{IsUnbound}

-- a foreign key for whose columns no key is there
abbrev pub unbound : List Item → Who → Work → NamedConstraint → Refusal → Type 0
unbound c who w n = where_it_is (IsUnbound c who w n) NoSuchKey

-- the only item that a constraint makes, if it makes one
abbrev pub IsOnlyMade : List Item → Who → Work → NamedConstraint → Option Item → Type 0
IsOnlyMade c who w n made = (x : Item) → (made ≡ Some x) ↔ MakesConstraint c who w x n

abbrev pub key_item : Option Key → Option Item
key_item None = None
key_item (Some k) = Some (item.Key k)

-- the check of a table with this name and condition
pub record IsCheckBy (table : Object) (name : NameBytes) (r : ResolvedExpr) (x : Check) : Type 0 where
  pub called : x.name ≡ beside table name
  pub table_is : x.table ≡ table
  pub condition_is : x.cond ≡ r.expr
  pub needs : x.needs ≡ r.needs
  pub columns : AreOwnColumns table r.expr x.columns

-- none where the condition has no type
abbrev pub IsCheckItem : Object → NameBytes → Option ResolvedExpr → Option Item → Type 0
IsCheckItem table name (Some r) (Some (item.Check x)) = IsCheckBy table name r x
IsCheckItem table name None None = Unit {0}
IsCheckItem table name f made = ⊥
