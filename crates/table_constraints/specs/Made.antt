-- The descriptor that a constraint makes: a key, a foreign key or a check (SQL:2003 part 2, 11.6 to 11.9).
use Rattle.std.specs.Prelude.{◌≡◌, List, Some, Ok}
use Rattle.std.specs.List.{Any}
use Rattle.sql_names.specs.NameBytes.{NameBytes}
use Rattle.sql_tree.specs.declared.expr.Expr.{Expr}
use Rattle.sql_tree.specs.declared.table.TableConstraintKind.{TableConstraintKind}
use Rattle.sql_tree.specs.declared.table.TableConstraintKind.TheVariants as kinds
use Rattle.cat_items.specs.declared.edit.Who.{Who}
use Rattle.cat_items.specs.declared.item.Check.{Check}
use Rattle.cat_items.specs.declared.item.Foreign.{Foreign}
use Rattle.cat_items.specs.declared.item.Item.{Item}
use Rattle.cat_items.specs.declared.item.Item.TheVariants as item
use Rattle.cat_items.specs.Needs.{AreNeeds, NeededByCondition}
use Rattle.cat_items.specs.Shape.{AreOwnColumns}
use Rattle.query_types.specs.declared.whole.TypedExpr.{TypedExpr}
use Rattle.table_names.specs.declared.named.NamedConstraint.{NamedConstraint}
use Rattle.table_work.specs.declared.work.Work.{Work}
use Rattle.table_work.specs.Keys.{beside, own_key}
use Rattle.table_types.specs.ForeignKeys.{IsForeignOf}
use Rattle.table_elements.specs.Conditions.{outcome_of}

abbrev pub MakesForeign : List Item → Who → Work → NameBytes → TableConstraintKind → Foreign → Type 0
MakesForeign c who w name (kinds.ForeignKey columns references) f = IsForeignOf c who w name columns references f
MakesForeign c who w name kind f = ⊥

-- a check of the table with its resolved condition, the privileges that this needs, and the own columns that it names
pub record IsCheckOf (c : List Item) (who : Who) (w : Work) (name : NameBytes) (condition : Expr) (x : Check) : Type 0 where
  pub typed : TypedExpr
  pub resolved : outcome_of c who w condition ≡ Ok typed
  pub called : x.name ≡ beside w.table name
  pub table_is : x.table ≡ w.table
  pub condition_is : x.cond ≡ typed.expr
  pub needs : AreNeeds x.needs (NeededByCondition typed.expr)
  pub columns : AreOwnColumns w.table typed.expr x.columns

abbrev pub MakesCheck : List Item → Who → Work → NameBytes → TableConstraintKind → Check → Type 0
MakesCheck c who w name (kinds.Check condition) x = IsCheckOf c who w name condition x
MakesCheck c who w name kind x = ⊥

abbrev pub MakesConstraint : List Item → Who → Work → Item → NamedConstraint → Type 0
MakesConstraint c who w (item.Key k) n = own_key w.table n ≡ Some k
MakesConstraint c who w (item.Foreign f) n = MakesForeign c who w n.name n.kind f
MakesConstraint c who w (item.Check x) n = MakesCheck c who w n.name n.kind x
MakesConstraint c who w x n = ⊥

-- what one of these constraints makes
abbrev pub IsConstraintMade : List Item → Who → Work → List NamedConstraint → Item → Type 0
IsConstraintMade c who w named x = Any (MakesConstraint c who w x) named
