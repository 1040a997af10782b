-- What the tests of a statement and the grammar give of the constraints of a table.
use Rattle.std.specs.Prelude.{◌≡◌, ◌<◌, true, List, Some, length}
use Rattle.std.specs.List.{Contains}
use Rattle.sql_names.specs.declared.object.Object.{Object}
use Rattle.sql_tree.specs.declared.table.TableConstraintKind.{TableConstraintKind}
use Rattle.sql_tree.specs.declared.table.TableConstraintKind.TheVariants as kinds
use Rattle.cat_items.specs.declared.edit.Edit.{Edit}
use Rattle.cat_items.specs.declared.item.Item.{Item}
use Rattle.cat_items.specs.declared.item.Item.TheVariants as item
use Rattle.cat_items.specs.declared.item.Key.{Key}
use Rattle.cat_items.specs.Pieces.{AreFormed, expr_pieces}
use Rattle.cat_items.specs.Reach.{Has}
use Rattle.cat_items.specs.Shape.{Differ}
use Rattle.edit_rules.specs.Names.{IsConstraint}
use Rattle.edit_laws.specs.Proper.{IsLeft}
use Rattle.table_names.specs.declared.named.NamedConstraint.{NamedConstraint}
use Rattle.table_work.specs.declared.work.Work.{Work}
use Rattle.table_work.specs.Keys.{beside, own_key}
use Rattle.table_work.specs.Seen.{keys_seen}

-- lists name a column and none twice; a condition has texts, numbers and types of their forms
abbrev pub HasForms : TableConstraintKind → Type 0
HasForms (kinds.PrimaryKey columns) = (0 < length columns) × Differ columns
HasForms (kinds.Unique columns) = (0 < length columns) × Differ columns
HasForms (kinds.ForeignKey columns references) = (0 < length columns) × Differ columns × Differ references.columns
HasForms (kinds.Check condition) = AreFormed (expr_pieces condition)

-- the keys that are seen are of their tables, and the edit leaves them
abbrev pub SeesKeysThatAreLeft : List Item → Edit → Work → Type 0
SeesKeysThatAreLeft c edit w = (t : Object) (k : Key) → Contains (keys_seen c w t) k → (k.table ≡ t) × IsLeft c edit (item.Key k)

pub record AreTested (c : List Item) (w : Work) (named : List NamedConstraint) (edit : Edit) : Type 0 where
  -- no constraint and no assertion of the catalogue has one of their names
  pub free : (n : NamedConstraint) → Contains named n → ¬ (Has c (IsConstraint (beside w.table n.name)))
  pub forms : (n : NamedConstraint) → Contains named n → HasForms n.kind
  pub own_names : (n m : NamedConstraint) → Contains named n → Contains named m → n.name ≡ m.name → n ≡ m
  pub keys : SeesKeysThatAreLeft c edit w
  pub key_lists : (t : Object) (k : Key) → Contains (keys_seen c w t) k → Differ k.columns
  -- where one is a primary key, no other key that the edit leaves is one of the table
  pub primary : (n : NamedConstraint) → Contains named n → (k : Key) → own_key w.table n ≡ Some k → k.primary ≡ true
      → (other : Key) → IsLeft c edit (item.Key other) → other.table ≡ w.table → other.primary ≡ true → other.name ≡ k.name
