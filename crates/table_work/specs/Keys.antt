-- Keys of the table that is made, and which key REFERENCES means (referential constraint definition, SQL:2003 part 2, 11.8).
use Rattle.std.specs.Prelude.{◌≡◌, ◌≢◌, ◌↔◌, true, false, List, [], ◌∷◌, ◌++◌, Option, None, Some, length}
use Rattle.std.specs.List.{Contains, filter_map}
use Rattle.std.specs.declared.cmp.Ordering.TheVariants.{Less}
use Rattle.sql_names.specs.NameBytes.{NameBytes}
use Rattle.sql_names.specs.declared.object.Object.{Object}
use Rattle.sql_tree.specs.declared.table.TableConstraintKind.{TableConstraintKind}
use Rattle.sql_tree.specs.declared.table.TableConstraintKind.TheVariants as kinds
use Rattle.cat_items.specs.declared.item.Key.{Key}
use Rattle.cat_items.specs.Order.{object_cmp}
use Rattle.table_names.specs.declared.named.NamedConstraint.{NamedConstraint}

-- the name of a constraint, which is in the schema of its table
abbrev pub beside : Object → NameBytes → Object
beside table name = record { schema = table.schema; name = name }

-- the key that a constraint of a table makes
abbrev pub key_named : Object → NameBytes → TableConstraintKind → Option Key
key_named table name (kinds.PrimaryKey columns) = Some (record { name = beside table name; table = table; primary = true; columns = columns })
key_named table name (kinds.Unique columns) = Some (record { name = beside table name; table = table; primary = false; columns = columns })
key_named table name kind = None

abbrev pub own_key : Object → NamedConstraint → Option Key
own_key table n = key_named table n.name n.kind

abbrev pub own_keys : Object → List NamedConstraint → List Key
own_keys table named = filter_map (own_key table) named

-- where no column is written the primary key is meant, else a key with these columns, in whatever order
abbrev pub FitsColumns : List NameBytes → Key → Type 0
FitsColumns [] k = k.primary ≡ true
FitsColumns (name ∷ names) k = (column : NameBytes) → Contains k.columns column ↔ Contains (name ∷ names) column

-- the least key by its name that fits; of keys of one name the first
pub record IsMeant (keys : List Key) (columns : List NameBytes) (k : Key) : Type 0 where
  pub before : List Key
  pub after : List Key
  pub parts : keys ≡ before ++ (k ∷ after)
  pub fits : FitsColumns columns k
  pub earlier : (other : Key) → Contains before other → FitsColumns columns other → object_cmp k.name other.name ≡ Less
  pub later : (other : Key) → Contains after other → FitsColumns columns other → object_cmp other.name k.name ≢ Less

-- it comes before the other one, if there is another
abbrev pub IsBefore : Key → Option Key → Type 0
IsBefore k None = Unit {0}
IsBefore k (Some other) = object_cmp k.name other.name ≡ Less

-- the columns that are written, or those of the key that is meant
abbrev pub columns_meant : List NameBytes → Key → List NameBytes
columns_meant [] k = k.columns
columns_meant (name ∷ names) k = name ∷ names

-- a foreign key of some columns is bound to the key that is meant, where that one has as many
pub record IsBound (keys : List Key) (columns written : List NameBytes) (k : Key) : Type 0 where
  pub meant : IsMeant keys written k
  pub count : length (columns_meant written k) ≡ length columns
