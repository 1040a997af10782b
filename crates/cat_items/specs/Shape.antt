-- What holds of the items of each catalogue, whoever has which right.
use Rattle.std.specs.Prelude.{◌≡◌, ◌≢◌, ◌↔◌, ◌<◌, List, [], ◌∷◌, Option, Some, None, length, codes, map, true}
use Rattle.std.specs.List.{Contains, AllPairs}
use Rattle.std.specs.declared.cmp.Ordering.TheVariants.{Less}
use Rattle.sql_names.specs.NameBytes.{NameBytes, PathNames}
use Rattle.sql_names.specs.declared.object.Object.{Object}
use Rattle.sql_names.specs.declared.sort.SqlType.{SqlType}
use Rattle.sql_names.specs.declared.sort.Param.{Param}
use Rattle.sql_names.specs.declared.column.Reference.TheVariants.{Own}
use Rattle.sql_tree.specs.declared.expr.Expr.{Expr}
use Rattle.cat_items.specs.declared.item.Column.{Column}
use Rattle.cat_items.specs.declared.item.Domain.{Domain}
use Rattle.cat_items.specs.declared.item.Foreign.{Foreign}
use Rattle.cat_items.specs.declared.item.Key.{Key}
use Rattle.cat_items.specs.declared.item.View.{View}
use Rattle.cat_items.specs.declared.item.Item.{Item}
use Rattle.cat_items.specs.declared.item.Item.TheVariants as item
use Rattle.cat_items.specs.Order.{name_cmp}
use Rattle.cat_items.specs.Reach.{Has, Leads}
use Rattle.cat_items.specs.Rights.{path_of}
use Rattle.cat_items.specs.Needs.{AreNeeds, NeededByQuery, NeededByCondition, NeededByBody}
use Rattle.cat_items.specs.Pieces.{of_reference, AreResolved, expr_pieces, query_pieces, body_pieces, default_pieces, IsType}
use Rattle.cat_items.specs.Plain.{base_of, HasBase}

abbrev pub Differ : {X : Type 0} → List X → Type 0
Differ xs = AllPairs (λ a b. a ≢ b) xs

-- sets of names, in each of which names differ
pub data NameSet : Type 0 where
  authorizations : NameSet
  tables : NameSet
  columns : Object → NameSet
  constraints : NameSet
  domains : NameSet
  routines : NameSet

-- the name of an item, in its set
abbrev pub name_of : Item → Option (NameSet × PathNames)
name_of (item.User n) = Some (authorizations, n ∷ [])
name_of (item.Role n) = Some (authorizations, n ∷ [])
name_of (item.Table t) = Some (tables, path_of t)
name_of (item.View v) = Some (tables, path_of v.view)
name_of (item.Column c) = Some (columns c.table, c.name ∷ [])
name_of (item.Domain d) = Some (domains, path_of d.domain)
name_of (item.DomainCheck d) = Some (constraints, path_of d.name)
name_of (item.Key k) = Some (constraints, path_of k.name)
name_of (item.Foreign f) = Some (constraints, path_of f.name)
name_of (item.Check c) = Some (constraints, path_of c.name)
name_of (item.Assertion a) = Some (constraints, path_of a.name)
name_of (item.Routine r) = Some (routines, path_of r.routine)
name_of x = None

-- PUBLIC and _SYSTEM are no names of users and roles
abbrev pub IsAuthorizationName : NameBytes → Type 0
IsAuthorizationName name = (name ≢ codes "PUBLIC") × (name ≢ codes "_SYSTEM")

-- a constraint of a table is in the schema of its table
abbrev pub HasAllowedName : Item → Type 0
HasAllowedName (item.User n) = IsAuthorizationName n
HasAllowedName (item.Role n) = IsAuthorizationName n
HasAllowedName (item.Key k) = k.name.schema ≡ k.table.schema
HasAllowedName (item.Foreign f) = f.name.schema ≡ f.table.schema
HasAllowedName (item.Check c) = c.name.schema ≡ c.table.schema
HasAllowedName x = Unit {0}

-- the table's own columns that a condition uses, by bytes
pub record AreOwnColumns (table : Object) (condition : Expr) (columns : List NameBytes) : Type 0 where
  pub order : AllPairs (λ a b. name_cmp a b ≡ Less) columns
  pub members : (name : NameBytes) → Contains columns name ↔ Contains (expr_pieces condition) (of_reference (Own table name))

-- the fields that follow from the item's own tree
abbrev pub HasDerivedFields : Item → Type 0
HasDerivedFields (item.View v) = AreNeeds v.needs (NeededByQuery v.query) × HasBase (base_of v.query) v.base v.base_columns
HasDerivedFields (item.DomainCheck d) = AreNeeds d.needs (NeededByCondition d.cond)
HasDerivedFields (item.Check c) = AreNeeds c.needs (NeededByCondition c.cond) × AreOwnColumns c.table c.cond c.columns
HasDerivedFields (item.Assertion a) = AreNeeds a.needs (NeededByCondition a.cond)
HasDerivedFields (item.Routine r) = AreNeeds r.needs (NeededByBody r.routine r.body)
HasDerivedFields x = Unit {0}

-- keys name at least one column and none twice; parameters differ
abbrev pub HasProperLists : Item → Type 0
HasProperLists (item.Key k) = (0 < length k.columns) × Differ k.columns
HasProperLists (item.Foreign f) = (0 < length f.columns) × Differ f.columns × (length f.target_columns ≡ length f.columns) × Differ f.target_columns
HasProperLists (item.Routine r) = Differ (map (λ (p : Param). p.name) r.params)
HasProperLists x = Unit {0}

abbrev pub HasReturnType : Option SqlType → Type 0
HasReturnType None = Unit {0}
HasReturnType (Some sort) = IsType sort

abbrev pub HaveTypes : List Param → Type 0
HaveTypes params = (p : Param) → Contains params p → IsType p.sort

-- its tree is resolved, and its types, literals and numbers are of their forms
abbrev pub IsWellFormed : Item → Type 0
IsWellFormed (item.View v) = AreResolved (query_pieces v.query)
IsWellFormed (item.Column c) = IsType c.sort × AreResolved (default_pieces c.default)
IsWellFormed (item.Domain d) = IsType d.sort × AreResolved (default_pieces d.default)
IsWellFormed (item.DomainCheck d) = AreResolved (expr_pieces d.cond)
IsWellFormed (item.Check c) = AreResolved (expr_pieces c.cond)
IsWellFormed (item.Assertion a) = AreResolved (expr_pieces a.cond)
IsWellFormed (item.Routine r) = HaveTypes r.params × HasReturnType r.returns × AreResolved (body_pieces r.body)
IsWellFormed x = Unit {0}

-- a column of this table or view
abbrev pub IsColumnOf : Object → Item → Type 0
IsColumnOf table (item.Column c) = c.table ≡ table
IsColumnOf table x = ⊥

pub record HasShape (s : List Item) : Type 0 where
  pub names : (x y : Item) (name : NameSet × PathNames) → Contains s x → Contains s y → name_of x ≡ Some name → name_of y ≡ Some name → x ≡ y
  pub allowed : (x : Item) → Contains s x → HasAllowedName x
  pub derived : (x : Item) → Contains s x → HasDerivedFields x
  pub lists : (x : Item) → Contains s x → HasProperLists x
  -- the key that a foreign key is bound to is one of its target, with the target columns as a set
  pub keys : (f : Foreign) (k : Key) → Contains s (item.Foreign f) → Contains s (item.Key k) → k.name ≡ f.key → (k.table ≡ f.target) × ((name : NameBytes) → Contains k.columns name ↔ Contains f.target_columns name)
  -- a table has at most one primary key
  pub primary : (a b : Key) → Contains s (item.Key a) → Contains s (item.Key b) → a.table ≡ b.table → a.primary ≡ true → b.primary ≡ true → a ≡ b
  pub domains : (c : Column) (d : Domain) → Contains s (item.Column c) → Contains s (item.Domain d) → c.domain ≡ Some d.domain → c.sort ≡ d.sort
  pub view_columns : (v : View) → Contains s (item.View v) → Has s (IsColumnOf v.view)
  pub view_domains : (v : View) (c : Column) → Contains s (item.View v) → Contains s (item.Column c) → c.table ≡ v.view → c.domain ≡ None
  -- no role leads back to itself
  pub no_cycle : (name role : NameBytes) (roles : List NameBytes) → Leads s name (role ∷ roles) name → ⊥
  pub trees : (x : Item) → Contains s x → IsWellFormed x
