-- What an edit must be, kind by kind, so that it leaves a good catalogue good.
use Rattle.std.specs.Prelude.{◌≡◌, ◌≢◌, ◌↔◌, ◌⊎◌, ℕ, List, ◌∷◌, Option, Some, None, true}
use Rattle.std.specs.List.{Contains}
use Rattle.std.specs.declared.cmp.Ordering.TheVariants.{Equal}
use Rattle.finite_chains.specs.Chains.{IsWithin}
use Rattle.sql_names.specs.declared.object.Object.{Object}
use Rattle.sql_names.specs.declared.sort.SqlType.{SqlType}
use Rattle.cat_items.specs.declared.edit.Edit.{Edit}
use Rattle.cat_items.specs.declared.item.Column.{Column}
use Rattle.cat_items.specs.declared.item.Domain.{Domain}
use Rattle.cat_items.specs.declared.item.Foreign.{Foreign}
use Rattle.cat_items.specs.declared.item.Key.{Key}
use Rattle.cat_items.specs.declared.item.Item.{Item}
use Rattle.cat_items.specs.declared.item.Item.TheVariants as item
use Rattle.cat_items.specs.Catalogues.{IsInOrder}
use Rattle.cat_items.specs.Edits.{IsEdited}
use Rattle.cat_items.specs.Fit.{IsRight, IsSystemRightGone}
use Rattle.cat_items.specs.Reach.{Has}
use Rattle.cat_items.specs.Rights.{path_of, IsBaseTable, IsSchema, IsTable, IsRoutine}
use Rattle.cat_items.specs.Shape.{NameSet, name_of, HasAllowedName, HasDerivedFields, HasProperLists, IsWellFormed, IsColumnOf}
use Rattle.cat_items.specs.Supported.{IsKey}
use Rattle.edit_laws.specs.Columns.{KeepsViewColumns}
use Rattle.edit_laws.specs.Kinds.{IsKept}

-- an item that the edit leaves: one that it keeps, or one that it adds
abbrev pub IsLeft : List Item → Edit → Item → Type 0
IsLeft c edit x = IsKept c edit x ⊎ Contains edit.added x

-- some item that it leaves is so
abbrev pub Leaves : List Item → Edit → (Item → Type 0) → Type 0
Leaves c edit P = (y : Item) × IsLeft c edit y × P y

-- what is asked of an item by itself: its fields follow from its tree, its names are allowed, its lists and its tree are of their forms
pub record IsProperItem (x : Item) : Type 0 where
  pub allowed : HasAllowedName x
  pub derived : HasDerivedFields x
  pub lists : HasProperLists x
  pub trees : IsWellFormed x

-- the domain of this name and type
abbrev pub IsDomainOfType : Object → SqlType → Item → Type 0
IsDomainOfType name sort (item.Domain d) = (d.domain ≡ name) × (d.sort ≡ sort)
IsDomainOfType name sort x = ⊥

-- the key that a foreign key is bound to: one of its target, with the target columns as a set
abbrev pub IsKeyFor : Foreign → Item → Type 0
IsKeyFor f (item.Key k) = (k.name ≡ f.key) × (k.table ≡ f.target) × ((name : List ℕ) → Contains k.columns name ↔ Contains f.target_columns name)
IsKeyFor f x = ⊥

-- a column that is based on a domain is one of a base table, and has the type of the domain
abbrev pub FitsDomain : List Item → Edit → Column → Option Object → Type 0
FitsDomain c edit x None = Unit {0}
FitsDomain c edit x (Some domain) = Leaves c edit (IsBaseTable x.table) × Leaves c edit (IsDomainOfType domain x.sort)

-- where it is a primary key, no other key of its table is one
abbrev pub IsOnlyPrimary : List Item → Edit → Key → Type 0
IsOnlyPrimary c edit k = k.primary ≡ true → (other : Key) → IsLeft c edit (item.Key other) → other.table ≡ k.table → other.primary ≡ true → other.name ≡ k.name

-- what is asked of an added item beside others: of a role authorization it is asked elsewhere
abbrev pub IsProperBeside : List Item → Edit → Item → Type 0
IsProperBeside c edit (item.User n) = Unit {0}
IsProperBeside c edit (item.Role n) = Unit {0}
IsProperBeside c edit (item.Schema s) = ¬ (Has c (IsSchema s.name))
IsProperBeside c edit (item.Table t) = Unit {0}
IsProperBeside c edit (item.View v) = (¬ (Has c (IsTable (path_of v.view)))) × Leaves c edit (IsColumnOf v.view)
IsProperBeside c edit (item.Column x) = FitsDomain c edit x x.domain × ((old : Column) → IsKept c edit (item.Column old) → old.table ≡ x.table → old.place ≡ x.place → ⊥)
IsProperBeside c edit (item.Domain d) = (old : Domain) → Contains c (item.Domain old) → old.domain ≡ d.domain → old.sort ≡ d.sort
IsProperBeside c edit (item.DomainCheck d) = Unit {0}
IsProperBeside c edit (item.Key k) = (¬ (Has c (IsKey k.name))) × IsOnlyPrimary c edit k
IsProperBeside c edit (item.Foreign f) = Leaves c edit (IsKeyFor f)
IsProperBeside c edit (item.Check x) = Unit {0}
IsProperBeside c edit (item.Assertion a) = Unit {0}
IsProperBeside c edit (item.Routine r) = ¬ (Has c (IsRoutine (path_of r.routine)))
IsProperBeside c edit (item.RoleAuth g) = ⊥
IsProperBeside c edit (item.RoleAdmin g) = Unit {0}
IsProperBeside c edit (item.Held r) = Unit {0}
IsProperBeside c edit (item.Grantable r) = Unit {0}

-- no item that the edit leaves has the name of another one that it adds
abbrev pub HaveOwnNames : List Item → Edit → Type 0
HaveOwnNames c edit = (x y : Item) (name : NameSet × List (List ℕ)) → Contains edit.added x → IsLeft c edit y → name_of x ≡ Some name → name_of y ≡ Some name → x ≡ y

-- an edit that can be made of a good catalogue
pub record IsProperEdit (c : List Item) (edit : Edit) : Type 0 where
  pub target_order : IsInOrder edit.target
  pub target : IsWithin edit.target c
  pub changed_order : IsInOrder edit.changed
  pub changed : IsWithin edit.changed c
  pub added_order : IsInOrder edit.added
  -- what is changed is neither destroyed nor added as it was, and is no right
  pub apart : (x : Item) → Contains edit.changed x → (¬ (Contains edit.target x)) × (¬ (Contains edit.added x)) × (¬ (IsRight x))
  pub gone : (edited : List Item) → IsEdited c edit edited → (x : Item) → Contains edit.target x → IsSystemRightGone edited x
  pub names : HaveOwnNames c edit
  pub items : (x : Item) → Contains edit.added x → IsProperItem x
  pub beside : (x : Item) → Contains edit.added x → IsProperBeside c edit x
  pub views : KeepsViewColumns c edit
