-- Forms of edits: what is added has a free name or stands in the place of what is taken, and views go whole.
use Rattle.std.specs.Prelude.{◌≡◌, ◌≢◌, ◌⊎◌, ℕ, List, ◌∷◌, Some}
use Rattle.std.specs.List.{Contains}
use Rattle.sql_names.specs.declared.object.Object.{Object}
use Rattle.cat_items.specs.declared.edit.Edit.{Edit}
use Rattle.cat_items.specs.declared.item.Column.{Column}
use Rattle.cat_items.specs.declared.item.Right.{Right}
use Rattle.cat_items.specs.declared.item.Item.{Item}
use Rattle.cat_items.specs.declared.item.Item.TheVariants as item
use Rattle.cat_items.specs.Catalogues.{IsInOrder}
use Rattle.cat_items.specs.Reach.{Has}
use Rattle.cat_items.specs.Rights.{path_of, IsAuthorization, IsBaseTable, IsTable, IsDomain, IsRoutine, IsColumn}
use Rattle.cat_items.specs.Fit.{IsRight, LacksPart}
use Rattle.cat_items.specs.Edits.{IsEdited}
use Rattle.cat_items.specs.Shape.{NameSet, name_of}
use Rattle.finite_chains.specs.Chains.{IsWithin}
use Rattle.cat_items.specs.Ranges.{IsView}
use Rattle.edit_rules.specs.Names.{IsConstraint}
use Rattle.edit_laws.specs.Proper.{IsProperItem, IsProperBeside}

-- no item of the catalogue has its name
abbrev pub HasFreeName : List Item → Item → Type 0
HasFreeName c (item.User n) = ¬ (Has c (IsAuthorization n))
HasFreeName c (item.Role n) = ¬ (Has c (IsAuthorization n))
HasFreeName c (item.Table t) = ¬ (Has c (IsTable (path_of t)))
HasFreeName c (item.View v) = ¬ (Has c (IsTable (path_of v.view)))
HasFreeName c (item.Column x) = ¬ (Has c (IsColumn (path_of x.table) x.name))
HasFreeName c (item.Domain d) = ¬ (Has c (IsDomain (path_of d.domain)))
HasFreeName c (item.DomainCheck d) = ¬ (Has c (IsConstraint d.name))
HasFreeName c (item.Key k) = ¬ (Has c (IsConstraint k.name))
HasFreeName c (item.Foreign f) = ¬ (Has c (IsConstraint f.name))
HasFreeName c (item.Check x) = ¬ (Has c (IsConstraint x.name))
HasFreeName c (item.Assertion a) = ¬ (Has c (IsConstraint a.name))
HasFreeName c (item.Routine r) = ¬ (Has c (IsRoutine (path_of r.routine)))
HasFreeName c x = Unit {0}

-- the edit destroys it or changes it
abbrev pub IsTaken : Edit → Item → Type 0
IsTaken edit x = Contains edit.target x ⊎ Contains edit.changed x

-- an item of its name is taken
abbrev pub IsReplacement : List Item → Edit → Item → Type 0
IsReplacement c edit x = (old : Item) × Contains c old × IsTaken edit old × (name_of old ≡ name_of x)

abbrev pub HasOwnName : List Item → Edit → Item → Type 0
HasOwnName c edit x = HasFreeName c x ⊎ IsReplacement c edit x

-- no two of these have one name
abbrev pub NamesDiffer : List Item → Type 0
NamesDiffer items = (x y : Item) (name : NameSet × List (List ℕ)) → Contains items x → Contains items y → name_of x ≡ Some name → name_of y ≡ Some name → x ≡ y

-- no column of its table has its place, or the one that has it is taken
abbrev pub HasOwnPlace : List Item → Edit → Column → Type 0
HasOwnPlace c edit x = ((old : Column) → Contains c (item.Column old) → old.table ≡ x.table → old.place ≢ x.place)
    ⊎ ((old : Column) × Contains c (item.Column old) × IsTaken edit (item.Column old) × (old.table ≡ x.table) × (old.place ≡ x.place))

-- a column that is taken is one of a base table, or of a view that is destroyed too
abbrev pub TakesWholeViews : List Item → Edit → Type 0
TakesWholeViews c edit = (x : Column) → IsTaken edit (item.Column x) → Has c (IsBaseTable x.table) ⊎ Has edit.target (IsView x.table)

-- what a right, held or with grant option, says
abbrev pub SaysOf : (Right → Type 0) → Item → Type 0
SaysOf P (item.Held r) = P r
SaysOf P (item.Grantable r) = P r
SaysOf P x = Unit {0}

-- the object or the column of each right that is destroyed is gone
abbrev pub RightsLackParts : List Item → Edit → Type 0
RightsLackParts c edit = (edited : List Item) → IsEdited c edit edited → (x : Item) → Contains edit.target x → SaysOf (LacksPart edited) x

-- an edit of one of these forms
pub record HasForm (c : List Item) (edit : Edit) : Type 0 where
  pub target_order : IsInOrder edit.target
  pub target : IsWithin edit.target c
  pub changed_order : IsInOrder edit.changed
  pub changed : IsWithin edit.changed c
  pub added_order : IsInOrder edit.added
  pub apart : (x : Item) → Contains edit.changed x → (¬ (Contains edit.target x)) × (¬ (Contains edit.added x)) × (¬ (IsRight x))
  pub gone : RightsLackParts c edit
  pub differ : NamesDiffer edit.added
  pub own_names : (x : Item) → Contains edit.added x → HasOwnName c edit x
  pub items : (x : Item) → Contains edit.added x → IsProperItem x
  pub beside : (x : Item) → Contains edit.added x → IsProperBeside c edit x
  pub views : TakesWholeViews c edit
