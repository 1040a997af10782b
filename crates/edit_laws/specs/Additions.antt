-- What added items must be, so that an edited catalogue is of a proper shape.
use Rattle.std.specs.Prelude.{◌≡◌, ◌↔◌, ◌⊎◌, List, ◌∷◌, Some, None, true}
use Rattle.std.specs.List.{Contains}
use Rattle.sql_names.specs.NameBytes.{NameBytes, PathNames}
use Rattle.cat_items.specs.declared.edit.Edit.{Edit}
use Rattle.cat_items.specs.declared.item.Column.{Column}
use Rattle.cat_items.specs.declared.item.Domain.{Domain}
use Rattle.cat_items.specs.declared.item.Foreign.{Foreign}
use Rattle.cat_items.specs.declared.item.Key.{Key}
use Rattle.cat_items.specs.declared.item.View.{View}
use Rattle.cat_items.specs.declared.item.Item.{Item}
use Rattle.cat_items.specs.declared.item.Item.TheVariants as item
use Rattle.cat_items.specs.Reach.{Has, Leads}
use Rattle.cat_items.specs.Shape.{NameSet, name_of, HasAllowedName, HasDerivedFields, HasProperLists, IsWellFormed, IsColumnOf}

-- one of the two is added
abbrev pub IsEitherAdded : Edit → Item → Item → Type 0
IsEitherAdded edit x y = Contains edit.added x ⊎ Contains edit.added y

-- what a proper shape asks of the added items among those of the edited catalogue
pub record AddsProperly (edit : Edit) (edited : List Item) : Type 0 where
  pub names : (x y : Item) (name : NameSet × PathNames) → Contains edit.added x → Contains edited y → name_of x ≡ Some name → name_of y ≡ Some name → x ≡ y
  pub allowed : (x : Item) → Contains edit.added x → HasAllowedName x
  pub derived : (x : Item) → Contains edit.added x → HasDerivedFields x
  pub lists : (x : Item) → Contains edit.added x → HasProperLists x
  pub keys : (f : Foreign) (k : Key) → IsEitherAdded edit (item.Foreign f) (item.Key k) → Contains edited (item.Foreign f) → Contains edited (item.Key k) → k.name ≡ f.key → (k.table ≡ f.target) × ((name : NameBytes) → Contains k.columns name ↔ Contains f.target_columns name)
  pub primary : (a b : Key) → Contains edit.added (item.Key a) → Contains edited (item.Key b) → a.table ≡ b.table → a.primary ≡ true → b.primary ≡ true → a ≡ b
  pub domains : (c : Column) (d : Domain) → IsEitherAdded edit (item.Column c) (item.Domain d) → Contains edited (item.Column c) → Contains edited (item.Domain d) → c.domain ≡ Some d.domain → c.sort ≡ d.sort
  pub view_columns : (v : View) → Contains edited (item.View v) → Has edited (IsColumnOf v.view)
  pub view_domains : (v : View) (c : Column) → IsEitherAdded edit (item.View v) (item.Column c) → Contains edited (item.View v) → Contains edited (item.Column c) → c.table ≡ v.view → c.domain ≡ None
  pub no_cycle : (name role : NameBytes) (roles : List NameBytes) → Leads edited name (role ∷ roles) name → ⊥
  pub trees : (x : Item) → Contains edit.added x → IsWellFormed x

-- items of which a proper shape asks nothing: schemas, admin options and rights
abbrev pub HasNoShape : Item → Type 0
HasNoShape (item.Schema x) = Unit {0}
HasNoShape (item.RoleAdmin g) = Unit {0}
HasNoShape (item.Held r) = Unit {0}
HasNoShape (item.Grantable r) = Unit {0}
HasNoShape x = ⊥
