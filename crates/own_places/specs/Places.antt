-- Where each authorization has rights or owns.
use Rattle.std.specs.Prelude.{◌≡◌, List, [], ◌∷◌, Option, Some, None, Vec}
use Rattle.std.specs.BTreeMap.{get}
use Rattle.std.specs.List.{Contains}
use Rattle.std.specs.declared.alloc.Global.{Global}
use Rattle.finite_chains.specs.Chains.{IsWithin}
use Rattle.sql_names.specs.NameBytes.{PathNames}
use Rattle.cat_items.specs.contracts.need.AuthOrd.TheImpl as order
use Rattle.cat_items.specs.declared.need.Auth.{Auth}
use Rattle.cat_items.specs.declared.need.Auth.TheVariants as auths
use Rattle.cat_items.specs.declared.item.Item.{Item}
use Rattle.cat_items.specs.declared.item.Item.TheVariants as item
use Rattle.own_places.specs.declared.places.OwnPlaces.{OwnPlaces}

-- the path of a schema that it owns, or of an object on which it has a right
abbrev pub IsPlaceOf : Auth → PathNames → Item → Type 0
IsPlaceOf auth on (item.Schema x) = (auth ≡ auths.Named x.owner) × (on ≡ x.name ∷ [])
IsPlaceOf auth on (item.Held r) = (auth ≡ r.grantee) × (on ≡ r.need.on)
IsPlaceOf auth on x = ⊥

-- the paths of a list, where there is one
abbrev pub listed : Option (Vec PathNames Global) → List PathNames
listed None = []
listed (Some paths) = paths.items

-- the places that are listed for an authorization
abbrev pub places_at : OwnPlaces → Auth → List PathNames
places_at places auth = listed (get order.ghosts.cmp places.lists auth)

-- each place of the item is listed
abbrev pub HasPlacesOf : Item → OwnPlaces → Type 0
HasPlacesOf x places = (auth : Auth) (on : PathNames) → IsPlaceOf auth on x → Contains (places_at places auth) on

-- each place of each of these items is listed
abbrev pub HasPlaces : List Item → OwnPlaces → Type 0
HasPlaces items places = (x : Item) → Contains items x → HasPlacesOf x places

-- what was listed is listed still
abbrev pub Keeps : OwnPlaces → OwnPlaces → Type 0
Keeps old new = (auth : Auth) → IsWithin (places_at old auth) (places_at new auth)
