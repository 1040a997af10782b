-- What sessions and viewers stand for.
use Rattle.std.specs.Prelude.{◌≡◌, ◌⊎◌, List, ℕ, Some, None}
use Rattle.std.specs.List.{Contains}
use Rattle.cat_items.specs.declared.need.Auth.{Auth}
use Rattle.cat_items.specs.declared.need.Auth.TheVariants as auths
use Rattle.cat_items.specs.declared.item.Right.{Right}
use Rattle.cat_items.specs.declared.item.RoleGrant.{RoleGrant}
use Rattle.cat_items.specs.declared.item.Item.{Item}
use Rattle.cat_items.specs.declared.item.Item.TheVariants as item
use Rattle.cat_items.specs.Reach.{Has}
use Rattle.schema_tables.specs.Sight as sight
use Rattle.shown_items.specs.declared.session.Session.{Session}
use Rattle.shown_items.specs.declared.session.Viewer.{Viewer}
use Rattle.shown_items.specs.declared.session.Viewer.TheVariants as viewers

abbrev pub session_of : Session → sight.Session
session_of s = record { user = s.user.now; enabled = s.enabled.now }

abbrev pub viewer_of : Viewer → sight.Viewer
viewer_of viewers.Whole = None
viewer_of (viewers.Session s) = Some (session_of s)

-- a schema whose owner is the user or an enabled role
abbrev pub HasOwnOwner : sight.Session → Item → Type 0
HasOwnOwner s (item.Schema x) = sight.IsOwn s x.owner
HasOwnOwner s x = ⊥

-- a right that the user, PUBLIC or an enabled role has
abbrev pub HasOwnGrantee : sight.Session → Item → Type 0
HasOwnGrantee s (item.Held r) = sight.IsOwnAuth s r.grantee
HasOwnGrantee s x = ⊥

-- a domain that is seen
abbrev pub IsSeenDomain : List Item → sight.Viewer → Item → Type 0
IsSeenDomain c v (item.Domain x) = sight.HasRightOn c v (item.Domain x)
IsSeenDomain c v x = ⊥

-- an admin option for a grantee, and one by a grantor
abbrev pub IsOptionFor : List ℕ → Item → Type 0
IsOptionFor grantee (item.RoleAdmin g) = g.grantee ≡ grantee
IsOptionFor grantee x = ⊥

abbrev pub IsOptionBy : Auth → List ℕ → Item → Type 0
IsOptionBy grantor grantee (item.RoleAdmin g) = (g.grantor ≡ grantor) × (g.grantee ≡ grantee)
IsOptionBy grantor grantee x = ⊥

-- an admin option of the role for the grantee
abbrev pub IsOptionOf : RoleGrant → Item → Type 0
IsOptionOf g (item.RoleAdmin other) = (other.role ≡ g.role) × (other.grantee ≡ g.grantee)
IsOptionOf g x = ⊥

abbrev pub HasOption : List Item → RoleGrant → Type 0
HasOption c g = Has c (IsOptionOf g)

-- a grant option by a grantor for a grantee
abbrev pub IsGrantableBy : Auth → Auth → Item → Type 0
IsGrantableBy grantor grantee (item.Grantable r) = (r.grantor ≡ grantor) × (r.grantee ≡ grantee)
IsGrantableBy grantor grantee x = ⊥

-- an enabled role
abbrev pub IsEnabledAuth : sight.Viewer → Auth → Type 0
IsEnabledAuth (Some s) (auths.Named name) = Contains s.enabled name
IsEnabledAuth v auth = ⊥

-- a right that an enabled role granted or has
abbrev pub IsOfRole : sight.Viewer → Right → Type 0
IsOfRole v r = IsEnabledAuth v r.grantor ⊎ IsEnabledAuth v r.grantee
