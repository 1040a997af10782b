-- What is shown beside a descriptor.
use Rattle.std.proofs.Common.{◌≡◌, inl, inr, refl, sym, ap, subst, ◌∙◌, false, List, Some, None, ℕ}
use Rattle.std.specs.Prelude.{◌↔◌}
use Rattle.std.specs.List.{Contains}
use Rattle.sql_names.specs.declared.object.Object.{Object}
use Rattle.cat_items.specs.declared.need.Auth.{Auth}
use Rattle.cat_items.specs.declared.need.Auth.TheVariants as auths
use Rattle.cat_items.specs.declared.item.Right.{Right}
use Rattle.cat_items.specs.declared.item.RoleGrant.{RoleGrant}
use Rattle.cat_items.specs.declared.item.Item.{Item}
use Rattle.cat_items.specs.declared.item.Item.TheVariants as item
use Rattle.cat_items.specs.Ranges.{IsDomainOf}
use Rattle.cat_items.specs.Reach.{Has, Reaches}
use Rattle.schema_tables.specs.Shown.{Shown, of_enabled_role, of_role_auth, of_role_admin, of_column, of_domain, of_held}
use Rattle.schema_tables.specs.Sight.{Viewer, IsShown, IsApplicableTo, IsEnabledRole}
use Rattle.schema_tables.specs.TableRows.{Beside, Shows, IsBeside, IsAdminOptionBeside, IsDomainBeside, IsEnabledBeside}
use Rattle.shown_items.specs.Faces.{IsPlain}
use Rattle.shown_items.specs.Looks.{domain_look}
use Rattle.shown_items.specs.Viewers.{IsSeenDomain, IsOptionOf, HasOption, IsEnabledAuth, IsOfRole}
use Rattle.shown_items.proofs.Owning.{decided_owns}
use Rattle.shown_items.proofs.LooksShown.{domain_is}

-- the same thing, where one is so exactly where the other is
pub where_so : (A B : Type 0) (u : Shown) → (A ↔ B) → (s : Shown) → (A × (s ≡ u)) ↔ (B × (s ≡ u))
where_so A B u h s = ((λ k. (h.0 k.0, k.1)), λ k. (h.1 k.0, k.1))

pub plain_beside : (P : Shown → Type 0) (s : Shown) (m : Beside) → IsPlain s → m.same ≡ false → m.option ≡ false → m.role ≡ false → IsBeside P s m
plain_beside P (of_role_auth g) m h a b d = absurd h
plain_beside P (of_column x) m h a b d = absurd h
plain_beside P (of_held r) m h a b d = absurd h
plain_beside P _ m h a b d = (a, b, d)

module _ (c : List Item) (v : Viewer) where
  -- ---- the domain of a column

  seen_domain : (o : Object) (y : Item) → Contains c y → IsDomainOf o y → IsSeenDomain c v y → Shows (IsShown c v) (IsDomainBeside (Some o))
  seen_domain o (item.Domain d) is e see =
      let owned = decided_owns c v d.domain.schema in
      (of_domain (domain_look d owned.0), (d, is, domain_is c v owned.0 owned.0 d see owned.1), ap Some (sym e))
  seen_domain o y is e see = absurd e

  domain_seen : (o : Object) (s : Shown) → IsShown c v s → IsDomainBeside (Some o) s → Has c (λ x. IsDomainOf o x × IsSeenDomain c v x)
  domain_seen o (of_domain p) is e = (item.Domain is.0, is.1, (let f : o ≡ p.domain = cc in sym is.2.1 ∙ sym f, is.2.0))
  domain_seen o _ is e = absurd e

  pub domain_shown : (o : Object) → Has c (λ x. IsDomainOf o x × IsSeenDomain c v x) ↔ Shows (IsShown c v) (IsDomainBeside (Some o))
  domain_shown o = (λ h. seen_domain o h.0 h.1 h.2.0 h.2.1, λ h. domain_seen o h.0 h.1 h.2)

  -- ---- enabled roles

  enabled_role : (w : Viewer) (name : List ℕ) → IsEnabledRole w name → IsEnabledAuth w (auths.Named name)
  enabled_role None name h = h
  enabled_role (Some s) name h = h

  role_enabled : (w : Viewer) (auth : Auth) → IsEnabledAuth w auth → (name : List ℕ) × IsEnabledRole w name × (auth ≡ auths.Named name)
  role_enabled (Some s) (auths.Named name) h = (name, h, refl)
  role_enabled (Some s) auths.System h = absurd h
  role_enabled (Some s) auths.Public h = absurd h
  role_enabled None auth h = absurd h

  of_role_beside : (r : Right) → IsOfRole v r → Shows (IsShown c v) (IsEnabledBeside r)
  of_role_beside r (inl h) = let n = role_enabled v r.grantor h in (of_enabled_role n.0, n.1, inl n.2)
  of_role_beside r (inr h) = let n = role_enabled v r.grantee h in (of_enabled_role n.0, n.1, inr n.2)

  beside_of_role : (r : Right) (s : Shown) → IsShown c v s → IsEnabledBeside r s → IsOfRole v r
  beside_of_role r (of_enabled_role name) is (inl e) = inl (subst (IsEnabledAuth v) (sym e) (enabled_role v name is))
  beside_of_role r (of_enabled_role name) is (inr e) = inr (subst (IsEnabledAuth v) (sym e) (enabled_role v name is))
  beside_of_role r _ is e = absurd e

  pub role_shown : (r : Right) → IsOfRole v r ↔ Shows (IsShown c v) (IsEnabledBeside r)
  role_shown r = (of_role_beside r, λ h. beside_of_role r h.0 h.1 h.2)

  -- ---- admin options

  applies_alike : (w : Viewer) (g other : RoleGrant) → other.grantee ≡ g.grantee → IsApplicableTo c w g → IsApplicableTo c w other
  applies_alike None g other e h = tt
  applies_alike (Some s) g other e h = subst (λ name. Reaches c (auths.Named s.user) (auths.Named name)) (sym e) h

  option_beside : (g : RoleGrant) → IsApplicableTo c v g → (y : Item) → Contains c y → IsOptionOf g y → Shows (IsShown c v) (IsAdminOptionBeside g)
  option_beside g a (item.RoleAdmin other) is e = (of_role_admin other, (is, applies_alike v g other e.1 a), e)
  option_beside g a y is e = absurd e

  beside_option : (g : RoleGrant) (s : Shown) → IsShown c v s → IsAdminOptionBeside g s → HasOption c g
  beside_option g (of_role_admin other) is e = (item.RoleAdmin other, is.0, e)
  beside_option g _ is e = absurd e

  pub option_shown : (g : RoleGrant) → IsApplicableTo c v g → HasOption c g ↔ Shows (IsShown c v) (IsAdminOptionBeside g)
  option_shown g a = (λ h. option_beside g a h.0 h.1 h.2, λ h. beside_option g h.0 h.1 h.2)
