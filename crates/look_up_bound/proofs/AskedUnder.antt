-- What stands under a topic that an item asks for is relevant to the item.
use Rattle.std.proofs.Common.{List, sym, subst, ◌∙◌}
use Rattle.std.specs.Prelude.{ℕ}
use Rattle.cat_items.specs.declared.need.Auth.{Auth}
use Rattle.cat_items.specs.declared.need.Auth.TheVariants.{Named}
use Rattle.cat_items.specs.declared.need.Need.{Need}
use Rattle.cat_items.specs.declared.item.Item.{Item}
use Rattle.cat_items.specs.declared.item.Item.TheVariants as item
use Rattle.cat_items.specs.Reach.{Reaches}
use Rattle.cat_items.specs.Relevant.{Relevant, IsRightOf, IsRoleFor}
use Rattle.cat_items.specs.Relevant as relevant
use Rattle.cascade_laws.specs.Topics.{Topic, IsUnder, IsSupply, IsGrantOf}
use Rattle.cascade_laws.specs.Topics as on
use Rattle.cascade_laws.specs.Asks.{Asks, by_name, by_far, by_option, of_need, of_supply, of_edges, of_admins}
use Rattle.look_up_bound.proofs.AskedRelevant.{name_relevant, far_relevant, option_relevant, need_relevant}

module _ (u : List Item) where
  under_supply : (need : Need) (a g : Auth) (y : Item) → Reaches u a g → IsSupply need g y → IsRightOf u a need y
  under_supply need a g (item.Held r) way is = (is.0, subst (Reaches u a) (sym is.1) way)
  under_supply need a g (item.Grantable r) way is = (is.0, subst (Reaches u a) (sym is.1) way)
  under_supply need a g _ way is = absurd is

  under_edges : (a : Auth) (name : List ℕ) (y : Item) → Reaches u a (Named name) → IsUnder (on.edges name) y → IsRoleFor u a y
  under_edges a name (item.RoleAuth g) way is = subst (λ n. Reaches u a (Named n)) (sym is) way
  under_edges a name _ way is = absurd is

  under_admins : (x : Item) (a : Auth) (role name : List ℕ) (y : Item) → IsGrantOf role x → Reaches u a (Named name) → IsUnder (on.admins role name) y → relevant.IsAdminForGrant u a x y
  under_admins (item.RoleAuth g) a role name (item.RoleAdmin h) e way is = (is.0 ∙ sym e, subst (λ n. Reaches u a (Named n)) (sym is.1) way)
  under_admins (item.RoleAdmin g) a role name (item.RoleAdmin h) e way is = (is.0 ∙ sym e, subst (λ n. Reaches u a (Named n)) (sym is.1) way)
  under_admins (item.RoleAuth g) a role name _ e way is = absurd is
  under_admins (item.RoleAdmin g) a role name _ e way is = absurd is
  under_admins _ a role name y e way is = absurd e

  pub under_asked : (x y : Item) (t : Topic) → Asks u x t → IsUnder t y → Relevant u y x
  under_asked x y t (by_name e) is = name_relevant u x y t is e
  under_asked x y t (by_far e) is = far_relevant u x y t is e
  under_asked x y t (by_option e) is = option_relevant u x y t is e
  under_asked x y t (of_need need sought e) is = need_relevant u x y t is need sought e
  under_asked x y t (of_supply need a g sought acts way e) is = relevant.right_of need a sought acts (under_supply need a g y way (subst (λ t. IsUnder t y) e is))
  under_asked x y t (of_edges a name seeks way e) is = relevant.role_for a seeks.0 (under_edges a name y way (subst (λ t. IsUnder t y) e is))
  under_asked x y t (of_admins a role name grants acts way e) is = relevant.admin_for a acts (under_admins x a role name y grants way (subst (λ t. IsUnder t y) e is))
