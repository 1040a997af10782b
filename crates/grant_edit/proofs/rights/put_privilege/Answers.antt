use Rattle.std.proofs.Common.{[], ◌∷◌, ◌++◌, ◌+◌, ◌≡◌, ◌⊎◌, ◌↔◌, List, take, ap, sym, subst, ◌∙◌}
use Rattle.std.specs.List.{Contains}
use Rattle.std.proofs.lemmas.List.{map-append}
use Rattle.cat_items.specs.declared.item.Item.{Item}
use Rattle.cat_items.specs.declared.need.Auth.{Auth}
use Rattle.cat_items.specs.declared.need.Auth.TheVariants.{Named}
use Rattle.cat_items.specs.declared.need.Need.{Need}
use Rattle.edit_rules.proofs.Lists.{take_next, take_whole}
use Rattle.grant_edit.specs.Grants.{IsGrant, IsOfRight}
use Rattle.grant_edit.specs.Named.{grantee_auth, named_grantees}
use Rattle.grant_edit.proofs.RightLemmas.{to_one_more}
use Rattle.grant_edit.proofs.rights.put_privilege.Goals as goal

pub loop-grantee-preserved : goal.loop-grantee-preserved
loop-grantee-preserved c =
    let grantor = c.args.grantor.now in
    let grantees = c.args.grantees.now in
    let need = c.args.need.now in
    let option = c.args.option in
    let base = c.args.items.now.items in
    let new = c.put_right.new.items.items in
    let old = c.loop-grantee.items.items in
    let front = named_grantees (take c.loop-grantee.grantee-index grantees) in
    let a = grantee_auth c.grantee-item.result in
    let next = take_next grantees c.as_slice-grantee-items.result.now c.loop-grantee.grantee-index c.as_slice-grantee-items.ensures c.grantee-item.result c.loop-grantee-test.true c.grantee-item.is in
    let auths : named_grantees (take (c.loop-grantee.grantee-index + 1) grantees) ≡ front ++ a ∷ [] = ap named_grantees next ∙ map-append grantee_auth (take c.loop-grantee.grantee-index grantees) (c.grantee-item.result ∷ []) in
    let made : (y : Item) → Contains new y ↔ (Contains old y ⊎ IsOfRight (record { need = need; grantor = Named grantor; grantee = a }) option y) =
    λ y. subst (λ (g : Auth). Contains new y ↔ (Contains old y ⊎ IsOfRight (record { need = need; grantor = Named grantor; grantee = g }) option y)) c.in_ok-auth_of.ensures
    (subst (λ g. Contains new y ↔ (Contains old y ⊎ IsOfRight (record { need = need; grantor = Named g; grantee = c.in_ok-auth_of.field-0 }) option y)) c.in_ok-copy-2.ensures
    (subst (λ (n : Need). Contains new y ↔ (Contains old y ⊎ IsOfRight (record { need = n; grantor = Named c.in_ok-copy-2.field-0; grantee = c.in_ok-auth_of.field-0 }) option y)) c.in_ok-copy.ensures (c.in_ok-put_right.ensures.members y))) in
    record {
      order = c.in_ok-put_right.ensures.order;
      members = subst (λ (l : List Auth). (y : Item) → Contains new y ↔ (Contains base y ⊎ IsGrant (λ n. n ≡ need) grantor l option y)) (sym auths) (to_one_more grantor option need front a base old new c.loop-grantee.invariant.members made);
    }

pub returns-clause-members : goal.returns-clause-members
returns-clause-members c =
    subst (λ l. (y : Item) → Contains c.loop-grantee.items.items y ↔ (Contains c.args.items.now.items y ⊎ IsGrant (λ n. n ≡ c.args.need.now) c.args.grantor.now (named_grantees l) c.args.option y))
    (take_whole c.args.grantees.now c.as_slice-grantee-items.result.now c.loop-grantee.grantee-index c.as_slice-grantee-items.ensures c.loop-grantee-test.false) c.loop-grantee.invariant.members
