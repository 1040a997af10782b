-- An edit has one new catalogue, and it is good.
use Rattle.std.proofs.Common.{◌≡◌, List, subst}
use Rattle.cat_items.specs.declared.item.Item.{Item}
use Rattle.cat_items.specs.declared.edit.Edit.{Edit}
use Rattle.cat_items.specs.Edits.{IsEdited, IsNew}
use Rattle.cat_items.specs.Survivors.{IsWithSystem, AreSurvivors}
use Rattle.cat_items.specs.Fit.{IsFit}
use Rattle.cat_items.specs.Shape.{HasShape}
use Rattle.cat_items.specs.Good.{IsGood}
use Rattle.cat_items.proofs.CatalogueLemmas.{same_in_order}
use Rattle.support_laws.proofs.Goodness.{is_good}

pub one_edited : (c : List Item) (edit : Edit) (a b : List Item) → IsEdited c edit a → IsEdited c edit b → a ≡ b
one_edited c edit a b p q = same_in_order a b p.order q.order (λ x. (λ h. (q.members x).1 ((p.members x).0 h), λ h. (p.members x).1 ((q.members x).0 h)))

pub one_with_system : (c a b : List Item) → IsWithSystem c a → IsWithSystem c b → a ≡ b
one_with_system c a b p q = same_in_order a b p.order q.order (λ x. (λ h. (q.members x).1 ((p.members x).0 h), λ h. (p.members x).1 ((q.members x).0 h)))

pub one_survivors : (c a b : List Item) → AreSurvivors c a → AreSurvivors c b → a ≡ b
one_survivors c a b p q = same_in_order a b p.order q.order (λ x. (λ h. (q.members x).1 ((p.members x).0 h), λ h. (p.members x).1 ((q.members x).0 h)))

pub one_new : (c : List Item) (edit : Edit) (a b : List Item) → IsNew c edit a → IsNew c edit b → a ≡ b
one_new c edit a b p q =
    let edited = one_edited c edit p.edited q.edited p.is_edited q.is_edited in
    let all = one_with_system q.edited p.all q.all (subst (λ e. IsWithSystem e p.all) edited p.with_system) q.with_system in
    one_survivors q.all a b (subst (λ l. AreSurvivors l a) all p.survivors) q.survivors

pub new_is_good : (c : List Item) (edit : Edit) (edited new : List Item) → IsFit c edit edited → HasShape edited → IsNew c edit new → IsGood new
new_is_good c edit edited new fit shape is =
    let same = one_edited c edit edited is.edited fit.is_edited is.is_edited in
    is_good is.edited is.all new is.with_system is.survivors (subst HasShape same shape)
