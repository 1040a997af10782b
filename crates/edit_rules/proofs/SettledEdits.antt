-- What an edit adds, or takes, settles it; an edit that takes does nothing else.
use Rattle.std.proofs.Common.{◌≡◌, ◌↔◌, List, [], sym, ◌∙◌}
use Rattle.std.specs.List.{Contains}
use Rattle.cat_items.specs.declared.edit.Edit.{Edit}
use Rattle.cat_items.specs.declared.item.Item.{Item}
use Rattle.cat_items.proofs.CatalogueLemmas.{same_in_order}
use Rattle.finite_chains.specs.Chains.{IsWithin}
use Rattle.edit_rules.specs.Chosen.{AreAll, AreChosen, IsAdding, IsTaking}

all_settled : (P : Item → Type 0) (a b : List Item) → AreAll P a → AreAll P b → a ≡ b
all_settled P a b p q = same_in_order a b p.order q.order (λ x. (λ h. (q.members x).1 ((p.members x).0 h), λ h. (p.members x).1 ((q.members x).0 h)))

pub adding_settled : (P : Item → Type 0) (a b : Edit) → IsAdding P a → IsAdding P b → a ≡ b
adding_settled P a b p q =
    let target : a.target ≡ b.target = p.target ∙ sym q.target in
    let changed : a.changed ≡ b.changed = p.changed ∙ sym q.changed in
    let added : a.added ≡ b.added = all_settled P a.added b.added p.added q.added in
    λ i. record { target = target i; changed = changed i; added = added i }

pub taking_settled : (c : List Item) (P : Item → Type 0) (a b : Edit) → IsTaking c P a → IsTaking c P b → a ≡ b
taking_settled c P a b p q =
    let target : a.target ≡ b.target = all_settled (λ x. Contains c x × P x) a.target b.target p.target q.target in
    let changed : a.changed ≡ b.changed = p.changed ∙ sym q.changed in
    let added : a.added ≡ b.added = p.added ∙ sym q.added in
    λ i. record { target = target i; changed = changed i; added = added i }

-- an edit that takes is this one
pub taking_is : (c : List Item) (P : Item → Type 0) (edit : Edit) → IsTaking c P edit → edit ≡ record { target = edit.target; changed = []; added = [] }
taking_is c P edit is = λ i. record { target = edit.target; changed = is.changed i; added = is.added i }

pub chosen_within : (c : List Item) (P : Item → Type 0) (target : List Item) → AreChosen c P target → IsWithin target c
chosen_within c P target chosen x h = ((chosen.members x).0 h).0
