-- A statement has one refusal at most, and one edit, where that holds of its steps.
use Rattle.std.proofs.Common.{◌≡◌, List, [], ◌∷◌, ap, sym, ◌∙◌}
use Rattle.std.specs.List.{Contains}
use Rattle.name_scopes.specs.declared.error.ResolveError.TheVariants as errors
use Rattle.name_scopes.specs.Outcomes.{Outcome}
use Rattle.std.specs.declared.result.Result.TheVariants.{Err}
use Rattle.cat_items.specs.declared.edit.Edit.{Edit}
use Rattle.cat_items.specs.declared.edit.Refusal.{Refusal}
use Rattle.cat_items.specs.declared.edit.Refusal.TheVariants.{NoPrivilege}
use Rattle.cat_items.specs.declared.edit.Who.{Who}
use Rattle.cat_items.specs.declared.item.Item.{Item}
use Rattle.edit_rules.proofs.FirstLaws.{AreSettled, IsSettled, settled_append}
use Rattle.edit_rules.proofs.Settled.{least_settled}
use Rattle.cat_items.proofs.CatalogueLemmas.{same_in_order}
use Rattle.edit_rules.specs.Chosen.{AreAll}
use Rattle.statement_steps.specs.Resolving.{unresolved_name}
use Rattle.statement_steps.specs.Steps.{MakesEdit, Steps, no_least_privilege, refusals_of, where_it_is}

-- a test that tells one refusal
pub one_told : (P : Type 0) (told : Refusal) → IsSettled (where_it_is P told)
one_told P told a b p q = p.1 ∙ sym q.1

-- what resolution tells
pub unresolved_settled : {A : Type 0} → (o : Outcome A) → IsSettled (unresolved_name o)
unresolved_settled (Err (errors.UnknownName path)) a b p q = p ∙ sym q
unresolved_settled (Err (errors.Ambiguous name)) a b p q = p ∙ sym q
unresolved_settled o a b p q = absurd p

module _ (c : List Item) (who : Who) (s : Steps) where
  lacks_settled : IsSettled (no_least_privilege c s.schema s.needs)
  lacks_settled a b p q = p.2 ∙ ap NoPrivilege (least_settled _ p.0 q.0 p.1 q.1) ∙ sym q.2

  pub steps_settled : AreSettled s.by_tree → AreSettled s.names → AreSettled s.taken → AreSettled s.rules → AreSettled (refusals_of c who s)
  steps_settled tree names taken rules =
      settled_append s.by_tree _ tree (settled_append s.names _ names (
        (λ a b p q. p.1 ∙ sym q.1),
        settled_append s.taken _ taken (settled_append s.rules (no_least_privilege c s.schema s.needs ∷ []) rules (lacks_settled, tt)),
      ))

-- what is so settles the list of it
all_settled : (P : Item → Type 0) (a b : List Item) → AreAll P a → AreAll P b → a ≡ b
all_settled P a b p q = same_in_order a b p.order q.order (λ x. (λ h. (q.members x).1 ((p.members x).0 h), λ h. (p.members x).1 ((q.members x).0 h)))

-- what is taken, changed and added settles the edit
pub edit_settled : (c : List Item) (Taken Changed Added : Item → Type 0) (a b : Edit) → MakesEdit c Taken Changed Added a → MakesEdit c Taken Changed Added b → a ≡ b
edit_settled c Taken Changed Added a b p q =
    let target : a.target ≡ b.target = all_settled (λ x. Contains c x × Taken x) a.target b.target p.target q.target in
    let changed : a.changed ≡ b.changed = all_settled (λ x. Contains c x × Changed x) a.changed b.changed p.changed q.changed in
    let added : a.added ≡ b.added = all_settled Added a.added b.added p.added q.added in
    λ i. record { target = target i; changed = changed i; added = added i }
