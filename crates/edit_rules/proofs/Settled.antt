-- A statement has one grantor, and one least need that isn't met.
use Rattle.std.proofs.Common.{◌≡◌, ℕ, List, Option, Some, None, refl, sym, ap, ◌∙◌}
use Rattle.std.specs.Ordering.{ordering_reverse}
use Rattle.std.specs.declared.cmp.Ordering.{Ordering}
use Rattle.std.specs.declared.cmp.Ordering.TheVariants.{Less, Equal, Greater}
use Rattle.sql_tree.specs.declared.rights.Grantor.{Grantor}
use Rattle.sql_tree.specs.declared.rights.Grantor.TheVariants.{CurrentUser, CurrentRole}
use Rattle.cat_items.specs.declared.edit.Refusal.TheVariants.{NoPrivilege}
use Rattle.cat_items.specs.declared.edit.Who.{Who}
use Rattle.cat_items.specs.declared.item.Item.{Item}
use Rattle.cat_items.specs.declared.need.Need.{Need}
use Rattle.cat_items.specs.Order.{need_cmp}
use Rattle.cat_items.proofs.OrderLemmas.{need_cmp-total}
use Rattle.edit_rules.proofs.ItemKeys.{need_cmp-is}
use Rattle.edit_rules.specs.Grantors.{IsGrantor}
use Rattle.edit_rules.specs.Privileges.{IsLeastNeed, no_privilege}
use Rattle.edit_rules.proofs.FirstLaws.{IsSettled}

-- a statement has one grantor
pub grantor_settled : (c : List Item) (who : Who) (by : Option Grantor) (a b : List ℕ) → IsGrantor c who by a → IsGrantor c who by b → a ≡ b
grantor_settled c who (Some CurrentRole) a b p q = let same : Some a ≡ Some b = sym p.0 ∙ q.0 in cc
grantor_settled c who (Some CurrentUser) a b p q = p ∙ sym q
grantor_settled c who None a b p q = p ∙ sym q

-- one need is the least
pub least_settled : (P : Need → Type 0) (a b : Need) → IsLeastNeed P a → IsLeastNeed P b → a ≡ b
least_settled P a b p q = need_cmp-is a b (by (need_cmp a b) (p.least b q.is) (λ e. q.least a p.is (need_cmp-total.antisymm b a ∙ ap ordering_reverse e)))
  where
    by : (o : Ordering) → (o ≡ Greater → ⊥) → (o ≡ Less → ⊥) → o ≡ Equal
    by Less g l = absurd (l refl)
    by Equal g l = refl
    by Greater g l = absurd (g refl)

-- one need is told of those that aren't met
pub lacks_settled : (c : List Item) (owner : List ℕ) (needs : List Need) → IsSettled (no_privilege c owner needs)
lacks_settled c owner needs a b p q = p.2 ∙ ap NoPrivilege (least_settled _ p.0 q.0 p.1 q.1) ∙ sym q.2
