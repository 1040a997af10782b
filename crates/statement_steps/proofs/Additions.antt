-- Edits that only add: they are sound where each item has a free name and is proper, and they leave all users.
use Rattle.std.proofs.Common.{◌≡◌, ◌⊎◌, List, [], Some, inl, inr, arith}
use Rattle.std.specs.List.{Contains}
use Rattle.finite_chains.proofs.Members.{Contains-nil}
use Rattle.finite_chains.proofs.StrictOrders.{IsRising-from_pairs, rising_same}
use Rattle.sql_names.specs.NameBytes.{NameBytes, PathNames}
use Rattle.cat_items.specs.declared.edit.Edit.{Edit}
use Rattle.cat_items.specs.declared.item.Item.{Item}
use Rattle.cat_items.specs.declared.item.Item.TheVariants as item
use Rattle.cat_items.specs.declared.need.Need.{Need}
use Rattle.cat_items.specs.Good.{IsGood}
use Rattle.cat_items.specs.Needs.{AreNeeds}
use Rattle.cat_items.specs.Order.{need_cmp}
use Rattle.cat_items.specs.Shape.{NameSet, name_of}
use Rattle.cat_items.proofs.OrderLemmas.{need_cmp-total}
use Rattle.edit_rules.specs.Chosen.{AreChosen}
use Rattle.edit_laws.specs.Forms.{HasFreeName}
use Rattle.edit_laws.specs.Proper.{IsProperBeside, IsProperItem}
use Rattle.edit_laws.specs.Sound.{IsSound}
use Rattle.edit_laws.specs.Users.{LeavesUsers}
use Rattle.edit_laws.proofs.FormLaws.{sound_form}
use Rattle.statement_steps.specs.Steps.{MakesEdit, Nothing}

-- nothing is taken or changed
pub nothing_chosen : (c : List Item) → AreChosen c Nothing []
nothing_chosen c = record { order = λ i j d below within. absurd (omega (arith, within)); members = λ x. (λ h. absurd (Contains-nil x h), λ h. absurd h.1) }

-- what occurs settles the list of needs
pub needs_settled : (occurs : Need → Type 0) (a b : List Need) → AreNeeds a occurs → AreNeeds b occurs → a ≡ b
needs_settled occurs a b p q =
    rising_same need_cmp need_cmp-total a b (IsRising-from_pairs need_cmp a p.order) (IsRising-from_pairs need_cmp b q.order)
    (λ n. (λ h. (q.members n).1 ((p.members n).0 h), λ h. (p.members n).1 ((q.members n).0 h)))

module _ (c : List Item) (P : Item → Type 0) (edit : Edit) (is : MakesEdit c Nothing Nothing P edit) where
  none_taken : (x : Item) → Contains edit.target x → ⊥
  none_taken x h = ((is.target.members x).0 h).1

  none_changed : (x : Item) → Contains edit.changed x → ⊥
  none_changed x h = ((is.changed.members x).0 h).1

  none_gone : (x : Item) → Contains edit.target x ⊎ Contains edit.changed x → ⊥
  none_gone x (inl h) = none_taken x h
  none_gone x (inr h) = none_changed x h

  pub sound_addition : IsGood c → ((x y : Item) (name : NameSet × PathNames) → P x → P y → name_of x ≡ Some name → name_of y ≡ Some name → x ≡ y) → ((x : Item) → P x → HasFreeName c x)
      → ((x : Item) → P x → IsProperItem x) → ((x : Item) → P x → IsProperBeside c edit x) → IsSound c edit
  sound_addition good differ free items beside = sound_form c edit good (record {
    target_order = is.target.order;
    target = λ x h. absurd (none_taken x h);
    changed_order = is.changed.order;
    changed = λ x h. absurd (none_changed x h);
    added_order = is.added.order;
    apart = λ x h. absurd (none_changed x h);
    gone = λ edited of x h. absurd (none_taken x h);
    differ = λ x y n h k nx ny. differ x y n ((is.added.members x).0 h) ((is.added.members y).0 k) nx ny;
    own_names = λ x h. inl (free x ((is.added.members x).0 h));
    items = λ x h. items x ((is.added.members x).0 h);
    beside = λ x h. beside x ((is.added.members x).0 h);
    views = λ x t. absurd (none_gone (item.Column x) t);
  })

  pub addition_leaves_users : ((name : NameBytes) → ¬ (P (item.User name))) → LeavesUsers edit
  addition_leaves_users none name = (none_taken (item.User name), none_changed (item.User name), λ h. none name ((is.added.members (item.User name)).0 h))
