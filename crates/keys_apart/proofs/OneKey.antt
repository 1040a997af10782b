-- Keys of a board with one place in the order of items are one.
use Rattle.std.proofs.Common.{◌≡◌, ◌⊎◌, inl, inr, sym, ◌∙◌, subst, true, List}
use Rattle.std.specs.List.{Contains}
use Rattle.std.specs.Cmp.{Equal-is}
use Rattle.std.specs.declared.cmp.Ordering.TheVariants.{Equal}
use Rattle.cat_items.specs.declared.item.Item.{Item}
use Rattle.cat_items.specs.declared.item.Item.TheVariants as item
use Rattle.cat_items.specs.Catalogues.{IsInOrder}
use Rattle.cat_items.specs.Order.{item_cmp}
use Rattle.cat_items.proofs.OrderLemmas.{same_order}
use Rattle.cat_items.specs.contracts.item.ItemPartialEq.TheImpl as same
use Rattle.cat_items.specs.contracts.item.ItemOrd.TheImpl as ord
use Rattle.cat_items.specs.contracts.item.ItemOrd.TheImpl.Laws as laws
use Rattle.edit_rules.specs.Chosen.{IsRightOrRoleGrant}
use Rattle.edit_rules.proofs.ItemKeys.{one_granted, only_granted}
use Rattle.edit_laws.proofs.EditedLists.{one_by_key}
use Rattle.board_graph.specs.BoardKeys.{IsHelper, IsKeyOf, of_item, of_possible}
use Rattle.board_graph.proofs.Keys.{ghost_is_helper, topic_is_helper}
use Rattle.board_steps.specs.Plans.{IsBoardKey, TellsApart}

-- helpers' keys are rights and role grants
helper_is_granted : (k : Item) → IsHelper k → IsRightOrRoleGrant k
helper_is_granted (item.RoleAuth g) is = tt
helper_is_granted (item.RoleAdmin g) is = tt
helper_is_granted (item.Held r) is = tt
helper_is_granted (item.Grantable r) is = tt
helper_is_granted _ is = absurd is

-- a key of a board is an item of the list, or a helper's
key_of_item : (c : List Item) (x k : Item) → IsKeyOf c x k → Contains c k ⊎ IsHelper k
key_of_item c x k (of_item h e) = inl (subst (Contains c) (sym e) h)
key_of_item c x k (of_possible h none e) = inr (subst IsHelper (sym e) (ghost_is_helper c x h))

which_key : (c : List Item) (k : Item) → IsBoardKey c k → Contains c k ⊎ IsHelper k
which_key c k is = elim is [ inl of ↦ key_of_item c of.0 k of.1 | inr topic ↦ inr (subst IsHelper (sym topic.2) (topic_is_helper topic.0 topic.1)) ]

pub one_key : (c : List Item) → IsInOrder c → (j k : Item) → IsBoardKey c j → IsBoardKey c k → item_cmp j k ≡ Equal → j ≡ k
one_key c order j k j_is k_is e =
    elim (which_key c j j_is) [
      | inr helper ↦ only_granted j k (helper_is_granted j helper) e
      | inl there ↦ (elim (which_key c k k_is) [
        | inr helper ↦ one_granted j k (helper_is_granted k helper) e
        | inl there_too ↦ one_by_key c order j k there there_too e
      ])
    ]

-- what is the same has one place
one_place : (j k : Item) → same.ghosts.eq j k ≡ true → item_cmp j k ≡ Equal
one_place j k e = sym (same_order j k) ∙ (Equal-is (ord.ghosts.cmp j k)).0 (sym (laws.matches_eq-law j k) ∙ e)

pub told_apart : (c : List Item) → IsInOrder c → TellsApart same.ghosts.eq c
told_apart c order j k j_is k_is e = one_key c order j k j_is k_is (one_place j k e)
