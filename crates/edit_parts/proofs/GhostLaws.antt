-- Which items and ghosts the numbers of a board are of.
use Rattle.std.proofs.Common.{◌≡◌, inl, inr, ℕ, true, List, sym, subst, true≢false}
use Rattle.std.specs.List.{Contains}
use Rattle.item_index.specs.Graphs.{Graph, HasKey}
use Rattle.cat_items.specs.declared.need.Auth.{Auth}
use Rattle.cat_items.specs.declared.need.Auth.TheVariants.{Named, Public, System}
use Rattle.cat_items.specs.declared.item.Item.{Item}
use Rattle.cat_items.specs.declared.item.Item.TheVariants as item
use Rattle.cat_items.specs.Survivors.{IsSystemRight}
use Rattle.board_graph.specs.BoardKeys.{IsHelper, IsKeyOf, IsPlace, ghost_key, of_item, of_possible}
use Rattle.board_steps.specs.Plans.{HasNoHelper, IsFullBoard}
use Rattle.board_steps.proofs.Holding.{holds}
use Rattle.edit_suspects.specs.Helpers.{is_by_system, may_be_ghost}
use Rattle.edit_suspects.proofs.GhostKeys.{ghost_helps, ghost_no_topic, one_ghost, possible_is_ghost}

no_place : (a b : Auth) → is_by_system a b ≡ true → IsPlace a b → ⊥
no_place System (Named name) e is = is
no_place System System e is = absurd (true≢false (sym e))
no_place System Public e is = absurd (true≢false (sym e))
no_place Public b e is = absurd (true≢false (sym e))
no_place (Named name) b e is = absurd (true≢false (sym e))

-- a right that the system could grant is no helper's key
pub may_no_helper : (x : Item) → may_be_ghost x ≡ true → IsHelper x → ⊥
may_no_helper (item.Held r) e helper = no_place r.grantor r.grantee e helper
may_no_helper (item.Grantable r) e helper = no_place r.grantor r.grantee e helper
may_no_helper _ e helper = absurd (true≢false (sym e))

module _ (g : Graph Item) (c : List Item) (no_c : HasNoHelper c) (full : IsFullBoard g c) where
  -- an item with a number stands in the catalogue
  pub own_item : (x : Item) → (¬ (IsHelper x)) → (n : ℕ) → HasKey g n x → Contains c x
  own_item x other n has = (holds g c no_c full.board x).1 ((n, has), other)

  -- the number of a ghost is of its right
  pub ghost_known : (x : Item) → may_be_ghost x ≡ true → (n : ℕ) → HasKey g n (ghost_key x) → IsKeyOf c x (ghost_key x)
  ghost_known x may n has = elim (full.board.helpers n (ghost_key x) has) [
    | inl of ↦ by of.0 of.1
    | inr topic ↦ absurd (ghost_no_topic x topic.0 may topic.1 topic.2)
  ]
    where
      by : (z : Item) → IsKeyOf c z (ghost_key x) → IsKeyOf c x (ghost_key x)
      by z (of_item h e) = absurd (no_c z h (subst IsHelper e (ghost_helps x may)))
      by z (of_possible possible none e) = subst (λ w. IsKeyOf c w (ghost_key x)) (sym (one_ghost x z may (possible_is_ghost c z possible) e)) (of_possible possible none e)

  -- which the system could grant, and which doesn't stand
  pub ghost_stands : (x : Item) → may_be_ghost x ≡ true → (n : ℕ) → HasKey g n (ghost_key x) → IsSystemRight c x × (¬ (Contains c x))
  ghost_stands x may n has = by (ghost_key x) (ghost_known x may n has) (ghost_helps x may)
    where
      by : (k : Item) → IsKeyOf c x k → IsHelper k → IsSystemRight c x × (¬ (Contains c x))
      by k (of_item h e) helper = absurd (no_c x h (subst IsHelper e helper))
      by k (of_possible possible none e) helper = (possible, none)
