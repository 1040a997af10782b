-- Rights that are put in unless a node without a mark keeps them, and the suspects by these.
use Rattle.std.proofs.Common.{length, ◌≤◌, Option, Some, None, ◌≡◌, ◌⊎◌, ◌↔◌, inl, inr, ℕ, List, refl, sym, ◌∙◌, subst}
use Rattle.std.specs.List.{Contains}
use Rattle.item_index.specs.Graphs.{Graph}
use Rattle.cat_items.specs.declared.edit.Edit.{Edit}
use Rattle.cat_items.specs.declared.item.Item.{Item}
use Rattle.cat_items.specs.declared.item.Item.TheVariants as item
use Rattle.cat_items.specs.declared.item.Right.{Right}
use Rattle.cat_items.specs.Catalogues.{IsInOrder}
use Rattle.cat_items.specs.Reach.{Has}
use Rattle.cat_items.specs.Rights.{HasColumn}
use Rattle.cat_items.specs.Survivors.{IsSystemRight, MayBeSystemRight, MayBeSystemSchema}
use Rattle.finite_chains.specs.Chains.{IsWithin}
use Rattle.edit_rules.specs.Chosen.{IsRightOrRoleGrant}
use Rattle.edit_rules.proofs.ItemKeys.{only_granted}
use Rattle.board_graph.specs.BoardKeys.{ghost_key}
use Rattle.board_marks.specs.Marks.{IsMarked}
use Rattle.topic_keys.specs.Lists.{Gets}
use Rattle.topic_keys.proofs.Adding.{gets_alike, gets_none}
use Rattle.edit_suspects.specs.Seeds.{HaveSpread, of_changed, of_target}
use Rattle.edit_suspects.proofs.GhostKeys.{possible_is_granted}
use Rattle.asked_parts.specs.Under as under
use Rattle.asked_parts.proofs.GrowthLaws.{no_longer, once}
use Rattle.asked_parts.proofs.UnderLaws.{flipped}
use Rattle.edit_parts.specs.Parts.{AreTouchedItems, HasAllTouched, IsPossibleSuspect, IsSuspectBy, IsUnlessKept}
use Rattle.edit_parts.specs.Touched.{AreApart, IsTouchedItem, IsTouchedRight}
use Rattle.edit_parts.proofs.TouchedLaws.{may_is_granted}

pub ghost_granted : (x : Item) → IsRightOrRoleGrant x → IsRightOrRoleGrant (ghost_key x)
ghost_granted (item.Held r) is = tt
ghost_granted (item.Grantable r) is = tt
ghost_granted (item.RoleAuth g) is = is
ghost_granted (item.RoleAdmin g) is = is
ghost_granted _ is = absurd is

module _ (g : Graph Item) (marks : List ℕ) (right : Item) where
  pub kept_out : (old : List Item) → (IsMarked g marks right × IsMarked g marks (ghost_key right) → ⊥) → Gets (IsUnlessKept g marks right) old old
  kept_out old none = gets_none (IsUnlessKept g marks right) old old refl (λ x h. none (h.1, h.2))

  pub put_unless : (copy : Item) (old new : List Item) → copy ≡ right → IsMarked g marks right → IsMarked g marks (ghost_key right) → Gets (λ y. y ≡ copy) old new → Gets (IsUnlessKept g marks right) old new
  put_unless copy old new is own ghost gets = gets_alike (λ y. y ≡ copy) (IsUnlessKept g marks right) old new (λ x. (λ e. (e ∙ is, own, ghost), λ h. h.0 ∙ sym is)) gets

module _ (g : Graph Item) (edit : Edit) (marks : List ℕ) where
  pub touched_granted : (rights : List Item) → ((x : Item) → Contains rights x ↔ IsTouchedRight g marks x) → (x : Item) → Contains rights x → IsRightOrRoleGrant x
  touched_granted rights are x h = may_is_granted x ((are x).0 h).2.0

  pub start_are : (items rights start : List Item) → ((x : Item) → Contains items x ↔ IsTouchedItem g marks edit x) → ((x : Item) → Contains rights x ↔ IsTouchedRight g marks x) → ((x : Item) → Contains start x ↔ (Contains items x ⊎ Contains rights x)) → AreTouchedItems g marks edit start
  start_are items rights start touched right joined x = (
    λ h. elim ((joined x).0 h) [ inl i ↦ inl ((touched x).0 i) | inr r ↦ inr ((right x).0 r) ],
    λ h. (joined x).1 (elim h [ inl i ↦ inl ((touched x).1 i) | inr r ↦ inr ((right x).1 r) ]),
  )

  -- what is touched is apart from each unmarked item
  pub start_apart : AreApart g edit → HaveSpread g edit marks → (start : List Item) → AreTouchedItems g marks edit start → under.AreApart g marks start
  start_apart apart spread start are x y h free e = elim ((are x).0 h) [
    | inr right ↦ only_granted x y (may_is_granted x right.2.0) e
    | inl touched ↦ (elim touched [
      | inl left ↦ apart.items x y ((left.0, left.2.0), left.2.1) ((free.0, free.1.0), free.1.2) e
      | inr added ↦ sym (apart.added y x ((free.0, free.1.0), free.1.2) ((λ t. free.1.1 (spread.begun y (of_target t) free.0 free.1.0)), (λ t. free.1.1 (spread.begun y (of_changed t) free.0 free.1.0))) added (flipped x y e))
    ])
  ]

  -- the touched items, and the possible rights that were put in
  pub by_parts : (items rights part new : List Item) → ((x : Item) → Contains items x ↔ IsTouchedItem g marks edit x) → ((x : Item) → Contains rights x ↔ IsSystemRight part x)
      → Gets (λ x. (right : Item) × Contains rights right × IsUnlessKept g marks right x) items new → (x : Item) → Contains new x ↔ IsSuspectBy g marks edit part x
  by_parts items rights part new touched possible gets x = (
    λ h. elim ((gets x).0 h) [ inl i ↦ inl ((touched x).0 i) | inr r ↦ inr (subst (IsPossibleSuspect g marks part) (sym r.2.0) ((possible r.0).0 r.1, r.2.1, r.2.2)) ],
    λ h. (gets x).1 (elim h [ inl t ↦ inl ((touched x).1 t) | inr p ↦ inr (x, (possible x).1 p.0, (refl, p.1, p.2)) ]),
  )

-- ---- what it costs

-- what the system could grant for a list it could grant for each that has it all
right_within : (part more : List Item) → IsWithin part more → (r : Right) → MayBeSystemRight part r → MayBeSystemRight more r
right_within part more within r is = (is.0, column r.need.column is.1, by is.2.0 is.2.1 is.2.2)
  where
    column : (name : Option (List ℕ)) → HasColumn part r.need.on name → HasColumn more r.need.on name
    column None h = tt
    column (Some name) h = (h.0, within h.0 h.1, h.2)

    by : (z : Item) → Contains part z → MayBeSystemSchema part r z → Has more (MayBeSystemSchema more r)
    by (item.Schema z) inside at = (item.Schema z, within (item.Schema z) inside, (at.0, (at.1.0, within at.1.0 at.1.1, at.1.2)))
    by _ inside at = absurd at

pub possible_within : (part more : List Item) → IsWithin part more → (x : Item) → IsSystemRight part x → IsSystemRight more x
possible_within part more within (item.Held r) is = right_within part more within r is
possible_within part more within (item.Grantable r) is = right_within part more within r is
possible_within part more within _ is = absurd is

pub fewer_rights : (part more rights all : List Item) → IsWithin part more → IsInOrder rights → ((x : Item) → Contains rights x ↔ IsSystemRight part x) → ((x : Item) → IsSystemRight more x → Contains all x) → length rights ≤ length all
fewer_rights part more rights all within order are has = no_longer rights all (once rights order) (λ x h. has x (possible_within part more within x ((are x).0 h)))

module _ (g : Graph Item) (edit : Edit) (marks : List ℕ) where
  -- what is touched is in each list that has all
  pub start_in_all : (start : List Item) → AreTouchedItems g marks edit start → (whole all : List Item) → HasAllTouched g marks edit whole all → IsWithin start all
  start_in_all start are whole all has x h = has x (elim ((are x).0 h) [ inl t ↦ inl t | inr r ↦ inr (inl r) ])

  -- and so are the suspects
  pub suspects_in_all : (part whole all new : List Item) → IsWithin part whole → ((x : Item) → Contains new x ↔ IsSuspectBy g marks edit part x) → HasAllTouched g marks edit whole all → IsWithin new all
  suspects_in_all part whole all new within by has x h = has x (elim ((by x).0 h) [ inl t ↦ inl t | inr p ↦ inr (inr (possible_within part whole within x p.0, p.1, p.2)) ])

  -- a suspect is touched, or a right
  pub further_of : (touched rights start part new : List Item) → ((x : Item) → Contains touched x ↔ IsTouchedItem g marks edit x) → ((x : Item) → Contains start x ↔ (Contains touched x ⊎ Contains rights x))
      → ((x : Item) → Contains new x ↔ IsSuspectBy g marks edit part x) → (x : Item) → Contains new x → Contains start x ⊎ IsRightOrRoleGrant x
  further_of touched rights start part new items joined by x h = elim ((by x).0 h) [ inl t ↦ inl ((joined x).1 (inl ((items x).1 t))) | inr p ↦ inr (possible_is_granted part x p.0) ]

pub short_start : (start all : List Item) → IsInOrder start → IsWithin start all → length start ≤ length all
short_start start all order within = no_longer start all (once start order) within
