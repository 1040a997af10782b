-- What is counted as touched is a suspect that is spoken of, or a right that the system could grant and that is spoken of no more.
use Rattle.std.proofs.Common.{◌≡◌, ◌⊎◌, inl, inr, ℕ, true, List, refl, sym, subst, true≢false}
use Rattle.std.specs.List.{Contains}
use Rattle.std.specs.declared.cmp.Ordering.TheVariants.{Equal}
use Rattle.std.proofs.lemmas.Bool.{cases_Bool}
use Rattle.std.proofs.lemmas.Bool.Decides.{not_from_Decides}
use Rattle.finite_chains.specs.Chains.{IsWithin}
use Rattle.item_index.specs.Graphs.{Graph, HasKey}
use Rattle.link_marks.specs.Reached.{first}
use Rattle.cat_items.specs.declared.edit.Edit.{Edit}
use Rattle.cat_items.specs.declared.need.Auth.{Auth}
use Rattle.cat_items.specs.declared.need.Auth.TheVariants.{Named, Public, System}
use Rattle.cat_items.specs.declared.item.Item.{Item}
use Rattle.cat_items.specs.declared.item.Item.TheVariants as item
use Rattle.cat_items.specs.Bound.{IsBound, IsSuspect}
use Rattle.cat_items.specs.Bound as bound
use Rattle.cat_items.specs.Fit.{IsFit, IsRight}
use Rattle.cat_items.specs.Good.{IsGood}
use Rattle.cat_items.specs.Order.{item_cmp}
use Rattle.cat_items.specs.Relevant.{Relevant, named}
use Rattle.cat_items.specs.Survivors.{IsSystemRight}
use Rattle.support_laws.proofs.Decisions.{Decided, system_right}
use Rattle.edit_laws.proofs.EditedLists.{one_by_key}
use Rattle.edit_rules.specs.Chosen.{IsRightOrRoleGrant}
use Rattle.edit_rules.proofs.ItemKeys.{one_granted, only_granted}
use Rattle.board_graph.specs.BoardKeys.{IsHelper, IsKeyOf, IsPlace, ghost_key, of_item, of_possible}
use Rattle.board_marks.specs.Marks.{IsMarked}
use Rattle.board_steps.proofs.Holding.{holds}
use Rattle.asked_parts.specs.Parts.{IsKept}
use Rattle.asked_parts.proofs.RoundLaws.{there_or_not}
use Rattle.edit_suspects.specs.Helpers.{is_by_system, may_be_ghost}
use Rattle.edit_suspects.specs.Seeds as seeds
use Rattle.edit_suspects.proofs.GhostKeys.{ghost_helps, ghost_no_topic, one_ghost, possible_is_ghost, possible_is_granted}
use Rattle.edit_parts.specs.Touched.{IsTouchedItem, IsTouchedRight}
use Rattle.look_up_bound.specs.Touched.{IsPaidFor, IsTouched, of_new}
use Rattle.look_up_bound.proofs.Touching.{touched_is_suspect}
use Rattle.cascade_bound.specs.Marked.{AreTouchedOn}
use Rattle.cascade_bound.proofs.Coming.{is_right}
use Rattle.cascade_bound.proofs.Nodes.{same_itself}
use Rattle.cascade_bound.proofs.Reached.{known_touched, tells_changed, tells_target}

-- a right that the system could grant for the edited list, and that has no node without a mark
abbrev pub IsFree : Graph Item → List ℕ → List Item → Item → Type 0
IsFree g marks edited x = IsSystemRight edited x × IsMarked g marks x × IsMarked g marks (ghost_key x)

abbrev pub IsCounted : Graph Item → List ℕ → Edit → List Item → Item → Type 0
IsCounted g marks edit edited x = IsTouchedItem g marks edit x ⊎ (IsTouchedRight g marks x ⊎ IsFree g marks edited x)

abbrev pub IsSpoken : List Item → Edit → Item → Type 0
IsSpoken u edit x = Contains u x × IsSuspect u edit x

-- a right that the system could grant, that doesn't stand, and that is spoken of no more
pub record IsGone (u c : List Item) (edit : Edit) (x : Item) : Type 0 where
  pub possible : IsSystemRight c x
  pub absent : ¬ (Contains c x)
  pub out : ¬ (Contains u x)
  pub paid : IsPaidFor u c edit x

no_place : (a b : Auth) → is_by_system a b ≡ true → IsPlace a b → ⊥
no_place System (Named name) e is = is
no_place System System e is = absurd (true≢false (sym e))
no_place System Public e is = absurd (true≢false (sym e))
no_place Public b e is = absurd (true≢false (sym e))
no_place (Named name) b e is = absurd (true≢false (sym e))

may_no_helper : (x : Item) → may_be_ghost x ≡ true → IsHelper x → ⊥
may_no_helper (item.Held r) e helper = no_place r.grantor r.grantee e helper
may_no_helper (item.Grantable r) e helper = no_place r.grantor r.grantee e helper
may_no_helper _ e helper = absurd (true≢false (sym e))

may_is_right : (x : Item) → may_be_ghost x ≡ true → IsRight x
may_is_right (item.Held r) e = tt
may_is_right (item.Grantable r) e = tt
may_is_right _ e = absurd (true≢false (sym e))

pub right_granted : (x : Item) → IsRight x → IsRightOrRoleGrant x
right_granted (item.Held r) is = tt
right_granted (item.Grantable r) is = tt
right_granted _ is = absurd is

module _ (g : Graph Item) (c edited : List Item) (edit : Edit) (marks own : List ℕ) (on : AreTouchedOn g c edit marks own) (good : IsGood c) (fit : IsFit c edit edited) (most : ℕ) (b : IsBound c edit edited most) where
  abbrev u : List Item
  u = b.u

  within : IsWithin c u
  within y h = (b.spoken_of.members y).1 (inl h)

  spread_to : (x : Item) → IsPaidFor u c edit x → Contains u x → IsSpoken u edit x
  spread_to x paid there = (
    there,
    bound.spread paid.payer x paid.suspect (within paid.payer paid.pays.stands) there (elim paid.pays.is [
      | inl e ↦ subst (λ y. Relevant u paid.payer y) (sym e) (named (inl paid.pays.is_part))
      | inr e ↦ subst (λ y. Relevant u paid.payer y) (sym e) (named (inl paid.pays.is_part))
    ]),
  )

  of_touched : (x : Item) → IsTouched c edit edited x → IsSpoken u edit x ⊎ IsPaidFor u c edit x
  of_touched x touched = touched_is_suspect u c edit edited fit b.spoken_of.members (tells_target g c edited edit marks own on good fit) (tells_changed g c edited edit marks own on good fit) x touched

  of_known : (n : ℕ) (x k : Item) → Contains marks n → HasKey g n k → IsKeyOf c x k → IsSpoken u edit x ⊎ IsGone u c edit x
  of_known n x k marked has key = elim (of_touched x (known_touched g c edited edit marks own on good fit n x k marked has key)) [ inl is ↦ inl is | inr paid ↦ by paid key ]
    where
      by : IsPaidFor u c edit x → IsKeyOf c x k → IsSpoken u edit x ⊎ IsGone u c edit x
      by paid (of_item h e) = inl (spread_to x paid (within x h))
      by paid (of_possible possible none e) = elim (there_or_not u x (possible_is_granted c x possible)) [
        | inl there ↦ inl (spread_to x paid there)
        | inr out ↦ inr (record { possible = possible; absent = none; out = out; paid = paid })
      ]

  own_item : (x : Item) → (¬ (IsHelper x)) → (n : ℕ) → HasKey g n x → Contains c x
  own_item x other n has = (holds g c on.no_helper on.full.board x).1 ((n, has), other)

  ghost_known : (x : Item) → may_be_ghost x ≡ true → (n : ℕ) → HasKey g n (ghost_key x) → IsKeyOf c x (ghost_key x)
  ghost_known x may n has = elim (on.full.board.helpers n (ghost_key x) has) [
    | inl of ↦ by of.0 of.1
    | inr topic ↦ absurd (ghost_no_topic x topic.0 may topic.1 topic.2)
  ]
    where
      by : (z : Item) → IsKeyOf c z (ghost_key x) → IsKeyOf c x (ghost_key x)
      by z (of_item h e) = absurd (on.no_helper z h (subst IsHelper e (ghost_helps x may)))
      by z (of_possible possible none e) = subst (λ w. IsKeyOf c w (ghost_key x)) (sym (one_ghost x z may (possible_is_ghost c z possible) e)) (of_possible possible none e)

  -- ---- each that is counted

  pub counted_is : (x : Item) → IsCounted g marks edit edited x → IsSpoken u edit x ⊎ IsGone u c edit x
  counted_is x (inl (inl left)) =
      let key : IsKeyOf c x x = of_item (own_item x left.2.1 left.0 left.2.0) refl in
      of_known left.0 x x left.1 left.2.0 key
  counted_is x (inl (inr added)) = inl ((b.spoken_of.members x).1 (inr (inl added)), bound.of_added x added)
  counted_is x (inr (inl right)) = elim right.2.1 [
    | inl has ↦ of_known right.0 x x right.1 has (of_item (own_item x (may_no_helper x right.2.0) right.0 has) refl)
    | inr has ↦ of_known right.0 x (ghost_key x) right.1 has (ghost_known x right.2.0 right.0 has)
  ]
  counted_is x (inr (inr free)) = inl (elim (there_or_not c x granted) [
    | inl old ↦ of_key x (of_item old refl) free.1
    | inr new ↦ (elim (cases_Bool before.0) [
      | inl e ↦ of_key (ghost_key x) (of_possible (before.1.0 e) new refl) free.2
      | inr e ↦ spoken_new (of_touched x (of_new x free.0 (not_from_Decides before.0 before.1 e)))
    ])
  ])
    where
      granted : IsRightOrRoleGrant x
      granted = possible_is_granted edited x free.0

      before : Decided (IsSystemRight c x)
      before = system_right c x

      there : Contains u x
      there = (b.spoken_of.members x).1 (inr (inr free.0))

      of_key : (k : Item) → IsKeyOf c x k → IsMarked g marks k → IsSpoken u edit x
      of_key k key marked =
          let at = on.full.board.items x k key in
          elim (of_known at.0 x k (marked at.0 at.1) at.1 key) [ inl is ↦ is | inr gone ↦ absurd (gone.out there) ]

      spoken_new : IsSpoken u edit x ⊎ IsPaidFor u c edit x → IsSpoken u edit x
      spoken_new (inl is) = is
      spoken_new (inr paid) = spread_to x paid there

  -- ---- what is counted or kept is of the edited list, or a right

  pub stays : (y : Item) → IsKept g c marks y → Contains edited y
  stays y kept =
      let n = kept.1.0 in
      let reached : seeds.IsSeedKey edit y → ⊥ = λ seed. kept.1.2 ((on.touched.reached.exactly n).1 (first ((on.touched.seeds n).1 (y, seed, (y, kept.1.1, same_itself y))))) in
      (fit.is_edited.members y).1 (inl (kept.0, (λ h. reached (seeds.of_target h)), (λ h. reached (seeds.of_changed h))))

  pub of_edited : (x : Item) → IsCounted g marks edit edited x → Contains edited x ⊎ IsRight x
  of_edited x (inl (inl left)) = inl ((fit.is_edited.members x).1 (inl (own_item x left.2.1 left.0 left.2.0, left.2.2.0, left.2.2.1)))
  of_edited x (inl (inr added)) = inl ((fit.is_edited.members x).1 (inr added))
  of_edited x (inr (inl right)) = inr (may_is_right x right.2.0)
  of_edited x (inr (inr free)) = inr (is_right edited x free.0)

  -- items of the edited list and rights with one place are one
  pub one_placed : (x y : Item) → Contains edited x ⊎ IsRight x → Contains edited y ⊎ IsRight y → item_cmp x y ≡ Equal → x ≡ y
  one_placed x y (inr right) h e = only_granted x y (right_granted x right) e
  one_placed x y (inl here) (inr right) e = one_granted x y (right_granted y right) e
  one_placed x y (inl here) (inl there) e = one_by_key edited fit.is_edited.order x y here there e
