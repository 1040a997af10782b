-- What an edit doesn't touch of a whole catalogue, and which rights are suspects by it.
use Rattle.std.proofs.Common.{◌≡◌, ◌⊎◌, ◌↔◌, inl, inr, ℕ, Bool, true, false, List, nat_eq, refl, subst}
use Rattle.std.specs.List.{Contains, list_any}
use Rattle.std.proofs.lemmas.Bool.{cases_Bool}
use Rattle.item_index.specs.Graphs.{Graph, HasKey, IsWhole}
use Rattle.cat_items.specs.declared.edit.Edit.{Edit}
use Rattle.cat_items.specs.declared.item.Item.{Item}
use Rattle.cat_items.specs.Batch.{IsWithout}
use Rattle.cat_items.specs.Catalogues.{IsInOrder}
use Rattle.cat_items.specs.Survivors.{IsSystemRight}
use Rattle.edit_rules.proofs.ItemKeys.{only_granted}
use Rattle.board_graph.specs.BoardKeys.{IsHelper, ghost_key, of_item, of_possible}
use Rattle.board_steps.specs.Plans.{HasNoHelper, IsFullBoard}
use Rattle.board_steps.proofs.Holding.{holds}
use Rattle.board_marks.specs.Marks.{IsMarked}
use Rattle.edit_suspects.specs.Helpers.{is_helper, may_be_ghost}
use Rattle.edit_suspects.specs.Seeds.{HaveSpread, of_added, of_changed, of_target}
use Rattle.edit_suspects.specs.Seeds as seeds
use Rattle.edit_suspects.proofs.GhostKeys.{helper_is, possible_is_ghost, possible_is_granted}
use Rattle.asked_parts.specs.Parts.{IsPartOf}
use Rattle.asked_parts.specs.Under as under
use Rattle.asked_parts.specs.Under.{IsUnmarked}
use Rattle.asked_parts.proofs.RoundLaws.{there_or_not}
use Rattle.asked_parts.proofs.UnderLaws.{marked, not_marked}
use Rattle.edit_parts.specs.Parts.{AreBoth, IsPossibleSuspect, IsSuspectBy}
use Rattle.edit_parts.specs.Touched.{IsTouchedItem, IsTouchedRight}
use Rattle.edit_parts.specs.Whole.{IsTouchedOrFresh, IsUntouched}
use Rattle.edit_parts.proofs.GhostLaws.{ghost_stands, may_no_helper, own_item}

-- lists by other names
pub without_as : (a b out other new : List Item) → a ≡ b → out ≡ other → IsWithout a out new → IsWithout b other new
without_as a b out other new p q h = subst (λ l. IsWithout l other new) p (subst (λ l. IsWithout a l new) q h)

pub left_untouched : (c : List Item) (edit : Edit) (touched standing left kept : List Item) → IsWithout c edit.target standing → IsWithout standing edit.changed left → IsWithout left touched kept → (x : Item) → Contains kept x ↔ IsUntouched c edit touched x
left_untouched c edit touched standing left kept first second third x = (
  λ h.
      let a = (third x).0 h in
      let b = (second x).0 a.0 in
      let d = (first x).0 b.0 in
      (d.0, (d.1, b.1), a.1),
  λ h. (third x).1 ((second x).1 ((first x).1 (h.0, h.1.0), h.1.1), h.2),
)

pub all_touched_or_fresh : (c rights part before after known standing unknown further : List Item) → ((x : Item) → Contains before x ↔ IsSystemRight c x) → ((x : Item) → Contains after x ↔ IsSystemRight part x)
    → IsWithout before rights known → IsWithout c rights standing → IsWithout after known unknown → IsWithout unknown standing further → (x : Item) → Contains further x ↔ IsTouchedOrFresh c rights part x
all_touched_or_fresh c rights part before after known standing unknown further could can are_known are_standing are_unknown are_further x = (
  λ h.
      let a = (are_further x).0 h in
      let b = (are_unknown x).0 a.0 in
      let is = (can x).0 b.0 in (
        is,
        elim (there_or_not rights x (possible_is_granted part x is)) [
          | inl touched ↦ inl touched
          | inr other ↦ inr ((λ there. a.1 ((are_standing x).1 (there, other))), (λ was. b.1 ((are_known x).1 ((could x).1 was, other))))
        ],
      ),
  λ h. elim h.1 [
    | inl touched ↦ (are_further x).1 ((are_unknown x).1 ((can x).1 h.0, (λ k. ((are_known x).0 k).1 touched)), (λ s. ((are_standing x).0 s).1 touched))
    | inr fresh ↦ (are_further x).1 ((are_unknown x).1 ((can x).1 h.0, (λ k. fresh.1 ((could x).0 ((are_known x).0 k).0))), (λ s. fresh.0 ((are_standing x).0 s).0))
  ],
)

-- ---- by the board

no_helper : (x : Item) → (¬ (IsHelper x)) → is_helper x ≡ false
no_helper x other = elim (cases_Bool (is_helper x)) [ inl e ↦ absurd (other ((helper_is x).0 e)) | inr e ↦ e ]

module _ (g : Graph Item) (edit : Edit) (marks : List ℕ) (c : List Item) (no_c : HasNoHelper c) (full : IsFullBoard g c) where
  module _ (touched kept : List Item) (touched_are : (x : Item) → Contains touched x ↔ IsTouchedItem g marks edit x) (kept_are : (x : Item) → Contains kept x ↔ IsUntouched c edit touched x) where
    -- what the edit leaves and doesn't touch has no mark
    pub kept_unmarked : (y : Item) → Contains kept y → IsUnmarked g marks y
    kept_unmarked y h =
        let is = (kept_are y).0 h in
        let at = full.board.items y y (of_item is.0 refl) in
        elim (cases_Bool (list_any (nat_eq at.0) marks)) [
          | inl e ↦ absurd (is.2 ((touched_are y).1 (inl (at.0, marked marks at.0 e, (at.1, (λ helper. no_c y is.0 helper), is.1)))))
          | inr e ↦ (at.0, (at.1, not_marked marks at.0 e, (λ helper. no_c y is.0 helper)))
        ]

    module _ (eq : Item → Item → Bool) (whole : IsWhole eq g) (itself : (k : Item) → eq k k ≡ true) (spread : HaveSpread g edit marks) where
      -- and nothing else has none
      pub unmarked_kept : (y : Item) → IsUnmarked g marks y → Contains kept y
      unmarked_kept y is =
          let there = own_item g c no_c full y is.1.2 is.0 is.1.0 in
          (kept_are y).1 (
            there,
            ((λ h. is.1.1 (spread.begun y (of_target h) is.0 is.1.0)), (λ h. is.1.1 (spread.begun y (of_changed h) is.0 is.1.0))),
            (λ h. elim ((touched_are y).0 h) [
              | inl left ↦ is.1.1 (subst (Contains marks) (whole.distinct left.0 is.0 y y left.2.0 is.1.0 (itself y)) left.1)
              | inr added ↦ is.1.1 (spread.begun y (of_added (y, added, seeds.of_item (no_helper y is.1.2) refl)) is.0 is.1.0)
            ]),
          )

      -- some items and all that have no mark are a part
      pub part_with_kept : (old : List Item) → HasNoHelper old → IsFullBoard g old → (some part : List Item) → IsInOrder part → AreBoth some kept part → IsPartOf g old marks some part
      part_with_kept old no_old full_old some part order both = record {
        order = order;
        has_suspects = λ x h. (both x).1 (inl h);
        from = λ x h. elim ((both x).0 h) [
          | inl is ↦ inl is
          | inr here ↦ (let free = kept_unmarked x here in inr ((holds g old no_old full_old.board x).1 ((free.0, free.1.0), free.1.2), (free.0, free.1.0, free.1.1)))
        ];
        asked = λ x y t h free asks below. (both y).1 (inr (unmarked_kept y (free.1.0, (free.1.1, free.1.2, (λ helper. no_old y free.0 helper)))));
      }

  module _ (rights : List Item) (rights_are : (x : Item) → Contains rights x ↔ IsTouchedRight g marks x) where
    -- a right that stands, or could be granted, and that has no unmarked number is touched
    standing_touched : (x : Item) → may_be_ghost x ≡ true → IsMarked g marks x → Contains c x → Contains rights x
    standing_touched x may own there = let at = full.board.items x x (of_item there refl) in (rights_are x).1 (at.0, own at.0 at.1, (may, inl at.1))

    possible_touched : (x : Item) → may_be_ghost x ≡ true → IsMarked g marks x → IsMarked g marks (ghost_key x) → IsSystemRight c x → Contains rights x
    possible_touched x may own ghost possible = elim (there_or_not c x (possible_is_granted c x possible)) [
      | inl there ↦ standing_touched x may own there
      | inr none ↦ (let at = full.board.items x (ghost_key x) (of_possible possible none refl) in (rights_are x).1 (at.0, ghost at.0 at.1, (may, inr at.1)))
    ]

    to_further : (part : List Item) (x : Item) → IsPossibleSuspect g marks part x → IsTouchedOrFresh c rights part x
    to_further part x is =
        let may = possible_is_ghost part x is.0 in (
          is.0,
          elim (there_or_not rights x (possible_is_granted part x is.0)) [
            | inl touched ↦ inl touched
            | inr other ↦ inr ((λ h. other (standing_touched x may is.1 h)), (λ h. other (possible_touched x may is.1 is.2 h)))
          ],
        )

    module _ (eq : Item → Item → Bool) (whole : IsWhole eq g) (itself : (k : Item) → eq k k ≡ true) where
      -- the marked number of a key is its only one
      only_one : (k : Item) (m n : ℕ) → Contains marks m → HasKey g m k → HasKey g n k → Contains marks n
      only_one k m n mark has also = subst (Contains marks) (whole.distinct m n k k has also (itself k)) mark

      touched_marked : (x : Item) → IsTouchedRight g marks x → IsMarked g marks x × IsMarked g marks (ghost_key x)
      touched_marked x (m, mark, (may, inl own)) = (
        λ n has. only_one x m n mark own has,
        λ n has. absurd ((ghost_stands g c no_c full x may n has).1 (own_item g c no_c full x (may_no_helper x may) m own)),
      )
      touched_marked x (m, mark, (may, inr ghost)) = (
        λ n has. absurd ((ghost_stands g c no_c full x may m ghost).1 (own_item g c no_c full x (may_no_helper x may) n has)),
        λ n has. only_one (ghost_key x) m n mark ghost has,
      )

      from_further : (part : List Item) (x : Item) → IsTouchedOrFresh c rights part x → IsPossibleSuspect g marks part x
      from_further part x (is, inl touched) = let both = touched_marked x ((rights_are x).0 touched) in (is, both.0, both.1)
      from_further part x (is, inr fresh) =
          let may = possible_is_ghost part x is in (
            is,
            (λ n has. absurd (fresh.0 (own_item g c no_c full x (may_no_helper x may) n has))),
            (λ n has. absurd (fresh.1 (ghost_stands g c no_c full x may n has).0)),
          )

      -- the touched items and these rights are the suspects
      pub suspects_by_whole : (part touched further suspects : List Item) → ((x : Item) → Contains touched x ↔ IsTouchedItem g marks edit x) → ((x : Item) → Contains further x ↔ IsTouchedOrFresh c rights part x) → AreBoth touched further suspects
          → (x : Item) → Contains suspects x ↔ IsSuspectBy g marks edit part x
      suspects_by_whole part touched further suspects touched_are further_are both x = (
        λ h. elim ((both x).0 h) [ inl t ↦ inl ((touched_are x).0 t) | inr r ↦ inr (from_further part x ((further_are x).0 r)) ],
        λ h. (both x).1 (elim h [ inl t ↦ inl ((touched_are x).1 t) | inr p ↦ inr ((further_are x).1 (to_further part x p)) ]),
      )

-- suspects are apart from each unmarked item: they are touched, or rights
pub suspects_apart : (g : Graph Item) (marks : List ℕ) (c start touched rights further part suspects : List Item) → under.AreApart g marks start → ((x : Item) → Contains start x ↔ (Contains touched x ⊎ Contains rights x)) → ((x : Item) → Contains further x ↔ IsTouchedOrFresh c rights part x)
    → AreBoth touched further suspects → under.AreApart g marks suspects
suspects_apart g marks c start touched rights further part suspects apart joined further_are both x y h free e = elim ((both x).0 h) [
  | inl t ↦ apart x y ((joined x).1 (inl t)) free e
  | inr r ↦ only_granted x y (possible_is_granted part x ((further_are x).0 r).0) e
]
