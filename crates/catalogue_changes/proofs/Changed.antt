-- What a change makes of a catalogue, and what an edit changes.
use Rattle.std.proofs.Common.{◌≡◌, ◌≢◌, ◌⊎◌, List, sym, subst, inl, inr}
use Rattle.std.specs.List.{Contains}
use Rattle.std.specs.declared.cmp.Ordering.TheVariants.{Equal}
use Rattle.finite_chains.specs.Chains.{IsWithin}
use Rattle.cat_items.specs.declared.edit.Edit.{Edit}
use Rattle.cat_items.specs.declared.item.Item.{Item}
use Rattle.cat_items.specs.Batch.{HaveNoKeyInCommon, IsJoined, IsWithout}
use Rattle.cat_items.specs.Catalogues.{IsInOrder}
use Rattle.cat_items.specs.Order.{item_cmp}
use Rattle.cat_items.specs.Survivors.{IsSystemRight}
use Rattle.cat_items.proofs.CatalogueLemmas.{same_in_order}
use Rattle.cat_items.proofs.KeyLemmas.{same_key}
use Rattle.new_catalogues.proofs.Joins.{one_by_key, one_right}
use Rattle.catalogue_changes.specs.declared.change.Change.{Change}
use Rattle.catalogue_changes.specs.declared.effects.Effects.{Effects}
use Rattle.catalogue_changes.specs.Changes.{IsChange}
use Rattle.catalogue_changes.specs.Effects.{IsMadeBy}
use Rattle.catalogue_changes.specs.Parts.{AreArriving, AreLeaving, StaysAs}
use Rattle.catalogue_changes.proofs.Keys.{key_or_none}
use Rattle.catalogue_changes.proofs.Lengths.{IsExchange}
use Rattle.catalogue_changes.proofs.Outcomes as outcome

-- ---- the same of equal lists

pub same_apart : (a b x y : List Item) → a ≡ x → b ≡ y → HaveNoKeyInCommon x y → HaveNoKeyInCommon a b
same_apart a b x y p q h = subst (λ l. HaveNoKeyInCommon l b) (sym p) (subst (λ l. HaveNoKeyInCommon x l) (sym q) h)

pub same_join : (a b x y new : List Item) → a ≡ x → b ≡ y → IsJoined a b new → IsJoined x y new
same_join a b x y new p q h = subst (λ l. IsJoined l y new) p (subst (λ l. IsJoined a l new) q h)

pub same_rest : (a b x y new : List Item) → a ≡ x → b ≡ y → IsWithout a b new → IsWithout x y new
same_rest a b x y new p q h = subst (λ l. IsWithout l y new) p (subst (λ l. IsWithout a l new) q h)

pub same_within : (a b x y : List Item) → a ≡ x → b ≡ y → IsWithin x y → IsWithin a b
same_within a b x y p q h = subst (λ l. IsWithin l b) (sym p) (subst (λ l. IsWithin x l) (sym q) h)

-- ---- a change that is made

pub exchange : (c new : List Item) (change : Change) → IsInOrder c → IsChange c new change → IsExchange c change.leaving.items change.coming.items new
exchange c new change order is = record {
  order = order;
  out_order = is.leaving_order;
  more_order = is.coming_order;
  new_order = is.new_order;
  within = is.leaving;
  members = is.members;
  apart = λ x h stays comes. is.apart x x h stays comes (same_key x);
}

pub may_come : (c new rest : List Item) (change : Change) → IsChange c new change → IsWithout c change.leaving.items rest → HaveNoKeyInCommon rest change.coming.items
may_come c new rest change is without x y hx hy = let stays = (without x).0 hx in is.apart x y stays.0 stays.1 hy

pub changed_list : (c new rest made : List Item) (change : Change) → IsChange c new change → IsWithout c change.leaving.items rest → IsJoined rest change.coming.items made → IsInOrder made → made ≡ new
changed_list c new rest made change is without joined order =
    same_in_order made new order is.new_order (λ x. (
      λ h. (is.members x).1 (elim ((joined x).0 h) [ inl stays ↦ inl ((without x).0 stays) | inr comes ↦ inr comes ]),
      λ h. (joined x).1 (elim ((is.members x).0 h) [ inl stays ↦ inl ((without x).1 stays) | inr comes ↦ inr comes ]),
    ))

-- ---- the change of an edit

module _ (c edited : List Item) (edit : Edit) (new : List Item) (effects : Effects) (made : IsMadeBy c edited edit new effects) where
  abbrev lost : List Item
  lost = effects.lost.items

  -- what leaves is of the catalogue, in three parts with no key in common
  pub leaving_within : (leaving : List Item) → AreLeaving edit lost leaving → IsWithin leaving c
  leaving_within leaving are x h =
      elim ((are.members x).0 h) [
        | inl target ↦ made.fit.target x target
        | inr more ↦ elim more [ inl changed ↦ made.fit.changed x changed | inr gone ↦ ((made.has_effects.lost.members x).0 gone).0 ]
      ]

  pub changed_apart : HaveNoKeyInCommon edit.target edit.changed
  changed_apart x y hx hy e = let same = one_by_key c made.order x y (made.fit.target x hx) (made.fit.changed y hy) e in (made.fit.apart y hy).0 (subst (Contains edit.target) same hx)

  pub lost_apart : (both : List Item) → IsJoined edit.target edit.changed both → HaveNoKeyInCommon both lost
  lost_apart both joined x y hx hy e =
      let is = (made.has_effects.lost.members y).0 hy in
      elim ((joined x).0 hx) [
        | inl target ↦ is.1 (subst (Contains edit.target) (one_by_key c made.order x y (made.fit.target x target) is.0 e) target)
        | inr changed ↦ is.2 (subst (Contains edit.changed) (one_by_key c made.order x y (made.fit.changed x changed) is.0 e) changed)
      ]

  pub leaving_list : (both leaving : List Item) → IsJoined edit.target edit.changed both → IsJoined both lost leaving → IsInOrder leaving → AreLeaving edit lost leaving
  leaving_list both leaving first second order = record {
    order = order;
    members = λ x. (
      λ h. elim ((second x).0 h) [
        | inl old ↦ elim ((first x).0 old) [ inl target ↦ inl target | inr changed ↦ inr (inl changed) ]
        | inr gone ↦ inr (inr gone)
      ],
      λ h. (second x).1 (elim h [
        | inl target ↦ inl ((first x).1 (inl target))
        | inr more ↦ elim more [ inl changed ↦ inl ((first x).1 (inr changed)) | inr gone ↦ inr gone ]
      ]),
    );
  }

  module _ (leaving : List Item) (are_leaving : AreLeaving edit lost leaving) where
    stays_edited : (x : Item) → Contains c x → (¬ (Contains leaving x)) → Contains edited x
    stays_edited x here stays = (made.fit.is_edited.members x).1 (inl (here, (λ h. stays ((are_leaving.members x).1 (inl h))), (λ h. stays ((are_leaving.members x).1 (inr (inl h))))))

    -- what stays stands
    stays_stand : (x : Item) → Contains c x → (¬ (Contains leaving x)) → Contains new x
    stays_stand x here stays =
        outcome.others_stand c edited edit new effects made x here
        (λ h. stays ((are_leaving.members x).1 (inl h)))
        (λ h. stays ((are_leaving.members x).1 (inr (inl h))))
        (λ h. stays ((are_leaving.members x).1 (inr (inr h))))

    -- what stands and isn't added stays, if it was there
    stand_stays : (x : Item) → Contains new x → (¬ (Contains edit.added x)) → ¬ (Contains leaving x)
    stand_stays x stands other h =
        elim ((are_leaving.members x).0 h) [
          | inl target ↦ other (outcome.target_goes c edited edit new effects made x target stands)
          | inr more ↦ elim more [
            | inl changed ↦ outcome.changed_goes c edited edit new effects made x changed stands
            | inr gone ↦ ((made.has_effects.lost.members x).0 gone).3 stands
          ]
        ]

    -- an added item whose key stays is itself there
    as_it_is : (x : Item) → Contains edit.added x → StaysAs c leaving x → Contains c x × (¬ (Contains leaving x))
    as_it_is x added one =
        let same : one.0 ≡ x = one_by_key edited made.fit.is_edited.order one.0 x (stays_edited one.0 one.1 one.2) ((made.fit.is_edited.members x).1 (inr added)) one.3 in
        subst (λ y. Contains c y × (¬ (Contains leaving y))) same (one.1, one.2)

    module _ (arriving : List Item) (are_arriving : AreArriving c leaving edit.added arriving) where
      -- an item that falls arrives
      pub fallen_within : IsWithin effects.fallen.items arriving
      fallen_within x h =
          let is = (made.has_effects.fallen.members x).0 h in
          elim (are_arriving.others x is.0) [
            | inl there ↦ there
            | inr one ↦ let old = as_it_is x is.0 one in absurd (is.1 (stays_stand x old.0 old.1))
          ]

      module _ (rest : List Item) (without : IsWithout arriving effects.fallen.items rest) where
        rest_added : (x : Item) → Contains rest x → Contains edit.added x
        rest_added x h = are_arriving.within x ((without x).0 h).0

        rest_stands : (x : Item) → Contains rest x → Contains new x
        rest_stands x h =
            elim (outcome.stands_or_not c edited edit new effects made x ((made.fit.is_edited.members x).1 (inr (rest_added x h)))) [
              | inl stands ↦ stands
              | inr not ↦ absurd (((without x).0 h).1 ((made.has_effects.fallen.members x).1 (rest_added x h, not)))
            ]

        new_order : IsInOrder new
        new_order = outcome.new_order c edited edit new effects made

        pub gained_apart : HaveNoKeyInCommon rest effects.gained.items
        gained_apart x y hx hy e =
            let is = (made.has_effects.gained.members y).0 hy in
            is.2 (subst (Contains edit.added) (one_by_key new new_order x y (rest_stands x hx) is.0 e) (rest_added x hx))

        module _ (coming : List Item) (order : IsInOrder coming) (joined : IsJoined rest effects.gained.items coming) where
          abbrev Stays : Item → Type 0
          Stays x = Contains c x × (¬ (Contains leaving x))

          added_comes : (x : Item) → Contains new x → Contains edit.added x → Stays x ⊎ Contains coming x
          added_comes x stands added =
              elim (are_arriving.others x added) [
                | inl there ↦ inr ((joined x).1 (inl ((without x).1 (there, λ h. ((made.has_effects.fallen.members x).0 h).1 stands))))
                | inr one ↦ inl (as_it_is x added one)
              ]

          not_added : (x : Item) → Contains new x → IsSystemRight edited x → (¬ (Contains edit.added x)) → Stays x ⊎ Contains coming x
          not_added x stands right other =
              elim (key_or_none c x) [
                | inl old ↦ inl (subst (Contains c) (one_right edited old.0 x right old.2) old.1, stand_stays x stands other)
                | inr none ↦ inr ((joined x).1 (inr ((made.has_effects.gained.members x).1 (stands, (λ h. none x h (same_key x)), other))))
              ]

          stands_by : (x : Item) → Contains new x → Stays x ⊎ Contains coming x
          stands_by x stands =
              elim (outcome.comes_from c edited edit new effects made x stands) [
                | inl there ↦ elim ((made.fit.is_edited.members x).0 there) [
                  | inl old ↦ inl (
                    old.0,
                    λ h. elim ((are_leaving.members x).0 h) [
                      | inl target ↦ old.1 target
                      | inr more ↦ elim more [ inl changed ↦ old.2 changed | inr gone ↦ ((made.has_effects.lost.members x).0 gone).3 stands ]
                    ],
                  )
                  | inr added ↦ added_comes x stands added
                ]
                | inr right ↦ elim (key_or_none edit.added x) [
                  | inl one ↦ added_comes x stands (subst (Contains edit.added) (one_right edited one.0 x right one.2) one.1)
                  | inr none ↦ not_added x stands right (λ h. none x h (same_key x))
                ]
              ]

          coming_stands : (x : Item) → Contains coming x → Contains new x
          coming_stands x h = elim ((joined x).0 h) [ inl more ↦ rest_stands x more | inr gained ↦ ((made.has_effects.gained.members x).0 gained).0 ]

          coming_apart : (x y : Item) → Contains c x → (¬ (Contains leaving x)) → Contains coming y → item_cmp x y ≢ Equal
          coming_apart x y here stays h e =
              elim ((joined y).0 h) [
                | inl more ↦ are_arriving.new y ((without y).0 more).0 (x, here, stays, e)
                | inr gained ↦
                    let is = (made.has_effects.gained.members y).0 gained in
                    is.1 (subst (Contains c) (one_by_key new new_order x y (stays_stand x here stays) is.0 e) here)
              ]

          pub is_change : (change : Change) → change.leaving.items ≡ leaving → change.coming.items ≡ coming → IsChange c new change
          is_change change out more = record {
            leaving_order = subst IsInOrder (sym out) are_leaving.order;
            leaving = subst (λ l. IsWithin l c) (sym out) (leaving_within leaving are_leaving);
            coming_order = subst IsInOrder (sym more) order;
            new_order = new_order;
            members = λ x. (
              λ h. subst (λ l. (Contains c x × (¬ (Contains l x))) ⊎ Contains change.coming.items x) (sym out) (subst (λ l. Stays x ⊎ Contains l x) (sym more) (stands_by x h)),
              λ h. elim (subst (λ l. Stays x ⊎ Contains l x) more (subst (λ l. (Contains c x × (¬ (Contains l x))) ⊎ Contains change.coming.items x) out h)) [
                | inl old ↦ stays_stand x old.0 old.1
                | inr comes ↦ coming_stands x comes
              ],
            );
            apart = λ x y here stays h. coming_apart x y here (subst (λ l. ¬ (Contains l x)) out stays) (subst (λ l. Contains l y) more h);
          }
