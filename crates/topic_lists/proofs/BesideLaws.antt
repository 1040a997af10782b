-- Rights by the system to SELECT on one object look for the same by way of it.
use Rattle.std.proofs.Common.{◌≡◌, ◌↔◌, ◌⊎◌, inl, inr, ℕ, Bool, true, false, List, Option, Some, None, IsTrue, refl, sym, ap, subst, ◌∙◌}
use Rattle.std.specs.List.{Contains}
use Rattle.sql_tree.specs.declared.rights.Action.{Action}
use Rattle.sql_tree.specs.declared.rights.Action.TheVariants.{Select, Insert, Update, Delete, References, Usage, Execute, Admin}
use Rattle.cat_items.specs.declared.need.Auth.{Auth}
use Rattle.cat_items.specs.declared.need.Auth.TheVariants.{System, Public, Named}
use Rattle.cat_items.specs.declared.need.Need.{Need}
use Rattle.cat_items.specs.declared.item.Right.{Right}
use Rattle.cat_items.specs.declared.item.Item.{Item}
use Rattle.cat_items.specs.declared.item.Item.TheVariants as item
use Rattle.cat_items.specs.Reach.{Has, Reaches}
use Rattle.cat_items.specs.Relevant.{ActsInRight, IsActor, IsNeedOf, OwnsPath}
use Rattle.cat_items.specs.Rights.{path_of}
use Rattle.cascade_laws.specs.Asks as asks
use Rattle.cascade_laws.specs.Asks.{Asks}
use Rattle.cascade_laws.specs.Topics.{Topic, IsOwnNeed}
use Rattle.topic_keys.specs.Lists.{Adds}
use Rattle.topic_keys.proofs.Adding.{adds_alike}
use Rattle.topic_lists.specs.Actors.{IsReachedBy}
use Rattle.topic_lists.specs.Beside.{AreBeside, HasAskedBefore, IsBeside, select_on, selected, selected_by}
use Rattle.topic_lists.specs.Needs.{IsFarNeed, IsFarNeedOn, IsFarRightNeed}
use Rattle.topic_lists.specs.Sought.{IsAskedFor, IsEdgesTopic, Looks}
use Rattle.topic_lists.proofs.NeedLaws.{all_needs}
use Rattle.topic_lists.proofs.TopicLaws.{IsLookedFor, IsPutIn, asked_is_put, put_is_asked}

-- ---- by the object alone

no_object : {P : Type 0} (on : List (List ℕ)) → None ≡ Some on → P
no_object on e = absurd (let odd : None ≡ Some on = e in cc)

is_select : (action : Action) (path on : List (List ℕ)) → select_on action path ≡ Some on → (action ≡ Select) × (path ≡ on)
is_select Select path on e = (refl, cc)
is_select Insert path on e = no_object on e
is_select Update path on e = no_object on e
is_select Delete path on e = no_object on e
is_select References path on e = no_object on e
is_select Usage path on e = no_object on e
is_select Execute path on e = no_object on e
is_select Admin path on e = no_object on e

-- a need of the view of this name
abbrev IsNeedThere : List (List ℕ) → Need → Item → Type 0
IsNeedThere on need (item.View v) = (on ≡ path_of v.view) × Contains v.needs need
IsNeedThere on need y = ⊥

need_there : (by : Need) (on : List (List ℕ)) → by.action ≡ Select → by.on ≡ on → (need : Need) (y : Item) → IsFarNeedOn by need y ↔ IsNeedThere on need y
need_there by on select same need (item.View v) = (λ h. (sym same ∙ h.0, h.2), λ h. (same ∙ h.0, select, h.1))
need_there by on select same need (item.Routine r) = (λ h. absurd (let odd : Select ≡ Execute = sym select ∙ ap (λ (n : Need). n.action) h.0 in cc), λ h. absurd h)
need_there by on select same need y = (λ h. absurd h, λ h. absurd h)

module _ (l : List Item) (on : List (List ℕ)) where
  right_need_there : (r : Right) (grantor : Auth) → selected_by grantor r.need ≡ Some on → (need : Need) → IsFarRightNeed l r grantor need ↔ Has l (IsNeedThere on need)
  right_need_there r System e need =
      let is = is_select r.need.action r.need.on on e in
      (λ h. (h.0, h.1, (need_there r.need on is.0 is.1 need h.0).0 h.2), λ h. (h.0, h.1, (need_there r.need on is.0 is.1 need h.0).1 h.2))
  right_need_there r Public e need = no_object on e
  right_need_there r (Named name) e need = no_object on e

  far_need_there : (x : Item) → selected x ≡ Some on → (need : Need) → IsFarNeed l x need ↔ Has l (IsNeedThere on need)
  far_need_there (item.Held r) e need = right_need_there r r.grantor e need
  far_need_there (item.Grantable r) e need = right_need_there r r.grantor e need
  far_need_there x e need = no_object on e

  right_actor_there : (r : Right) (grantor : Auth) → selected_by grantor r.need ≡ Some on → (a : Auth) → ActsInRight l r grantor a ↔ OwnsPath l on a
  right_actor_there r System e a =
      let is = is_select r.need.action r.need.on on e in
      subst (λ path. OwnsPath l r.need.on a ↔ OwnsPath l path a) is.1 (λ h. h, λ h. h)
  right_actor_there r Public e a = no_object on e
  right_actor_there r (Named name) e a = no_object on e

  actor_there : (x : Item) → selected x ≡ Some on → (a : Auth) → IsActor l x a ↔ OwnsPath l on a
  actor_there (item.Held r) e a = right_actor_there r r.grantor e a
  actor_there (item.Grantable r) e a = right_actor_there r r.grantor e a
  actor_there x e a = no_object on e

-- ---- of two on one object

module _ (l : List Item) (x y : Item) (beside : AreBeside x y) where
  need_beside : (need : Need) → IsFarNeed l x need → IsNeedOf l y need
  need_beside need h = (all_needs l y need).1 (inr ((far_need_there l beside.0 y beside.2 need).1 ((far_need_there l beside.0 x beside.1 need).0 h)))

  actor_beside : (a : Auth) → IsActor l x a → IsActor l y a
  actor_beside a h = (actor_there l beside.0 y beside.2 a).1 ((actor_there l beside.0 x beside.1 a).0 h)

  by_role : (need : Need) (t : Topic) (a g : Auth) → IsNeedOf l y need → IsActor l y a → Reaches l a g → IsEdgesTopic g t → Asks l y t
  by_role need t a (Named name) is actor to e = asks.of_edges a name (actor, inl (need, is)) to e
  by_role need t a System is actor to e = absurd e
  by_role need t a Public is actor to e = absurd e

  looked_beside : (need : Need) → IsFarNeed l x need → (t : Topic) → IsLookedFor l x need t → Asks l y t
  looked_beside need far t (inl e) = asks.of_need need (need_beside need far) e
  looked_beside need far t (inr h) = elim h.4 [
    | inl e ↦ asks.of_supply need h.0 h.1 (need_beside need far) (actor_beside h.0 h.2) h.3 e
    | inr e ↦ by_role need t h.0 h.1 (need_beside need far) (actor_beside h.0 h.2) h.3 e
  ]

-- ---- what is put in, with what is there

module _ (l : List Item) (x : Item) (needs : List Need) (reached : List Auth) (old new : List Item) (reach : (g : Auth) → Contains reached g ↔ (Looks needs x × IsReachedBy l x g)) (adds : Adds (IsPutIn needs reached x) old new) where
  with_far : ((need : Need) → Contains needs need ↔ IsNeedOf l x need) → Adds (IsAskedFor l x) old new
  with_far are =
      adds_alike (IsPutIn needs reached x) (IsAskedFor l x) old new (λ t. (
        put_is_asked l x needs reached reach (λ need h. (are need).0 h) t,
        λ h. elim (asked_is_put l x needs reached reach (λ t. ⊥) (λ need is. inl ((are need).1 is)) t h) [ inl put ↦ put | inr none ↦ absurd none ],
      )) adds

  without_far : (y : Item) → AreBeside x y → HasAskedBefore l (Some y) old → ((need : Need) → Contains needs need ↔ IsOwnNeed l x need) → Adds (IsAskedFor l x) old new
  without_far y beside before are k = (
    λ h. elim ((adds k).0 h) [
      | inl there ↦ inl there
      | inr of ↦ inr (of.0, put_is_asked l x needs reached reach (λ need n. (all_needs l x need).1 (inl ((are need).0 n))) of.0 of.1, of.2)
    ],
    λ h. elim h [
      | inl there ↦ (adds k).1 (inl there)
      | inr of ↦ elim (asked_is_put l x needs reached reach (Asks l y) found of.0 of.1) [
        | inl put ↦ (adds k).1 (inr (of.0, put, of.2))
        | inr other ↦ (adds k).1 (inl (before k (of.0, (other, of.1.1), of.2)))
      ]
    ],
  )
    where
      found : (need : Need) → IsNeedOf l x need → Contains needs need ⊎ ((t : Topic) → IsLookedFor l x need t → Asks l y t)
      found need is = elim ((all_needs l x need).0 is) [ inl own ↦ inl ((are need).1 own) | inr far ↦ inr (looked_beside l x y beside need far) ]

-- all that is asked for is there, where the needs by way of others are left out if they are those of the one before
pub adds_asked : (l : List Item) (x : Item) (before : Option Item) (known : Bool) (needs : List Need) (reached : List Auth) (old new : List Item) → IsTrue known ↔ IsBeside x before → HasAskedBefore l before old
    → ((need : Need) → Contains needs need ↔ (IsOwnNeed l x need ⊎ ((known ≡ false) × IsFarNeed l x need))) → ((g : Auth) → Contains reached g ↔ (Looks needs x × IsReachedBy l x g))
    → Adds (IsPutIn needs reached x) old new → Adds (IsAskedFor l x) old new
adds_asked l x before false needs reached old new same has are reach adds =
    with_far l x needs reached old new reach adds (λ need. (
      λ h. (all_needs l x need).1 (elim ((are need).0 h) [ inl own ↦ inl own | inr far ↦ inr far.1 ]),
      λ h. (are need).1 (elim ((all_needs l x need).0 h) [ inl own ↦ inl own | inr far ↦ inr (refl, far) ]),
    ))
adds_asked l x None true needs reached old new same has are reach adds = absurd (same.0 refl)
adds_asked l x (Some y) true needs reached old new same has are reach adds =
    without_far l x needs reached old new reach adds y (same.0 refl) has (λ need. (
      λ h. elim ((are need).0 h) [ inl own ↦ own | inr far ↦ absurd (let odd : true ≡ false = far.0 in cc) ],
      λ h. (are need).1 (inl h),
    ))
