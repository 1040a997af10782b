-- Rights with one key are one, and the rights that are added.
use Rattle.std.proofs.Common.{◌≡◌, ◌⊎◌, ◌↔◌, inl, inr, ℕ, zero, suc, ◌<◌, ◌≤◌, Bool, true, false, List, [], ◌∷◌, ◌++◌, Option, Some, None, Err, Ordering, take, length, get_or, ap, sym, subst, refl, ◌∙◌}
use Rattle.std.specs.List.{Contains, insert}
use Rattle.std.specs.List.Sorted.{IsBinarySearchResult}
use Rattle.std.specs.Ordering.{nat_cmp, ordering_then}
use Rattle.std.specs.Option.{option_cmp}
use Rattle.std.specs.Cmp.Lexicographic.{slice_cmp}
use Rattle.std.specs.FinMap.{nat_cmp-IsAntisymmetric, slice_cmp-IsAntisymmetric}
use Rattle.std.specs.declared.cmp.Ordering.TheVariants.{Less, Equal, Greater}
use Rattle.finite_chains.proofs.Members.{Contains-nil, Contains-head}
use Rattle.sql_names.specs.Names.{name_cmp-IsAntisymmetric}
use Rattle.sql_tree.specs.declared.rights.Action.{Action}
use Rattle.sql_tree.specs.declared.rights.Action.TheVariants as actions
use Rattle.cat_items.specs.declared.need.Auth.{Auth}
use Rattle.cat_items.specs.declared.need.Auth.TheVariants.{System, Public, Named}
use Rattle.cat_items.specs.declared.need.Need.{Need}
use Rattle.cat_items.specs.declared.item.Right.{Right}
use Rattle.cat_items.specs.declared.item.Item.{Item}
use Rattle.cat_items.specs.declared.item.Item.TheVariants as item
use Rattle.cat_items.specs.Catalogues.{IsInOrder}
use Rattle.cat_items.specs.Fit.{IsRight}
use Rattle.cat_items.specs.Order.{name_cmp, auth_cmp, action_number, need_cmp, right_cmp, item_cmp}
use Rattle.cat_items.proofs.CatalogueLemmas.{IsInOrder-insert, cut_at_gap, none_at}
use Rattle.grant_edit.specs.Grants.{IsGrant, IsGrantTo, IsOfRight}
use Rattle.grant_edit.proofs.Lists.{contains_both, contains_one, contains_push}
use Rattle.grant_edit.proofs.NamedLemmas.{same_need}

-- ---- keys

differs : {A : Type 0} → Less ≡ Equal → A
differs e = absurd (let odd : Less ≡ Equal = e in cc)

exceeds : {A : Type 0} → Greater ≡ Equal → A
exceeds e = absurd (let odd : Greater ≡ Equal = e in cc)

then_equal : (a b : Ordering) → ordering_then a b ≡ Equal → (a ≡ Equal) × (b ≡ Equal)
then_equal Less b e = differs e
then_equal Equal b e = (refl, e)
then_equal Greater b e = exceeds e

action_at : ℕ → Action
action_at (suc zero) = actions.Select
action_at (suc (suc zero)) = actions.Insert
action_at (suc (suc (suc zero))) = actions.Update
action_at (suc (suc (suc (suc zero)))) = actions.Delete
action_at (suc (suc (suc (suc (suc zero))))) = actions.References
action_at (suc (suc (suc (suc (suc (suc zero)))))) = actions.Usage
action_at (suc (suc (suc (suc (suc (suc (suc zero))))))) = actions.Execute
action_at n = actions.Admin

its_number : (a : Action) → action_at (action_number a) ≡ a
unfolding action_at
its_number actions.Select = refl
its_number actions.Insert = refl
its_number actions.Update = refl
its_number actions.Delete = refl
its_number actions.References = refl
its_number actions.Usage = refl
its_number actions.Execute = refl
its_number actions.Admin = refl

action_is : (a b : Action) → nat_cmp (action_number a) (action_number b) ≡ Equal → a ≡ b
action_is a b e = sym (its_number a) ∙ ap action_at (nat_cmp-IsAntisymmetric (action_number a) (action_number b) e) ∙ its_number b

column_is : (a b : Option (List ℕ)) → option_cmp name_cmp a b ≡ Equal → a ≡ b
column_is None None e = refl
column_is None (Some b) e = differs e
column_is (Some a) None e = exceeds e
column_is (Some a) (Some b) e = ap Some (name_cmp-IsAntisymmetric a b e)

need_is : (a b : Need) → need_cmp a b ≡ Equal → a ≡ b
need_is a b e =
    let first = then_equal (nat_cmp (action_number a.action) (action_number b.action)) (ordering_then (slice_cmp name_cmp a.on b.on) (option_cmp name_cmp a.column b.column)) e in
    let rest = then_equal (slice_cmp name_cmp a.on b.on) (option_cmp name_cmp a.column b.column) first.1 in
    same_need a b (action_is a.action b.action first.0) (slice_cmp-IsAntisymmetric name_cmp-IsAntisymmetric a.on b.on rest.0) (column_is a.column b.column rest.1)

auth_is : (a b : Auth) → auth_cmp a b ≡ Equal → a ≡ b
auth_is System System e = refl
auth_is Public Public e = refl
auth_is (Named a) (Named b) e = ap Named (name_cmp-IsAntisymmetric a b e)
auth_is System Public e = differs e
auth_is System (Named b) e = differs e
auth_is Public System e = exceeds e
auth_is Public (Named b) e = differs e
auth_is (Named a) System e = exceeds e
auth_is (Named a) Public e = exceeds e

right_is : (a b : Right) → right_cmp a b ≡ Equal → a ≡ b
right_is a b e =
    let first = then_equal (need_cmp a.need b.need) (ordering_then (auth_cmp a.grantor b.grantor) (auth_cmp a.grantee b.grantee)) e in
    let rest = then_equal (auth_cmp a.grantor b.grantor) (auth_cmp a.grantee b.grantee) first.1 in
    let need = need_is a.need b.need first.0 in
    let grantor = auth_is a.grantor b.grantor rest.0 in
    let grantee = auth_is a.grantee b.grantee rest.1 in
    λ i. record { need = need i; grantor = grantor i; grantee = grantee i }

held_is : (y : Item) (r : Right) → item_cmp y (item.Held r) ≡ Equal → y ≡ item.Held r
held_is (item.Held s) r e = ap item.Held (right_is s r e)
held_is (item.Grantable s) r e = exceeds e
held_is (item.User n) r e = differs e
held_is (item.Role n) r e = differs e
held_is (item.Schema s) r e = differs e
held_is (item.Table t) r e = differs e
held_is (item.View v) r e = differs e
held_is (item.Column x) r e = differs e
held_is (item.Domain d) r e = differs e
held_is (item.DomainCheck d) r e = differs e
held_is (item.Key k) r e = differs e
held_is (item.Foreign f) r e = differs e
held_is (item.Check x) r e = differs e
held_is (item.Assertion a) r e = differs e
held_is (item.Routine x) r e = differs e
held_is (item.RoleAuth g) r e = differs e
held_is (item.RoleAdmin g) r e = differs e

grantable_is : (y : Item) (r : Right) → item_cmp y (item.Grantable r) ≡ Equal → y ≡ item.Grantable r
grantable_is (item.Grantable s) r e = ap item.Grantable (right_is s r e)
grantable_is (item.Held s) r e = differs e
grantable_is (item.User n) r e = differs e
grantable_is (item.Role n) r e = differs e
grantable_is (item.Schema s) r e = differs e
grantable_is (item.Table t) r e = differs e
grantable_is (item.View v) r e = differs e
grantable_is (item.Column x) r e = differs e
grantable_is (item.Domain d) r e = differs e
grantable_is (item.DomainCheck d) r e = differs e
grantable_is (item.Key k) r e = differs e
grantable_is (item.Foreign f) r e = differs e
grantable_is (item.Check x) r e = differs e
grantable_is (item.Assertion a) r e = differs e
grantable_is (item.Routine x) r e = differs e
grantable_is (item.RoleAuth g) r e = differs e
grantable_is (item.RoleAdmin g) r e = differs e

-- an item that has the key of a right is that right
pub same_right : (x y : Item) → IsRight x → item_cmp y x ≡ Equal → y ≡ x
same_right (item.Held r) y h e = held_is y r e
same_right (item.Grantable r) y h e = grantable_is y r e
same_right _ y h e = absurd h

-- ---- the rights that are added

-- a right that is put is a right with grant option, and the same held
pub with_option : (right : Right) (old middle new : List Item)
    → ((y : Item) → Contains middle y ↔ (Contains old y ⊎ (y ≡ item.Grantable right)))
    → ((y : Item) → Contains new y ↔ (Contains middle y ⊎ (y ≡ item.Held right)))
    → (y : Item) → Contains new y ↔ (Contains old y ⊎ IsOfRight right true y)
with_option right old middle new first second y = (λ h. to y ((second y).0 h), λ h. (second y).1 (back y h))
  where
    grantable : (z : Item) → z ≡ item.Grantable right → IsOfRight right true z
    grantable z e = subst (IsOfRight right true) (sym e) (refl, refl)

    held : (z : Item) → z ≡ item.Held right → IsOfRight right true z
    held z e = subst (IsOfRight right true) (sym e) refl

    to : (z : Item) → Contains middle z ⊎ (z ≡ item.Held right) → Contains old z ⊎ IsOfRight right true z
    to z (inl h) = elim ((first z).0 h) [ inl before ↦ inl before | inr e ↦ inr (grantable z e) ]
    to z (inr e) = inr (held z e)

    of_right : (z : Item) → IsOfRight right true z → Contains middle z ⊎ (z ≡ item.Held right)
    of_right (item.Held r) h = inr (ap item.Held h)
    of_right (item.Grantable r) h = inl ((first (item.Grantable r)).1 (inr (ap item.Grantable h.1)))
    of_right _ h = absurd h

    back : (z : Item) → Contains old z ⊎ IsOfRight right true z → Contains middle z ⊎ (z ≡ item.Held right)
    back z (inl h) = inl ((first z).1 (inl h))
    back z (inr h) = of_right z h

-- without option held alone
pub without_option : (right : Right) (old new : List Item)
    → ((y : Item) → Contains new y ↔ (Contains old y ⊎ (y ≡ item.Held right)))
    → (y : Item) → Contains new y ↔ (Contains old y ⊎ IsOfRight right false y)
without_option right old new after y = (λ h. to y ((after y).0 h), λ h. (after y).1 (back y h))
  where
    to : (z : Item) → Contains old z ⊎ (z ≡ item.Held right) → Contains old z ⊎ IsOfRight right false z
    to z (inl h) = inl h
    to z (inr e) = inr (subst (IsOfRight right false) (sym e) refl)

    of_right : (z : Item) → IsOfRight right false z → z ≡ item.Held right
    of_right (item.Held r) h = ap item.Held h
    of_right (item.Grantable r) h = let odd = h.0 in cc
    of_right _ h = absurd h

    back : (z : Item) → Contains old z ⊎ IsOfRight right false z → Contains old z ⊎ (z ≡ item.Held right)
    back z (inl h) = inl h
    back z (inr h) = inr (of_right z h)

-- grants of some privileges or of others, to some grantees or to others
module _ (grantor : List ℕ) (option : Bool) where
  abbrev Granted : (Need → Type 0) → List Auth → Item → Type 0
  Granted P grantees y = IsGrant P grantor grantees option y

  grant_of : (P Q : Need → Type 0) (whom bs : List Auth) → ((r : Right) → IsGrantTo P grantor whom r → IsGrantTo Q grantor bs r) → (y : Item) → Granted P whom y → Granted Q bs y
  grant_of P Q whom bs more (item.Held r) h = more r h
  grant_of P Q whom bs more (item.Grantable r) h = (h.0, more r h.1)
  grant_of P Q whom bs more _ h = absurd h

  grant_split : (P Q R : Need → Type 0) (whom bs ds : List Auth) → ((r : Right) → IsGrantTo P grantor whom r → IsGrantTo Q grantor bs r ⊎ IsGrantTo R grantor ds r) → (y : Item) → Granted P whom y → Granted Q bs y ⊎ Granted R ds y
  grant_split P Q R whom bs ds cases (item.Held r) h = cases r h
  grant_split P Q R whom bs ds cases (item.Grantable r) h = elim (cases r h.1) [ inl a ↦ inl (h.0, a) | inr b ↦ inr (h.0, b) ]
  grant_split P Q R whom bs ds cases _ h = absurd h

  no_grant : (P : Need → Type 0) (whom : List Auth) → ((r : Right) → IsGrantTo P grantor whom r → ⊥) → (y : Item) → Granted P whom y → ⊥
  no_grant P whom none (item.Held r) h = none r h
  no_grant P whom none (item.Grantable r) h = none r h.1
  no_grant P whom none _ h = h

  -- to no grantee
  pub to_none : (P : Need → Type 0) (y : Item) → Granted P [] y → ⊥
  to_none P = no_grant P [] (λ r h. Contains-nil r.grantee h.2)

  -- of no privilege
  pub of_none : (needs : List Need) (whom : List Auth) (y : Item) → Granted (Contains (take 0 needs)) whom y → ⊥
  of_none needs whom = no_grant (Contains (take 0 needs)) whom (λ r h. Contains-nil r.need h.0)

  one_right : (need : Need) (a : Auth) (y : Item) → IsOfRight (record { need = need; grantor = Named grantor; grantee = a }) option y ↔ Granted (λ n. n ≡ need) (a ∷ []) y
  one_right need a y = (to y, back y)
    where
      right : Right
      right = record { need = need; grantor = Named grantor; grantee = a }

      as_grant : (r : Right) → r ≡ record { need = need; grantor = Named grantor; grantee = a } → IsGrantTo (λ n. n ≡ need) grantor (a ∷ []) r
      as_grant r e = (
        ap (λ (s : Right). s.need) e,
        ap (λ (s : Right). s.grantor) e,
        subst (Contains (a ∷ [])) (sym (ap (λ (s : Right). s.grantee) e)) (Contains-head a []),
      )

      as_right : (r : Right) → IsGrantTo (λ n. n ≡ need) grantor (a ∷ []) r → r ≡ record { need = need; grantor = Named grantor; grantee = a }
      as_right r h =
          let need_is = h.0 in let grantor_is = h.1 in let grantee_is = sym (contains_one a r.grantee h.2) in
          λ i. record { need = need_is i; grantor = grantor_is i; grantee = grantee_is i }

      to : (z : Item) → IsOfRight (record { need = need; grantor = Named grantor; grantee = a }) option z → Granted (λ n. n ≡ need) (a ∷ []) z
      to (item.Held r) h = as_grant r h
      to (item.Grantable r) h = (h.0, as_grant r h.1)
      to _ h = absurd h

      back : (z : Item) → Granted (λ n. n ≡ need) (a ∷ []) z → IsOfRight (record { need = need; grantor = Named grantor; grantee = a }) option z
      back (item.Held r) h = as_right r h
      back (item.Grantable r) h = (h.0, as_right r h.1)
      back _ h = absurd h

  -- to one grantee more
  pub to_one_more : (need : Need) (front : List Auth) (a : Auth) (base old new : List Item)
      → ((y : Item) → Contains old y ↔ (Contains base y ⊎ Granted (λ n. n ≡ need) front y))
      → ((y : Item) → Contains new y ↔ (Contains old y ⊎ IsOfRight (record { need = need; grantor = Named grantor; grantee = a }) option y))
      → (y : Item) → Contains new y ↔ (Contains base y ⊎ Granted (λ n. n ≡ need) (front ++ a ∷ []) y)
  to_one_more need front a base old new before after y = (λ h. to ((after y).0 h), λ h. (after y).1 (back h))
    where
      left : Granted (λ n. n ≡ need) front y → Granted (λ n. n ≡ need) (front ++ a ∷ []) y
      left = grant_of (λ n. n ≡ need) (λ n. n ≡ need) front (front ++ a ∷ []) (λ r h. (h.0, h.1, (contains_both front (a ∷ []) r.grantee).1 (inl h.2))) y

      right : Granted (λ n. n ≡ need) (a ∷ []) y → Granted (λ n. n ≡ need) (front ++ a ∷ []) y
      right = grant_of (λ n. n ≡ need) (λ n. n ≡ need) (a ∷ []) (front ++ a ∷ []) (λ r h. (h.0, h.1, (contains_both front (a ∷ []) r.grantee).1 (inr h.2))) y

      to : Contains old y ⊎ IsOfRight (record { need = need; grantor = Named grantor; grantee = a }) option y → Contains base y ⊎ Granted (λ n. n ≡ need) (front ++ a ∷ []) y
      to (inl h) = elim ((before y).0 h) [ inl b ↦ inl b | inr g ↦ inr (left g) ]
      to (inr h) = inr (right ((one_right need a y).0 h))

      cases : (r : Right) → IsGrantTo (λ n. n ≡ need) grantor (front ++ a ∷ []) r → IsGrantTo (λ n. n ≡ need) grantor front r ⊎ IsGrantTo (λ n. n ≡ need) grantor (a ∷ []) r
      cases r h = elim ((contains_both front (a ∷ []) r.grantee).0 h.2) [ inl p ↦ inl (h.0, h.1, p) | inr q ↦ inr (h.0, h.1, q) ]

      back : Contains base y ⊎ Granted (λ n. n ≡ need) (front ++ a ∷ []) y → Contains old y ⊎ IsOfRight (record { need = need; grantor = Named grantor; grantee = a }) option y
      back (inl b) = inl ((before y).1 (inl b))
      back (inr g) = elim (grant_split (λ n. n ≡ need) (λ n. n ≡ need) (λ n. n ≡ need) (front ++ a ∷ []) front (a ∷ []) cases y g) [
        | inl p ↦ inl ((before y).1 (inr p))
        | inr q ↦ inr ((one_right need a y).1 q)
      ]

  -- of one privilege more
  pub of_one_more : (front : List Need) (need : Need) (whom : List Auth) (old new : List Item)
      → ((y : Item) → Contains old y ↔ Granted (Contains front) whom y)
      → ((y : Item) → Contains new y ↔ (Contains old y ⊎ Granted (λ n. n ≡ need) whom y))
      → (y : Item) → Contains new y ↔ Granted (Contains (front ++ need ∷ [])) whom y
  of_one_more front need whom old new before after y = (λ h. to ((after y).0 h), λ h. (after y).1 (back h))
    where
      to : Contains old y ⊎ Granted (λ n. n ≡ need) whom y → Granted (Contains (front ++ need ∷ [])) whom y
      to (inl h) = grant_of (Contains front) (Contains (front ++ need ∷ [])) whom whom (λ r g. ((contains_push front need r.need).1 (inl g.0), g.1, g.2)) y ((before y).0 h)
      to (inr h) = grant_of (λ n. n ≡ need) (Contains (front ++ need ∷ [])) whom whom (λ r g. ((contains_push front need r.need).1 (inr (sym g.0)), g.1, g.2)) y h

      cases : (r : Right) → IsGrantTo (Contains (front ++ need ∷ [])) grantor whom r → IsGrantTo (Contains front) grantor whom r ⊎ IsGrantTo (λ n. n ≡ need) grantor whom r
      cases r h = elim ((contains_push front need r.need).0 h.0) [ inl p ↦ inl (p, h.1, h.2) | inr e ↦ inr (sym e, h.1, h.2) ]

      back : Granted (Contains (front ++ need ∷ [])) whom y → Contains old y ⊎ Granted (λ n. n ≡ need) whom y
      back g = elim (grant_split (Contains (front ++ need ∷ [])) (Contains front) (λ n. n ≡ need) whom whom whom cases y g) [ inl p ↦ inl ((before y).1 p) | inr q ↦ inr q ]

  -- of privileges that are the same
  pub of_same : (P Q : Need → Type 0) (whom : List Auth) → ((n : Need) → P n ↔ Q n) → (y : Item) → Granted P whom y ↔ Granted Q whom y
  of_same P Q whom same y = (grant_of P Q whom whom (λ r h. ((same r.need).0 h.0, h.1, h.2)) y, grant_of Q P whom whom (λ r h. ((same r.need).1 h.0, h.1, h.2)) y)

-- what is granted is a right
pub grant_is_right : (P : Need → Type 0) (grantor : List ℕ) (whom : List Auth) (option : Bool) (y : Item) → IsGrant P grantor whom option y → IsRight y
grant_is_right P grantor whom option (item.Held r) h = tt
grant_is_right P grantor whom option (item.Grantable r) h = tt
grant_is_right P grantor whom option _ h = absurd h

-- ---- a right is put into rights in order

pub put_there : (items shown : List Item) (x : Item) (at : ℕ) → shown ≡ items → IsRight x → at < length shown → ((d : Item) → item_cmp (get_or shown at d) x ≡ Equal) → (y : Item) → Contains items y ↔ (Contains items y ⊎ (y ≡ x))
put_there items shown x at same right within equal y = (inl, back)
  where
    there : Contains items x
    there = subst (λ l. Contains l x) same (at, within, same_right x (get_or shown at x) right (equal x))

    back : Contains items y ⊎ (y ≡ x) → Contains items y
    back (inl h) = h
    back (inr e) = subst (Contains items) (sym e) there

pub put_new : (items shown : List Item) (x : Item) (at : ℕ) → shown ≡ items → IsInOrder items → at ≤ length shown → IsBinarySearchResult (λ y. item_cmp y x) shown (Err at) → IsInOrder (insert items at x)
put_new items shown x at same order within parted =
    let there : at ≤ length items = subst (λ l. at ≤ length l) same within in
    let found : IsBinarySearchResult (λ y. item_cmp y x) items (Err at) = subst (λ l. IsBinarySearchResult (λ y. item_cmp y x) l (Err at)) same parted in
    IsInOrder-insert items at x order (cut_at_gap items x at order there found) (none_at items x at order found)
