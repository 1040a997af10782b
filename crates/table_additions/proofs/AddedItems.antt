-- What ADD adds, as a list: it has each descriptor that is to be added, and no two with one key.
use Rattle.std.proofs.Common.{◌≡◌, ◌⊎◌, ◌↔◌, inl, inr, ℕ, ◌+◌, true, List, [], ◌++◌, map, refl, ap, sym, subst, ◌∙◌, arith}
use Rattle.std.specs.List.{Any, Contains, flat_map}
use Rattle.std.specs.declared.cmp.Ordering.TheVariants.{Equal}
use Rattle.finite_chains.proofs.Members.{Contains-nil, Contains-head}
use Rattle.sql_names.specs.declared.object.Object.{Object}
use Rattle.cat_items.specs.declared.edit.Who.{Who}
use Rattle.cat_items.specs.declared.item.Column.{Column}
use Rattle.cat_items.specs.declared.item.Item.{Item}
use Rattle.cat_items.specs.declared.item.Item.TheVariants as item
use Rattle.cat_items.specs.Catalogues.{IsInOrder}
use Rattle.cat_items.specs.Fit.{IsRight}
use Rattle.cat_items.specs.Good.{IsGood}
use Rattle.cat_items.specs.Order.{item_cmp, kind_of}
use Rattle.cat_items.specs.Shape.{IsColumnOf}
use Rattle.cat_items.proofs.KeyLemmas.{same_key}
use Rattle.edit_rules.specs.Chosen.{AreAll, IsRightOrRoleGrant}
use Rattle.edit_rules.proofs.ItemKeys.{one_granted, only_granted}
use Rattle.edit_laws.proofs.EditedLists.{one_by_key}
use Rattle.edit_laws.proofs.GoodCatalogues.{good_order}
use Rattle.edit_laws.proofs.KeysAndNames.{IsNamedByKey, column_by_key, kind_and_key}
use Rattle.table_parts.specs.declared.parts.Part.{Part}
use Rattle.table_parts.specs.declared.parts.Part.TheVariants as parts
use Rattle.table_parts.specs.Parts.{columns_of}
use Rattle.table_parts.proofs.ListMembers.{from_flat_map, only, to_flat_map}
use Rattle.table_parts.proofs.Pairs.{map_has}
use Rattle.table_names.specs.declared.named.NamedConstraint.{NamedConstraint}
use Rattle.table_names.specs.Named.{HaveOwnNames}
use Rattle.table_work.specs.declared.work.Work.{Work}
use Rattle.table_needs.proofs.NeedLemmas.{map_from}
use Rattle.table_constraints.specs.Made.{IsConstraintMade}
use Rattle.table_constraints.proofs.ConstraintLaws.{made_by, made_by_key, made_kind}
use Rattle.table_creation.proofs.NewColumns.{one_by_place}
use Rattle.table_additions.specs.Additions.{IsAdded, IsMadeNotNull, IsNowNotNull, IsRightAsOnTable, IsRightOfPart, added_columns, added_work, last_place}
use Rattle.table_additions.specs.Lists.{with_not_null}
use Rattle.table_additions.proofs.Gains.{Gain, gains_both, gains_list}
use Rattle.table_additions.proofs.Places.{column_below_last, made_behind}

-- ---- kinds

pub nullable_lies : (table : Object) (all : List Part) (x : Item) → IsMadeNotNull table all x → IsColumnOf table x
nullable_lies table all (item.Column x) is = is.0
nullable_lies table all x is = absurd is

as_right : (c : List Item) (table : Object) (name : List ℕ) (x : Item) → IsRightAsOnTable c table name x → IsRight x
as_right c table name (item.Held r) h = tt
as_right c table name (item.Grantable r) h = tt
as_right c table name x h = absurd h

right_of_part : (c : List Item) (table : Object) (x : Item) (part : Part) → IsRightOfPart c table x part → IsRight x
right_of_part c table x (parts.Column d) h = as_right c table d.column x h
right_of_part c table x (parts.Constraint k) h = absurd h

pub right_kind : (c : List Item) (table : Object) (all : List Part) (x : Item) → Any (IsRightOfPart c table x) all → IsRight x
right_kind c table all x h = right_of_part c table x h.1 h.4

pub constraint_kind : (c : List Item) (who : Who) (w : Work) (named : List NamedConstraint) (x : Item) → IsConstraintMade c who w named x → IsNamedByKey x
constraint_kind c who w named x h = let of = made_by c who w named x h in made_kind c who w of.0 x of.2

-- ---- all of it

module _ (c : List Item) (who : Who) (table : Object) (all : List Part) (named : List NamedConstraint) where
  abbrev Made : Item → Type 0
  Made x = IsConstraintMade c who (added_work c who table all) named x

  -- a column that is put back, a new column, and a right
  abbrev IsBack : Item → Type 0
  IsBack (item.Column x) = IsNowNotNull c table all x
  IsBack x = ⊥

  abbrev IsNew : Item → Type 0
  IsNew (item.Column x) = Contains (added_columns c who table all) x
  IsNew x = ⊥

  abbrev HasRight : Item → Type 0
  HasRight x = Any (IsRightOfPart c table x) all

  back_from : (y x : Item) → Contains c y → IsMadeNotNull table all y → Contains (with_not_null y) x → IsBack x
  back_from (item.Column z) x h is here = subst IsBack (only (item.Column (record z { not_null = true })) x here) (z, h, is, refl)
  back_from y x h is here = absurd is

  backs_are : (target : List Item) → ((x : Item) → Contains target x ↔ (Contains c x × IsMadeNotNull table all x)) → (x : Item) → Contains (flat_map with_not_null target) x ↔ IsBack x
  backs_are target members x = (
    λ h. let of = from_flat_map with_not_null target x h in let is = (members of.0).0 of.1 in back_from of.0 x is.0 is.1 of.2,
    to x,
  )
    where
      to : (y : Item) → IsBack y → Contains (flat_map with_not_null target) y
      to (item.Column z) h =
          let there : Contains target (item.Column h.0) = (members (item.Column h.0)).1 (h.1, h.2) in
          to_flat_map with_not_null target (item.Column h.0) (item.Column z) there (subst (λ (w : Column). Contains (with_not_null (item.Column h.0)) (item.Column w)) (sym h.3) (Contains-head (item.Column (record h.0 { not_null = true })) []))
      to y h = absurd h

  news_are : (x : Item) → Contains (map item.Column (added_columns c who table all)) x ↔ IsNew x
  news_are x = (
    λ h. let of = map_from item.Column (added_columns c who table all) x h in subst IsNew (sym of.2) of.1,
    to x,
  )
    where
      to : (y : Item) → IsNew y → Contains (map item.Column (added_columns c who table all)) y
      to (item.Column z) h = map_has item.Column (added_columns c who table all) z h
      to y h = absurd h

  no_column_made : (x : Column) → Made (item.Column x) → ⊥
  no_column_made x h = constraint_kind c who (added_work c who table all) named (item.Column x) h

  split : (x : Item) → Made x ⊎ ((IsBack x ⊎ IsNew x) ⊎ HasRight x) → IsAdded c who table all named x
  split (item.Column x) (inl m) = absurd (no_column_made x m)
  split (item.Column x) (inr (inl (inl b))) = inr b
  split (item.Column x) (inr (inl (inr n))) = inl n
  split (item.Column x) (inr (inr r)) = absurd (right_kind c table all (item.Column x) r)
  split (item.Held x) (inl m) = absurd (constraint_kind c who (added_work c who table all) named (item.Held x) m)
  split (item.Held x) (inr (inl (inl b))) = absurd b
  split (item.Held x) (inr (inl (inr n))) = absurd n
  split (item.Held x) (inr (inr r)) = r
  split (item.Grantable x) (inl m) = absurd (constraint_kind c who (added_work c who table all) named (item.Grantable x) m)
  split (item.Grantable x) (inr (inl (inl b))) = absurd b
  split (item.Grantable x) (inr (inl (inr n))) = absurd n
  split (item.Grantable x) (inr (inr r)) = r
  split x (inl m) = m
  split x (inr (inl (inl b))) = absurd b
  split x (inr (inl (inr n))) = absurd n
  split x (inr (inr r)) = absurd (right_kind c table all x r)

  joined : (x : Item) → IsAdded c who table all named x → Made x ⊎ ((IsBack x ⊎ IsNew x) ⊎ HasRight x)
  joined (item.Column x) (inl n) = inr (inl (inr n))
  joined (item.Column x) (inr b) = inr (inl (inl b))
  joined (item.Held x) r = inr (inr r)
  joined (item.Grantable x) r = inr (inr r)
  joined x m = inl m

  pub all_are : (target made a b d : List Item) → ((x : Item) → Contains target x ↔ (Contains c x × IsMadeNotNull table all x)) → ((x : Item) → Contains made x ↔ Made x)
      → a ≡ made ++ flat_map with_not_null target → b ≡ a ++ map item.Column (added_columns c who table all) → Gain b d HasRight
      → (x : Item) → Contains d x ↔ IsAdded c who table all named x
  all_are target made a b d members are first second third x =
      let backs : Gain made a IsBack = gains_list made a (flat_map with_not_null target) IsBack first (backs_are target members) in
      let news : Gain a b IsNew = gains_list a b (map item.Column (added_columns c who table all)) IsNew second news_are in
      let gains : Gain made d (λ y. (IsBack y ⊎ IsNew y) ⊎ HasRight y) = gains_both made b d (λ y. IsBack y ⊎ IsNew y) HasRight (gains_both made a b IsBack IsNew backs news) third in (
        λ h. split x (elim ((gains x).0 h) [ inl m ↦ inl ((are x).0 m) | inr more ↦ inr more ]),
        λ p. (gains x).1 (elim (joined x p) [ inl m ↦ inl ((are x).1 m) | inr more ↦ inr more ]),
      )

  -- ---- keys

  -- a column, a right, or a constraint
  abbrev pub Which : Item → Type 0
  Which x = ((z : Column) × (x ≡ item.Column z) × (Contains (added_columns c who table all) z ⊎ IsNowNotNull c table all z)) ⊎ (IsRight x ⊎ Made x)

  pub which : (x : Item) → IsAdded c who table all named x → Which x
  which (item.Column z) p = inl (z, refl, p)
  which (item.Held h) p = inr (inl tt)
  which (item.Grantable h) p = inr (inl tt)
  which x p = inr (inr p)

  granted : (x : Item) → IsRight x → IsRightOrRoleGrant x
  granted (item.Held h) r = tt
  granted (item.Grantable h) r = tt
  granted x r = absurd r

  not_column : (x : Item) → IsNamedByKey x → 6 ≡ kind_of x → ⊥
  not_column (item.User x) n k = omega (arith, k)
  not_column (item.Role x) n k = omega (arith, k)
  not_column (item.Table x) n k = omega (arith, k)
  not_column (item.View x) n k = omega (arith, k)
  not_column (item.Domain x) n k = omega (arith, k)
  not_column (item.DomainCheck x) n k = omega (arith, k)
  not_column (item.Key x) n k = omega (arith, k)
  not_column (item.Foreign x) n k = omega (arith, k)
  not_column (item.Check x) n k = omega (arith, k)
  not_column (item.Assertion x) n k = omega (arith, k)
  not_column (item.Routine x) n k = omega (arith, k)
  not_column x n k = n

  column_keys : (a b : Column) → item_cmp (item.Column a) (item.Column b) ≡ Equal → (a.table ≡ b.table) × (a.place ≡ b.place)
  column_keys a b e =
      let keys = kind_and_key (item.Column a) (item.Column b) e in
      let of = column_by_key a (item.Column b) keys.0 keys.1 in
      let items : item.Column b ≡ item.Column of.0 = of.1 in
      let same : b ≡ of.0 = cc in
      (sym (ap (λ (z : Column). z.table) same ∙ of.2), sym (ap (λ (z : Column). z.place) same ∙ of.3))

  same_place : (x y : Column) → x.table ≡ y.table → x.place ≡ y.place → item_cmp (item.Column x) (item.Column y) ≡ Equal
  same_place x y t p =
      subst (λ (o : Object). item_cmp (item.Column x) (item.Column (record y { table = o })) ≡ Equal) t
      (subst (λ (n : ℕ). item_cmp (item.Column x) (item.Column (record y { table = x.table; place = n })) ≡ Equal) p (same_key (item.Column x)))

  new_and_back : (x y : Column) → Contains (added_columns c who table all) x → IsNowNotNull c table all y → x.place ≡ y.place → ⊥
  new_and_back x y h k e =
      let behind = made_behind c who table all (last_place c table + 1) (columns_of all) x h in
      let low = column_below_last c table k.0 k.1 k.2.0 in
      let place : y.place ≡ k.0.place = ap (λ (z : Column). z.place) k.3 in
      omega (arith, behind, low, place, e)

  module _ (good : IsGood c) where
    both_back : (x y : Column) → IsNowNotNull c table all x → IsNowNotNull c table all y → x.table ≡ y.table → x.place ≡ y.place → x ≡ y
    both_back x y h k t p =
        let tables : h.0.table ≡ k.0.table = h.2.0 ∙ sym k.2.0 in
        let places : h.0.place ≡ k.0.place = sym (ap (λ (z : Column). z.place) h.3) ∙ p ∙ ap (λ (z : Column). z.place) k.3 in
        let items : item.Column h.0 ≡ item.Column k.0 = one_by_key c (good_order c good) (item.Column h.0) (item.Column k.0) h.1 k.1 (same_place h.0 k.0 tables places) in
        let same : h.0 ≡ k.0 = cc in
        h.3 ∙ ap (λ (z : Column). record z { not_null = true }) same ∙ sym k.3

    one_column : (x y : Column) → Contains (added_columns c who table all) x ⊎ IsNowNotNull c table all x → Contains (added_columns c who table all) y ⊎ IsNowNotNull c table all y → x.table ≡ y.table → x.place ≡ y.place → x ≡ y
    one_column x y (inl h) (inl k) t p = one_by_place c who table all (last_place c table + 1) (columns_of all) x y h k p
    one_column x y (inl h) (inr k) t p = absurd (new_and_back x y h k p)
    one_column x y (inr h) (inl k) t p = absurd (new_and_back y x k h (sym p))
    one_column x y (inr h) (inr k) t p = both_back x y h k t p

    module _ (own : HaveOwnNames named) where
      by_which : (x y : Item) → Which x → Which y → item_cmp x y ≡ Equal → x ≡ y
      by_which x y (inl a) (inl b) e =
          let keys = column_keys a.0 b.0 (subst (λ z. item_cmp z (item.Column b.0) ≡ Equal) a.1 (subst (λ z. item_cmp x z ≡ Equal) b.1 e)) in
          a.1 ∙ ap item.Column (one_column a.0 b.0 a.2 b.2 keys.0 keys.1) ∙ sym b.1
      by_which x y (inr (inl r)) b e = only_granted x y (granted x r) e
      by_which x y a (inr (inl r)) e = one_granted x y (granted y r) e
      by_which x y (inl a) (inr (inr m)) e =
          absurd (not_column y (constraint_kind c who (added_work c who table all) named y m) (ap kind_of (sym a.1) ∙ (kind_and_key x y e).0))
      by_which x y (inr (inr m)) (inl b) e =
          absurd (not_column x (constraint_kind c who (added_work c who table all) named x m) (ap kind_of (sym b.1) ∙ sym (kind_and_key x y e).0))
      by_which x y (inr (inr m)) (inr (inr n)) e = made_by_key c who (added_work c who table all) named own x y m n e

      -- two with one key are one
      pub one_added : (x y : Item) → IsAdded c who table all named x → IsAdded c who table all named y → item_cmp x y ≡ Equal → x ≡ y
      one_added x y p q e = by_which x y (which x p) (which y q) e

-- ---- in order

pub put_in_order : (items old new out : List Item) → old ≡ [] → ((x : Item) → Contains new x ↔ (Contains old x ⊎ Contains items x)) → out ≡ new → IsInOrder out → AreAll (Contains items) out
put_in_order items old new out none members is order = record {
  order = order;
  members = λ x. (
    λ h. elim ((members x).0 (subst (λ l. Contains l x) is h)) [ inl was ↦ absurd (Contains-nil x (subst (λ l. Contains l x) none was)) | inr here ↦ here ],
    λ h. subst (λ l. Contains l x) (sym is) ((members x).1 (inr h)),
  );
}

pub all_as : (P Q : Item → Type 0) (items : List Item) → ((x : Item) → P x ↔ Q x) → AreAll P items → AreAll Q items
all_as P Q items same all = record { order = all.order; members = λ x. (λ h. (same x).0 ((all.members x).0 h), λ h. (all.members x).1 ((same x).1 h)) }
