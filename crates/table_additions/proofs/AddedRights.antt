-- Rights on a whole table as rights on a column.
use Rattle.std.proofs.Common.{◌≡◌, ◌⊎◌, ◌↔◌, inl, inr, List, [], ◌∷◌, ◌++◌, None, Some, refl, ap, sym, subst}
use Rattle.std.specs.List.{Contains, flat_map}
use Rattle.finite_chains.proofs.Members.{Contains-head}
use Rattle.sql_names.specs.NameBytes.{NameBytes}
use Rattle.sql_names.specs.declared.object.Object.{Object}
use Rattle.sql_tree.specs.declared.rights.Action.{Action}
use Rattle.sql_tree.specs.declared.rights.Action.TheVariants as action
use Rattle.cat_items.specs.declared.item.Item.{Item}
use Rattle.cat_items.specs.declared.item.Item.TheVariants as item
use Rattle.cat_items.specs.declared.item.Right.{Right}
use Rattle.cat_items.specs.declared.need.Need.{Need}
use Rattle.cat_items.specs.Ranges.{IsGrantableOf, IsHeldOf}
use Rattle.cat_items.specs.Rights.{path_of}
use Rattle.table_parts.proofs.ListMembers.{from_flat_map, only, to_flat_map}
use Rattle.table_additions.specs.Additions.{IsColumnAction, IsRightAsOnTable, on_whole}
use Rattle.table_additions.specs.Lists.{IsBy, IsRightBy, on_column, right_on_column}
use Rattle.table_additions.proofs.Gains.{Gain, gains_as, gains_both, gains_list}

-- ---- the rights of one action

abbrev whole_need : Object → Action → Need
whole_need table act = record { action = act; on = path_of table; column = None }

-- a right on the whole is that of one on a column
whole_again : (name : NameBytes) (table : Object) (act : Action) (r : Right) → r.need ≡ whole_need table act → on_whole (on_column name r) ≡ r
whole_again name table act r e =
    let none : None ≡ r.need.column = sym (ap (λ (n : Need). n.column) e) in
    λ i. record { need = record { action = r.need.action; on = r.need.on; column = none i }; grantor = r.grantor; grantee = r.grantee }

column_again : (name : NameBytes) (r : Right) → r.need.column ≡ Some name → on_column name (on_whole r) ≡ r
column_again name r e =
    let some : Some name ≡ r.need.column = sym e in
    λ i. record { need = record { action = r.need.action; on = r.need.on; column = some i }; grantor = r.grantor; grantee = r.grantee }

whole_is : (name : NameBytes) (table : Object) (act : Action) (r : Right) → IsBy table name act r.need → (on_whole r).need ≡ whole_need table act
whole_is name table act r by = λ i. record { action = by.0 i; on = by.1 i; column = None }

column_is : (name : NameBytes) (table : Object) (act : Action) (r : Right) → r.need ≡ whole_need table act → IsBy table name act (on_column name r).need
column_is name table act r e = (ap (λ (n : Need). n.action) e, ap (λ (n : Need). n.on) e, refl)

module _ (c : List Item) (table : Object) (name : NameBytes) (act : Action) where
  -- held, and with grant option
  abbrev IsHeldBy : Item → Type 0
  IsHeldBy (item.Held r) = IsBy table name act r.need × Contains c (item.Held (on_whole r))
  IsHeldBy x = ⊥

  abbrev IsGrantableBy : Item → Type 0
  IsGrantableBy (item.Grantable r) = IsBy table name act r.need × Contains c (item.Grantable (on_whole r))
  IsGrantableBy x = ⊥

  held_from : (y x : Item) → Contains c y → IsHeldOf (whole_need table act) y → Contains (right_on_column name y) x → IsHeldBy x
  held_from (item.Held r) x h is here =
      subst IsHeldBy (only (item.Held (on_column name r)) x here)
      (column_is name table act r is, subst (λ (z : Right). Contains c (item.Held z)) (sym (whole_again name table act r is)) h)
  held_from y x h is here = absurd is

  grantable_from : (y x : Item) → Contains c y → IsGrantableOf (whole_need table act) y → Contains (right_on_column name y) x → IsGrantableBy x
  grantable_from (item.Grantable r) x h is here =
      subst IsGrantableBy (only (item.Grantable (on_column name r)) x here)
      (column_is name table act r is, subst (λ (z : Right). Contains c (item.Grantable z)) (sym (whole_again name table act r is)) h)
  grantable_from y x h is here = absurd is

  module _ (items : List Item) where
    held_to : ((x : Item) → Contains items x ↔ (Contains c x × IsHeldOf (whole_need table act) x)) → (x : Item) → IsHeldBy x → Contains (flat_map (right_on_column name) items) x
    held_to members (item.Held r) h =
        let there : Contains items (item.Held (on_whole r)) = (members (item.Held (on_whole r))).1 (h.1, whole_is name table act r h.0) in
        let here : Contains (right_on_column name (item.Held (on_whole r))) (item.Held r) = subst (λ (z : Right). Contains (item.Held z ∷ []) (item.Held r)) (sym (column_again name r h.0.2)) (Contains-head (item.Held r) []) in
        to_flat_map (right_on_column name) items (item.Held (on_whole r)) (item.Held r) there here
    held_to members x h = absurd h

    grantable_to : ((x : Item) → Contains items x ↔ (Contains c x × IsGrantableOf (whole_need table act) x)) → (x : Item) → IsGrantableBy x → Contains (flat_map (right_on_column name) items) x
    grantable_to members (item.Grantable r) h =
        let there : Contains items (item.Grantable (on_whole r)) = (members (item.Grantable (on_whole r))).1 (h.1, whole_is name table act r h.0) in
        let here : Contains (right_on_column name (item.Grantable (on_whole r))) (item.Grantable r) = subst (λ (z : Right). Contains (item.Grantable z ∷ []) (item.Grantable r)) (sym (column_again name r h.0.2)) (Contains-head (item.Grantable r) []) in
        to_flat_map (right_on_column name) items (item.Grantable (on_whole r)) (item.Grantable r) there here
    grantable_to members x h = absurd h

    held_are : ((x : Item) → Contains items x ↔ (Contains c x × IsHeldOf (whole_need table act) x)) → (x : Item) → Contains (flat_map (right_on_column name) items) x ↔ IsHeldBy x
    held_are members x = (
      λ h. let of = from_flat_map (right_on_column name) items x h in let is = (members of.0).0 of.1 in held_from of.0 x is.0 is.1 of.2,
      held_to members x,
    )

    grantable_are : ((x : Item) → Contains items x ↔ (Contains c x × IsGrantableOf (whole_need table act) x)) → (x : Item) → Contains (flat_map (right_on_column name) items) x ↔ IsGrantableBy x
    grantable_are members x = (
      λ h. let of = from_flat_map (right_on_column name) items x h in let is = (members of.0).0 of.1 in grantable_from of.0 x is.0 is.1 of.2,
      grantable_to members x,
    )

  either : (x : Item) → (IsHeldBy x ⊎ IsGrantableBy x) ↔ IsRightBy c table name act x
  either (item.Held r) = (λ h. elim h [ inl p ↦ p | inr q ↦ absurd q ], λ p. inl p)
  either (item.Grantable r) = (λ h. elim h [ inl p ↦ absurd p | inr q ↦ q ], λ q. inr q)
  either x = (λ h. elim h [ inl p ↦ absurd p | inr q ↦ absurd q ], λ p. absurd p)

  pub action_gains : (o : Object) (held grantable old mid new : List Item) → o ≡ table → ((x : Item) → Contains held x ↔ (Contains c x × IsHeldOf (whole_need o act) x)) → ((x : Item) → Contains grantable x ↔ (Contains c x × IsGrantableOf (whole_need o act) x))
      → mid ≡ old ++ flat_map (right_on_column name) held → new ≡ mid ++ flat_map (right_on_column name) grantable → Gain old new (IsRightBy c table name act)
  action_gains o held grantable old mid new e h g first second =
      let hs = subst (λ (t : Object). (x : Item) → Contains held x ↔ (Contains c x × IsHeldOf (whole_need t act) x)) e h in
      let gs = subst (λ (t : Object). (x : Item) → Contains grantable x ↔ (Contains c x × IsGrantableOf (whole_need t act) x)) e g in
      gains_as old new (λ x. IsHeldBy x ⊎ IsGrantableBy x) (IsRightBy c table name act) either
      (gains_both old mid new IsHeldBy IsGrantableBy (gains_list old mid (flat_map (right_on_column name) held) IsHeldBy first (held_are held hs)) (gains_list mid new (flat_map (right_on_column name) grantable) IsGrantableBy second (grantable_are grantable gs)))

-- ---- the rights of all actions on columns

module _ (c : List Item) (table : Object) (name : NameBytes) where
  as_on_table : (act : Action) (x : Item) → IsColumnAction act → IsRightBy c table name act x → IsRightAsOnTable c table name x
  as_on_table act (item.Held r) is h = ((subst IsColumnAction (sym h.0.0) is, h.0.1, h.0.2), h.1)
  as_on_table act (item.Grantable r) is h = ((subst IsColumnAction (sym h.0.0) is, h.0.1, h.0.2), h.1)
  as_on_table act x is h = absurd h

  abbrev By : Action → Item → Type 0
  By act x = IsRightBy c table name act x

  abbrev ByOne : Item → Type 0
  ByOne x = ((IsRightBy c table name action.Select x ⊎ IsRightBy c table name action.Insert x) ⊎ IsRightBy c table name action.Update x) ⊎ IsRightBy c table name action.References x

  by_one : (x : Item) → ((act : Action) → IsColumnAction act → IsRightBy c table name act x → ByOne x)
  by_one x action.Select is h = inl (inl (inl h))
  by_one x action.Insert is h = inl (inl (inr h))
  by_one x action.Update is h = inl (inr h)
  by_one x action.References is h = inr h
  by_one x act is h = absurd is

  split : (x : Item) → IsRightAsOnTable c table name x → ByOne x
  split (item.Held r) h = by_one (item.Held r) r.need.action h.0.0 ((refl, h.0.1, h.0.2), h.1)
  split (item.Grantable r) h = by_one (item.Grantable r) r.need.action h.0.0 ((refl, h.0.1, h.0.2), h.1)
  split x h = absurd h

  joined : (x : Item) → ByOne x → IsRightAsOnTable c table name x
  joined x (inl (inl (inl h))) = as_on_table action.Select x tt h
  joined x (inl (inl (inr h))) = as_on_table action.Insert x tt h
  joined x (inl (inr h)) = as_on_table action.Update x tt h
  joined x (inr h) = as_on_table action.References x tt h

  pub actions_gain : (old a b d new : List Item) → Gain old a (IsRightBy c table name action.Select) → Gain a b (IsRightBy c table name action.Insert) → Gain b d (IsRightBy c table name action.Update) → Gain d new (IsRightBy c table name action.References)
      → Gain old new (IsRightAsOnTable c table name)
  actions_gain old a b d new p q r s =
      let two : Gain old b (λ x. By action.Select x ⊎ By action.Insert x) = gains_both old a b (By action.Select) (By action.Insert) p q in
      let three : Gain old d (λ x. (By action.Select x ⊎ By action.Insert x) ⊎ By action.Update x) = gains_both old b d (λ x. By action.Select x ⊎ By action.Insert x) (By action.Update) two r in
      gains_as old new ByOne (IsRightAsOnTable c table name) (λ x. (joined x, split x))
      (gains_both old d new (λ x. (By action.Select x ⊎ By action.Insert x) ⊎ By action.Update x) (By action.References) three s)
