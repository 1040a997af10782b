-- What an edit touches is a suspect, or a right by the system whose object or column is a suspect.
use Rattle.std.proofs.Common.{◌≡◌, ◌⊎◌, inl, inr, List, [], ◌∷◌, Option, Some, None, ap, sym, refl, subst, ◌∙◌}
use Rattle.std.specs.Prelude.{◌↔◌, ℕ}
use Rattle.std.specs.List.{Contains}
use Rattle.finite_chains.specs.Chains.{IsWithin}
use Rattle.cat_items.specs.declared.edit.Edit.{Edit}
use Rattle.cat_items.specs.declared.need.Auth.{Auth}
use Rattle.cat_items.specs.declared.need.Auth.TheVariants.{System, Named}
use Rattle.cat_items.specs.declared.need.Need.{Need}
use Rattle.cat_items.specs.declared.item.Right.{Right}
use Rattle.cat_items.specs.declared.item.Schema.{Schema}
use Rattle.cat_items.specs.declared.item.Item.{Item}
use Rattle.cat_items.specs.declared.item.Item.TheVariants as item
use Rattle.cat_items.specs.Bound.{IsSpokenOf, IsSuspect}
use Rattle.cat_items.specs.Bound as bound
use Rattle.cat_items.specs.Fit.{IsFit}
use Rattle.cat_items.specs.Rights.{path_of, IsSchema, HasColumn, IsColumn}
use Rattle.cat_items.specs.Relevant.{Relevant, IsPartOfNeed, Names, named, on_need}
use Rattle.cat_items.specs.Survivors.{IsSystemRight, MayBeSystemRight, MayBeSystemRow, MayBeSystemSchema}
use Rattle.cascade_laws.specs.Topics.{Topic, IsUnder, IsOptionTopic, DependsOn}
use Rattle.cascade_laws.specs.Topics as on
use Rattle.cascade_laws.specs.Asks.{Asks, by_name, by_far, by_option, of_need, of_supply, of_edges, of_admins}
use Rattle.cascade_laws.proofs.Least.{under_is_relevant}
use Rattle.cascade_laws.proofs.Spread.{row_object}
use Rattle.cascade_laws.proofs.Stable.{right_before}
use Rattle.look_up_bound.specs.PossibleRights.{IsRightOn}
use Rattle.look_up_bound.specs.Touched.{IsTouched, IsPaidFor, of_target, of_changed, of_added, of_new, spread}
use Rattle.look_up_bound.proofs.AskedRelevant.{of_name, of_far, of_need_name, of_option, column_of_need}
use Rattle.look_up_bound.proofs.MoreAsked.{asks_more, depends_asks}

same_schema : (a b : List ℕ) (path x y : List (List ℕ)) → path ≡ a ∷ x → path ≡ b ∷ y → a ≡ b
same_schema a b path x y e f = cc

row_schema : (name : List ℕ) (need : Need) (y z : Item) → MayBeSystemRow name need y → IsSchema name z → Names y z
row_schema name need (item.Table o) z row is = inl (subst (λ n. IsSchema n z) (sym row.0) is)
row_schema name need (item.View v) z row is = subst (λ n. IsSchema n z) (sym row.0) is
row_schema name need (item.Domain d) z row is = subst (λ n. IsSchema n z) (sym row.0) is
row_schema name need (item.Routine r) z row is = subst (λ n. IsSchema n z) (sym row.0) is
row_schema name need _ z row is = absurd row

-- a right on all of an object is on the object
row_on : (name : List ℕ) (r : Right) (y : Item) → r.need.column ≡ None → MayBeSystemRow name r.need y → IsRightOn r y
row_on name r (item.Table o) e row = (row.1, e)
row_on name r (item.View v) e row = (row.1, e)
row_on name r (item.Domain d) e row = row.1
row_on name r (item.Routine z) e row = row.1
row_on name r _ e row = absurd row

-- one on a column is on the column, and the object and the schema are what the column names
row_column : (name column : List ℕ) (r : Right) (y k : Item) → r.need.column ≡ Some column → MayBeSystemRow name r.need y → IsColumn r.need.on column k → IsRightOn r k × Names k y × ((z : Item) → IsSchema name z → Names k z)
row_column name column r (item.Table o) (item.Column k) e row is =
    let there : path_of k.table ≡ path_of o = sym is.0 ∙ row.1 in
    let schema : k.table.schema ≡ name = same_schema k.table.schema o.schema r.need.on (k.table.name ∷ []) (o.name ∷ []) is.0 row.1 ∙ row.0 in
    ((is.0, e ∙ ap Some (sym is.1)), inr (inl there), λ z s. inl (subst (λ n. IsSchema n z) (sym schema) s))
row_column name column r (item.View v) (item.Column k) e row is =
    let there : path_of k.table ≡ path_of v.view = sym is.0 ∙ row.1 in
    let schema : k.table.schema ≡ name = same_schema k.table.schema v.view.schema r.need.on (k.table.name ∷ []) (v.view.name ∷ []) is.0 row.1 ∙ row.0 in
    ((is.0, e ∙ ap Some (sym is.1)), inr (inl there), λ z s. inl (subst (λ n. IsSchema n z) (sym schema) s))
row_column name column r (item.Domain d) k e row is = let none : r.need.column ≡ None = ap (λ (n : Need). n.column) row.1 in absurd (cc (e, none))
row_column name column r (item.Routine z) k e row is = let none : r.need.column ≡ None = ap (λ (n : Need). n.column) row.1 in absurd (cc (e, none))
row_column name column r (item.Table o) _ e row is = absurd is
row_column name column r (item.View v) _ e row is = absurd is
row_column name column r _ k e row is = absurd row

module _ (u c : List Item) (edit : Edit) (edited : List Item) (fit : IsFit c edit edited) (spoken : (y : Item) → Contains u y ↔ IsSpokenOf c edit edited y)
    (tells_target : (y : Item) → Contains c y → Contains edit.target y ⊎ (¬ (Contains edit.target y))) (tells_changed : (y : Item) → Contains c y → Contains edit.changed y ⊎ (¬ (Contains edit.changed y))) where
  old_there : IsWithin c u
  old_there y h = (spoken y).1 (inl h)

  right_there : (x : Item) → IsSystemRight edited x → Contains u x
  right_there x h = (spoken x).1 (inr (inr h))

  -- an old item stands after the edit, or is a suspect
  stays_or_suspect : (y : Item) → Contains c y → Contains edited y ⊎ IsSuspect u edit y
  stays_or_suspect y h =
      elim (tells_target y h) [
        | inl gone ↦ inr (bound.of_target y gone)
        | inr stays ↦ (elim (tells_changed y h) [
          | inl other ↦ inr (bound.of_changed y other)
          | inr same ↦ inl ((fit.is_edited.members y).1 (inl (h, stays, same)))
        ])
      ]

  passes : (y p : Item) → IsSuspect u edit y → Contains c y → Contains c p → Names p y → IsSuspect u edit p
  passes y p is hy hp names = bound.spread y p is (old_there y hy) (old_there p hp) (named names)

  abbrev Pays : Right → Type 0
  Pays r = (p : Item) × Contains c p × IsRightOn r p × IsPartOfNeed r.need p × IsSuspect u edit p

  -- the object, the schema and the column of a right that could be granted before: where they stay, it can be granted after
  of_parts : (r : Right) (z : Schema) (y : Item) → Contains c (item.Schema z) → Contains c y → r.grantor ≡ System → r.grantee ≡ Named z.owner → MayBeSystemRow z.name r.need y
      → (column : Option (List ℕ)) → r.need.column ≡ column → HasColumn c r.need.on column → MayBeSystemRight edited r ⊎ Pays r
  of_parts r z y hz hy system grantee row None e h =
      let on_it = row_on z.name r y e row in
      let part = (row_object z.name r.need y row).0 in
      elim (stays_or_suspect y hy) [
        | inr gone ↦ inr (y, hy, on_it, inl part, gone)
        | inl y_stays ↦ (elim (stays_or_suspect (item.Schema z) hz) [
          | inr gone ↦ inr (y, hy, on_it, inl part, passes (item.Schema z) y gone hz hy (row_schema z.name r.need y (item.Schema z) row refl))
          | inl z_stays ↦ inl (system, subst (HasColumn edited r.need.on) (sym e) tt, (item.Schema z, z_stays, (grantee, (y, y_stays, row))))
        ])
      ]
  of_parts r z y hz hy system grantee row (Some name) e h =
      let of_column = row_column z.name name r y h.0 e row h.2 in
      let part = column_of_need r.need name h.0 e h.2 in
      elim (stays_or_suspect h.0 h.1) [
        | inr gone ↦ inr (h.0, h.1, of_column.0, inr part, gone)
        | inl k_stays ↦ (elim (stays_or_suspect y hy) [
          | inr gone ↦ inr (h.0, h.1, of_column.0, inr part, passes y h.0 gone hy h.1 of_column.1)
          | inl y_stays ↦ (elim (stays_or_suspect (item.Schema z) hz) [
            | inr gone ↦ inr (h.0, h.1, of_column.0, inr part, passes (item.Schema z) h.0 gone hz h.1 (of_column.2 (item.Schema z) refl))
            | inl z_stays ↦ inl (system, subst (HasColumn edited r.need.on) (sym e) (h.0, k_stays, h.2), (item.Schema z, z_stays, (grantee, (y, y_stays, row))))
          ])
        ])
      ]

  right_or_payer : (r : Right) → MayBeSystemRight c r → MayBeSystemRight edited r ⊎ Pays r
  right_or_payer r is = by is.2.0 is.2.1 is.2.2
    where
      by : (z : Item) → Contains c z → MayBeSystemSchema c r z → MayBeSystemRight edited r ⊎ Pays r
      by (item.Schema z) inside may = of_parts r z may.1.0 inside may.1.1 is.0 may.0 may.1.2 r.need.column refl is.1
      by _ inside may = absurd may

  -- ---- what is on the object or column of a right that it asks for

  supply_part : (x p : Item) (need : Need) (g : Auth) → Asks u x (on.supply need g) → IsPartOfNeed need p → Relevant u p x
  supply_part x p need g (by_name e) is = absurd (of_name x (on.supply need g) e)
  supply_part x p need g (by_far e) is = absurd (of_far x (on.supply need g) e)
  supply_part x p need g (by_option e) is = absurd (of_option x (on.supply need g) e)
  supply_part x p need g (of_need n sought e) is = absurd (of_need_name n (on.supply need g) e)
  supply_part x p need g (of_supply n a to sought acts way e) is = let same : need ≡ n = cc e in on_need n sought (subst (λ (m : Need). IsPartOfNeed m p) same is)
  supply_part x p need g (of_edges a name seeks way e) is = absurd (cc e)
  supply_part x p need g (of_admins a role name grants acts way e) is = absurd (cc e)

  option_part : (x p : Item) (r : Right) → IsOptionTopic x (on.held r) → IsPartOfNeed r.need p → Relevant u p x
  option_part (item.Grantable q) p r e is = let same : r ≡ q = cc e in named (inl (subst (λ (s : Right). IsPartOfNeed s.need p) same is))
  option_part (item.RoleAdmin g) p r e is = absurd (cc e)
  option_part _ p r e is = absurd e

  held_part : (x p : Item) (r : Right) → Asks u x (on.held r) → IsPartOfNeed r.need p → Relevant u p x
  held_part x p r (by_name e) is = absurd (of_name x (on.held r) e)
  held_part x p r (by_far e) is = absurd (of_far x (on.held r) e)
  held_part x p r (by_option e) is = option_part x p r e is
  held_part x p r (of_need n sought e) is = absurd (of_need_name n (on.held r) e)
  held_part x p r (of_supply n a to sought acts way e) is = absurd (cc e)
  held_part x p r (of_edges a name seeks way e) is = absurd (cc e)
  held_part x p r (of_admins a role name grants acts way e) is = absurd (cc e)

  under_held : (x p : Item) (r : Right) (t : Topic) → Asks u x t → IsUnder t (item.Held r) → IsPartOfNeed r.need p → Relevant u p x
  under_held x p r (on.supply need g) asks is part = supply_part x p need g asks (subst (λ (n : Need). IsPartOfNeed n p) is.0 part)
  under_held x p r (on.held s) asks is part = held_part x p s asks (subst (λ (q : Right). IsPartOfNeed q.need p) is part)
  under_held x p r _ asks is part = absurd is

  under_grantable : (x p : Item) (r : Right) (t : Topic) → Asks u x t → IsUnder t (item.Grantable r) → IsPartOfNeed r.need p → Relevant u p x
  under_grantable x p r (on.supply need g) asks is part = supply_part x p need g asks (subst (λ (n : Need). IsPartOfNeed n p) is.0 part)
  under_grantable x p r _ asks is part = absurd is

  -- ---- the whole spread

  abbrev IsIn : Item → Type 0
  IsIn x = (Contains u x × IsSuspect u edit x) ⊎ IsPaidFor u c edit x

  reaches : (y x : Item) (t : Topic) → Contains u x → IsUnder t y → DependsOn c x t → IsIn y → IsSuspect u edit x
  reaches y x t hx is d (inl s) = bound.spread y x s.1 s.0 hx (under_is_relevant c u old_there t y x is d)
  reaches y x t hx is d (inr p) =
      let asks = asks_more c u old_there x t (depends_asks c x t d) in
      bound.spread p.payer x p.suspect (old_there p.payer p.pays.stands) hx (elim p.pays.is [
        | inl e ↦ under_held x p.payer p.pays.right t asks (subst (IsUnder t) e is) p.pays.is_part
        | inr e ↦ under_grantable x p.payer p.pays.right t asks (subst (IsUnder t) e is) p.pays.is_part
      ])

  paid : (r : Right) (x : Item) → (x ≡ item.Held r) ⊎ (x ≡ item.Grantable r) → r.grantor ≡ System → Pays r → IsPaidFor u c edit x
  paid r x e system p = record { payer = p.0; pays = record { right = r; is = e; by_system = system; stands = p.1; is_on = p.2; is_part = p.3 }; suspect = p.4 }

  reached : (y x : Item) (t : Topic) → Contains c x ⊎ IsSystemRight c x → IsUnder t y → DependsOn c x t → IsIn y → IsIn x
  reached y x t (inl old) is d h = inl (old_there x old, reaches y x t (old_there x old) is d h)
  reached y (item.Held r) t (inr right) is d h =
      elim (right_or_payer r right) [
        | inl after ↦ (let there = right_there (item.Held r) after in inl (there, reaches y (item.Held r) t there is d h))
        | inr pays ↦ inr (paid r (item.Held r) (inl refl) right.0 pays)
      ]
  reached y (item.Grantable r) t (inr right) is d h =
      elim (right_or_payer r right) [
        | inl after ↦ (let there = right_there (item.Grantable r) after in inl (there, reaches y (item.Grantable r) t there is d h))
        | inr pays ↦ inr (paid r (item.Grantable r) (inr refl) right.0 pays)
      ]
  reached y _ t (inr right) is d h = absurd right

  new_right : (x : Item) → IsSystemRight edited x → (¬ (IsSystemRight c x)) → IsSuspect u edit x
  new_right (item.Held r) after fresh =
      elim (right_before c edit edited fit.is_edited r after) [
        | inl before ↦ absurd (fresh before)
        | inr part ↦ bound.spread part.0 (item.Held r) (bound.of_added part.0 part.1) ((spoken part.0).1 (inr (inl part.1))) (right_there (item.Held r) after) (named part.2)
      ]
  new_right (item.Grantable r) after fresh =
      elim (right_before c edit edited fit.is_edited r after) [
        | inl before ↦ absurd (fresh before)
        | inr part ↦ bound.spread part.0 (item.Grantable r) (bound.of_added part.0 part.1) ((spoken part.0).1 (inr (inl part.1))) (right_there (item.Grantable r) after) (named part.2)
      ]
  new_right _ after fresh = absurd after

  pub touched_is_suspect : (x : Item) → IsTouched c edit edited x → IsIn x
  touched_is_suspect _ (of_target x h) = inl (old_there x (fit.target x h), bound.of_target x h)
  touched_is_suspect _ (of_changed x h) = inl (old_there x (fit.changed x h), bound.of_changed x h)
  touched_is_suspect _ (of_added x h) = inl ((spoken x).1 (inr (inl h)), bound.of_added x h)
  touched_is_suspect _ (of_new x after fresh) = inl (right_there x after, new_right x after fresh)
  touched_is_suspect _ (spread y x t ty known is d) = reached y x t known is d (touched_is_suspect y ty)
