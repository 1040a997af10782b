-- A right that the system could grant after an edit, and not before, has an added object or column; and rights are no topics by name.
use Rattle.std.proofs.Common.{◌≡◌, ◌⊎◌, inl, inr, ℕ, List, Option, Some, None, sym, refl, subst, ◌∙◌}
use Rattle.std.specs.List.{Contains}
use Rattle.std.specs.declared.cmp.Ordering.TheVariants.{Equal}
use Rattle.std.proofs.lemmas.List.{get_or_default}
use Rattle.sql_names.specs.declared.object.Object.{Object}
use Rattle.sql_tree.specs.declared.rights.Action.{Action}
use Rattle.sql_tree.specs.declared.rights.Action.TheVariants as action
use Rattle.cat_items.specs.declared.need.Auth.{Auth}
use Rattle.cat_items.specs.declared.need.Auth.TheVariants.{System, Public, Named}
use Rattle.cat_items.specs.declared.need.Need.{Need}
use Rattle.cat_items.specs.declared.edit.Edit.{Edit}
use Rattle.cat_items.specs.declared.item.Right.{Right}
use Rattle.cat_items.specs.declared.item.RoleGrant.{RoleGrant}
use Rattle.cat_items.specs.declared.item.Schema.{Schema}
use Rattle.cat_items.specs.declared.item.Item.{Item}
use Rattle.cat_items.specs.declared.item.Item.TheVariants as item
use Rattle.cat_items.specs.Catalogues.{HasKeyAt}
use Rattle.cat_items.specs.Edits.{IsEdited}
use Rattle.cat_items.specs.Fit.{HasNewKey}
use Rattle.cat_items.specs.Good.{IsGood}
use Rattle.cat_items.specs.Order.{item_cmp}
use Rattle.cat_items.specs.Reach.{Has}
use Rattle.cat_items.specs.Relevant.{IsPartOfNeed}
use Rattle.cat_items.specs.Rights.{HasColumn, IsSchema}
use Rattle.cat_items.specs.Survivors.{MayBeSystemRow, MayBeSystemSchema, MayBeSystemRight}
use Rattle.cat_items.proofs.KeyLemmas.{same_key}
use Rattle.cascade_laws.specs.Topics as on
use Rattle.cascade_laws.specs.Topics.{Topic, IsAuthTopic, IsColumnTopic, IsNameTopic, IsNeedTopic, IsObjectTopic, IsOptionalDomainTopic, IsPartyTopic, IsRightTopic, IsRoleGrantTopic}
use Rattle.cascade_laws.proofs.Spread.{row_object}
use Rattle.cascade_laws.proofs.Stable.{column_of_need}
use Rattle.edit_suspects.proofs.Standing.{row_schema}

-- a list has the key of each of its items
key_at_place : (items : List Item) (y x : Item) → Contains items y → item_cmp y x ≡ Equal → (k : ℕ) × HasKeyAt items k x
key_at_place items y x h e = (h.0, (h.1, λ d. subst (λ z. item_cmp z x ≡ Equal) (sym h.2 ∙ get_or_default items h.0 y d h.1) e))

-- an added schema has a new name
new_name : (c : List Item) (z : Schema) → HasNewKey c (item.Schema z) → Has c (IsSchema z.name) → ⊥
new_name c z new h = by h.0 h.1 h.2
  where
    by : (y : Item) → Contains c y → IsSchema z.name y → ⊥
    by (item.Schema y) there is =
        let same : item_cmp (item.Schema y) (item.Schema z) ≡ Equal = subst (λ n. item_cmp (item.Schema y) (item.Schema (record { name = n; owner = z.owner })) ≡ Equal) is (same_key (item.Schema y)) in
        let at = key_at_place c (item.Schema y) (item.Schema z) there same in
        new at.0 at.1
    by _ there is = absurd is

old_or_added : (c : List Item) (edit : Edit) (edited : List Item) → IsEdited c edit edited → (y : Item) → Contains edited y → Contains c y ⊎ Contains edit.added y
old_or_added c edit edited is y h = elim ((is.members y).0 h) [ inl old ↦ inl old.0 | inr added ↦ inr added ]

-- a part of the need is added
abbrev pub HasNewPart : Edit → Need → Type 0
HasNewPart edit need = (y : Item) × Contains edit.added y × IsPartOfNeed need y

module _ (c : List Item) (edit : Edit) (edited : List Item) (good : IsGood c) (is_edited : IsEdited c edit edited) (new_keys : (x : Item) → Contains edit.added x → HasNewKey c x) (r : Right) where
  column_before : (column : Option (List ℕ)) → r.need.column ≡ column → HasColumn edited r.need.on column → HasColumn c r.need.on column ⊎ HasNewPart edit r.need
  column_before None e h = inl tt
  column_before (Some name) e h =
      elim (old_or_added c edit edited is_edited h.0 h.1) [
        | inl old ↦ inl (h.0, old, h.2)
        | inr added ↦ inr (h.0, added, inr (column_of_need r name e h.0 h.2))
      ]

  row_before : (name : List ℕ) → Has edited (MayBeSystemRow name r.need) → Has c (MayBeSystemRow name r.need) ⊎ HasNewPart edit r.need
  row_before name h =
      elim (old_or_added c edit edited is_edited h.0 h.1) [
        | inl old ↦ inl (h.0, old, h.2)
        | inr added ↦ inr (h.0, added, inl (row_object name r.need h.0 h.2).0)
      ]

  schema_before : Has edited (MayBeSystemSchema edited r) → Has c (MayBeSystemSchema c r) ⊎ HasNewPart edit r.need
  schema_before h = by h.0 h.1 h.2
    where
      by : (z : Item) → Contains edited z → MayBeSystemSchema edited r z → Has c (MayBeSystemSchema c r) ⊎ HasNewPart edit r.need
      by (item.Schema z) inside is =
          elim (row_before z.name is.1) [
            | inr part ↦ inr part
            | inl row ↦ (elim (old_or_added c edit edited is_edited (item.Schema z) inside) [
              | inl old ↦ inl (item.Schema z, old, (is.0, row))
              | inr added ↦ absurd (new_name c z (new_keys (item.Schema z) added) (row_schema c good z.name r.need row.0 row.1 row.2))
            ])
          ]
      by _ inside is = absurd is

  -- what the system could grant for the edited list it could grant before, or a part of its need is added
  pub part_before : MayBeSystemRight edited r → MayBeSystemRight c r ⊎ HasNewPart edit r.need
  part_before is =
      elim (column_before r.need.column refl is.1) [
        | inr part ↦ inr part
        | inl column ↦ (elim (schema_before is.2) [
          | inr part ↦ inr part
          | inl place ↦ inl (is.0, column, place)
        ])
      ]

-- ---- no item depends by name on the rights of a need

module _ (need : Need) (g : Auth) where
  abbrev rights : Topic
  rights = on.supply need g

  not_auth : (a : Auth) → IsAuthTopic a rights → ⊥
  not_auth (Named name) e = cc
  not_auth System e = e
  not_auth Public e = e

  not_column : (o : Object) (names : List (List ℕ)) → IsColumnTopic o names rights → ⊥
  not_column o names is = let e = is.2 in cc

  not_domain : (o : Option Object) → IsOptionalDomainTopic o rights → ⊥
  not_domain None e = e
  not_domain (Some o) e = cc

  not_object : (a : Action) (path : List (List ℕ)) → IsObjectTopic a path rights → ⊥
  not_object action.Usage path e = cc
  not_object action.Execute path e = cc
  not_object action.Admin path e = e
  not_object action.Select path e = cc
  not_object action.Insert path e = cc
  not_object action.Update path e = cc
  not_object action.Delete path e = cc
  not_object action.References path e = cc

  pub not_need : (other : Need) → IsNeedTopic other rights → ⊥
  not_need other (inl is) = not_object other.action other.on is
  not_need other (inr is) = let e = is.2 in cc

  not_party : (grantor grantee : Auth) → IsPartyTopic grantor grantee rights → ⊥
  not_party System grantee is = is
  not_party Public grantee is = elim is [ inl e ↦ e | inr by ↦ not_auth grantee by ]
  not_party (Named name) grantee is = elim is [ inl by ↦ not_auth (Named name) by | inr by ↦ not_auth grantee by ]

  not_right : (r : Right) → IsRightTopic r rights → ⊥
  not_right r (inl is) = not_need r.need is
  not_right r (inr is) = not_party r.grantor r.grantee is

  not_grant : (h : RoleGrant) → IsRoleGrantTopic h rights → ⊥
  not_grant h (inl e) = cc
  not_grant h (inr (inl e)) = cc
  not_grant h (inr (inr is)) = not_auth h.grantor is

  pub not_name : (x : Item) → IsNameTopic x rights → ⊥
  not_name (item.Schema x) e = cc
  not_name (item.Table o) is = elim is [ inl e ↦ cc | inr e ↦ cc ]
  not_name (item.View v) e = cc
  not_name (item.Column c) is = elim is [ inl e ↦ cc | inr by ↦ not_domain c.domain by ]
  not_name (item.Domain d) e = cc
  not_name (item.DomainCheck d) is = elim is [ inl e ↦ cc | inr e ↦ cc ]
  not_name (item.Key k) is = elim is [ inl e ↦ cc | inr more ↦ elim more [ inl e ↦ cc | inr by ↦ not_column k.table k.columns by ] ]
  not_name (item.Foreign f) is = elim is [
    | inl e ↦ cc
    | inr more ↦ (elim more [
      | inl e ↦ cc
      | inr far ↦ (elim far [
        | inl by ↦ not_column f.table f.columns by
        | inr target ↦ (elim target [
          | inl e ↦ cc
          | inr last ↦ (elim last [ inl by ↦ not_column f.target f.target_columns by | inr e ↦ cc ])
        ])
      ])
    ])
  ]
  not_name (item.Check k) is = elim is [ inl e ↦ cc | inr more ↦ elim more [ inl e ↦ cc | inr by ↦ not_column k.table k.columns by ] ]
  not_name (item.Assertion a) e = cc
  not_name (item.Routine r) e = cc
  not_name (item.RoleAuth h) is = not_grant h is
  not_name (item.RoleAdmin h) is = not_grant h is
  not_name (item.Held r) is = not_right r is
  not_name (item.Grantable r) is = not_right r is
  not_name _ is = is
