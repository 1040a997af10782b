-- Parts of the topics by name, put together.
use Rattle.std.proofs.Common.{◌≡◌, ◌↔◌, ◌⊎◌, inl, inr, ℕ, List, [], ◌∷◌, Some, None, refl, ap, sym, ◌∙◌}
use Rattle.std.specs.List.{slice_get}
use Rattle.sql_tree.specs.declared.rights.Action.{Action}
use Rattle.sql_tree.specs.declared.rights.Action.TheVariants.{Select, Insert, Update, Delete, References, Usage, Execute, Admin}
use Rattle.cat_items.specs.declared.need.Auth.{Auth}
use Rattle.cat_items.specs.declared.need.Auth.TheVariants.{System, Public, Named}
use Rattle.cat_items.specs.declared.item.Foreign.{Foreign}
use Rattle.cat_items.specs.declared.item.Item.TheVariants as item
use Rattle.cascade_laws.specs.Asks.{IsFirstTopic}
use Rattle.cascade_laws.specs.Topics.{Topic, IsAuthTopic, IsNameTopic, IsObjectTopic, IsColumnTopic, IsPartyTopic, column, schema, table}
use Rattle.cat_items.specs.declared.need.Need.{Need}
use Rattle.sql_names.specs.declared.object.Object.{Object}
use Rattle.cat_items.specs.declared.item.Item.{Item}
use Rattle.cat_items.specs.Rights.{path_of}
use Rattle.topic_keys.specs.Lists.{Adds, Gets, IsKeyWhere}
use Rattle.topic_keys.proofs.Adding.{IsOfSome, gets_alike}
use Rattle.topic_keys.specs.Names.{IsConstraintTopic, IsNeedColumnTopic, IsTargetTopic}

pub foreign_topics : (f : Foreign) (t : Topic) → (IsConstraintTopic f.name f.table f.columns t ⊎ IsTargetTopic f t) ↔ IsNameTopic (item.Foreign f) t
foreign_topics f t = (to, from)
  where
    to : IsConstraintTopic f.name f.table f.columns t ⊎ IsTargetTopic f t → IsNameTopic (item.Foreign f) t
    to (inl (inl e)) = inl e
    to (inl (inr (inl e))) = inr (inl e)
    to (inl (inr (inr h))) = inr (inr (inl h))
    to (inr (inl e)) = inr (inr (inr (inl e)))
    to (inr (inr (inl h))) = inr (inr (inr (inr (inl h))))
    to (inr (inr (inr e))) = inr (inr (inr (inr (inr e))))

    from : IsNameTopic (item.Foreign f) t → IsConstraintTopic f.name f.table f.columns t ⊎ IsTargetTopic f t
    from (inl e) = inl (inl e)
    from (inr (inl e)) = inl (inr (inl e))
    from (inr (inr (inl h))) = inl (inr (inr h))
    from (inr (inr (inr (inl e)))) = inr (inl e)
    from (inr (inr (inr (inr (inl h))))) = inr (inr (inl h))
    from (inr (inr (inr (inr (inr e))))) = inr (inr (inr e))

-- the object of an action on tables
pub table_topics : (action : Action) (path : List (List ℕ)) → (action ≡ Usage → ⊥) → (action ≡ Execute → ⊥) → (action ≡ Admin → ⊥) → (t : Topic) → (t ≡ table path) ↔ IsObjectTopic action path t
table_topics Usage path u e a t = absurd (u refl)
table_topics Execute path u e a t = absurd (e refl)
table_topics Admin path u e a t = absurd (a refl)
table_topics Select path u e a t = (λ h. h, λ h. h)
table_topics Insert path u e a t = (λ h. h, λ h. h)
table_topics Update path u e a t = (λ h. h, λ h. h)
table_topics Delete path u e a t = (λ h. h, λ h. h)
table_topics References path u e a t = (λ h. h, λ h. h)

-- the parties of a right that isn't by the system
pub party_topics : (grantor grantee : Auth) → (grantor ≡ System → ⊥) → (t : Topic) → (IsAuthTopic grantor t ⊎ IsAuthTopic grantee t) ↔ IsPartyTopic grantor grantee t
party_topics System grantee other t = absurd (other refl)
party_topics Public grantee other t = (λ h. h, λ h. h)
party_topics (Named name) grantee other t = (λ h. h, λ h. h)

-- the schema that a path begins with
pub first_topics : (path : List (List ℕ)) (name : List ℕ) → Some name ≡ slice_get path 0 → (t : Topic) → (t ≡ schema name) ↔ IsFirstTopic path t
first_topics [] name e t = absurd (let odd : Some name ≡ None = e in cc)
first_topics (first ∷ names) name e t = let same : name ≡ first = cc in (λ h. h ∙ ap schema same, λ h. h ∙ ap schema (sym same))

-- the column of a need
pub column_topics : (need : Need) (name : List ℕ) → need.column ≡ Some name → (t : Topic) → (t ≡ column need.on name) ↔ IsNeedColumnTopic need t
column_topics need name e t = (
  λ h. (name, e, h),
  λ h. let both : Some h.0 ≡ Some name = sym h.1 ∙ e in let same : h.0 ≡ name = cc in h.2 ∙ ap (column need.on) same,
)

-- the topics of columns, name by name
pub columns_among : (o : Object) (names : List (List ℕ)) (old new : List Item) → Gets (IsOfSome (λ name. IsKeyWhere (λ t. t ≡ column (path_of o) name)) names) old new → Adds (IsColumnTopic o names) old new
columns_among o names old new gets =
    gets_alike (IsOfSome (λ name. IsKeyWhere (λ t. t ≡ column (path_of o) name)) names) (IsKeyWhere (IsColumnTopic o names)) old new
    (λ k. ((λ h. (h.2.0, (h.0, h.1, h.2.1), h.2.2)), (λ h. (h.1.0, h.1.1, (h.0, h.1.2, h.2))))) gets
