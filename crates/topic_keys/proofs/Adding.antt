-- Lists that get what is so, one part after the other.
use Rattle.std.proofs.Common.{◌≡◌, ◌↔◌, ◌⊎◌, inl, inr, ℕ, ◌<◌, ◌≤◌, ◌+◌, List, [], ◌∷◌, ◌++◌, length, get_or, take, refl, sym, ap, subst, ◌∙◌}
use Rattle.std.specs.List.{Contains}
use Rattle.std.specs.Result.{OnOk}
use Rattle.std.specs.declared.result.Result.{Result}
use Rattle.std.proofs.lemmas.List.{take_more, take_all}
use Rattle.std.proofs.lemmas.List.Elements.{Contains-append_left, Contains-append_right, Contains-append_cases}
use Rattle.finite_chains.proofs.Members.{Contains-nil, Contains-head, Contains-cases}
use Rattle.cat_items.specs.declared.item.Item.{Item}
use Rattle.cascade_laws.specs.Topics.{Topic, authorization, role_named, schema, table, base_table, columns, column, domain, routine, key, supply, edges, admins, held, role_auth}
use Rattle.board_graph.specs.BoardKeys.{topic_key}
use Rattle.edit_rules.specs.Chosen.{IsRightOrRoleGrant}
use Rattle.topic_keys.specs.Lists.{Adds, Gets, IsKeyWhere}

module _ {X : Type 0} where
  module _ (P Q : X → Type 0) where
    -- what is so alike
    pub gets_alike : (old new : List X) → ((x : X) → P x ↔ Q x) → Gets P old new → Gets Q old new
    gets_alike old new same gets x = (
      λ h. elim ((gets x).0 h) [ inl before ↦ inl before | inr p ↦ inr ((same x).0 p) ],
      λ h. (gets x).1 (elim h [ inl before ↦ inl before | inr q ↦ inr ((same x).1 q) ]),
    )

    -- some, and then others
    pub gets_both : (old mid new : List X) → Gets P old mid → Gets Q mid new → Gets (λ x. P x ⊎ Q x) old new
    gets_both old mid new first second x = (
      λ h. elim ((second x).0 h) [
        | inl m ↦ elim ((first x).0 m) [ inl before ↦ inl before | inr p ↦ inr (inl p) ]
        | inr q ↦ inr (inr q)
      ],
      λ h. elim h [
        | inl before ↦ (second x).1 (inl ((first x).1 (inl before)))
        | inr of ↦ elim of [
          | inl p ↦ (second x).1 (inl ((first x).1 (inr p)))
          | inr q ↦ (second x).1 (inr q)
        ]
      ],
    )

  -- nothing is so
  pub gets_none : (P : X → Type 0) (old new : List X) → old ≡ new → ((x : X) → ¬ (P x)) → Gets P old new
  gets_none P old new same none x = (
    λ h. inl (subst (λ l. Contains l x) (sym same) h),
    λ h. elim h [ inl before ↦ subst (λ l. Contains l x) same before | inr p ↦ absurd (none x p) ],
  )

  -- one is put behind
  pub gets_one : (y : X) (old : List X) → Gets (λ x. x ≡ y) old (old ++ y ∷ [])
  gets_one y old x = (
    λ h. elim (Contains-append_cases old (y ∷ []) x h) [
      | inl before ↦ inl before
      | inr last ↦ elim (Contains-cases y [] x last) [ inl e ↦ inr (sym e) | inr none ↦ absurd (Contains-nil x none) ]
    ],
    λ h. elim h [
      | inl before ↦ Contains-append_left old (y ∷ []) x before
      | inr e ↦ Contains-append_right old (y ∷ []) x (subst (Contains (y ∷ [])) (sym e) (Contains-head y []))
    ],
  )

  -- a list is put behind
  pub gets_all : (ys old : List X) → Gets (Contains ys) old (old ++ ys)
  gets_all ys old x = (λ h. Contains-append_cases old ys x h, λ h. elim h [ inl before ↦ Contains-append_left old ys x before | inr more ↦ Contains-append_right old ys x more ])

-- ---- for each member of a list

module _ {A X : Type 0} (R : A → X → Type 0) (members : List A) where
  -- what is so of one of the first members
  abbrev pub IsOfFirst : ℕ → X → Type 0
  IsOfFirst i x = (a : A) × Contains (take i members) a × R a x

  -- of any member
  abbrev pub IsOfSome : X → Type 0
  IsOfSome x = (a : A) × Contains members a × R a x

  pub each_begin : (old : List X) → Gets (IsOfFirst 0) old old
  each_begin old = gets_none (IsOfFirst 0) old old refl (λ x h. Contains-nil h.0 h.1)

  next_member : (i : ℕ) (a b : A) → i < length members → a ≡ get_or members i a → Contains (take (i + 1) members) b → Contains (take i members) b ⊎ (b ≡ a)
  next_member i a b low is h =
      elim (Contains-append_cases (take i members) (a ∷ []) b (subst (λ l. Contains l b) (take_more members i a low ∙ ap (λ z. take i members ++ z ∷ []) (sym is)) h)) [
        | inl before ↦ inl before
        | inr last ↦ elim (Contains-cases a [] b last) [ inl e ↦ inr (sym e) | inr none ↦ absurd (Contains-nil b none) ]
      ]

  more_members : (i : ℕ) (a b : A) → i < length members → a ≡ get_or members i a → Contains (take i members ++ a ∷ []) b → Contains (take (i + 1) members) b
  more_members i a b low is h = subst (λ l. Contains l b) (sym (take_more members i a low ∙ ap (λ z. take i members ++ z ∷ []) (sym is))) h

  pub each_more : (old mid new : List X) (i : ℕ) (a : A) → i < length members → a ≡ get_or members i a → Gets (IsOfFirst i) old mid → Gets (R a) mid new → Gets (IsOfFirst (i + 1)) old new
  each_more old mid new i a low is first second =
      gets_alike (λ x. IsOfFirst i x ⊎ R a x) (IsOfFirst (i + 1)) old new (λ x. (
        λ h. elim h [
          | inl of ↦ (of.0, more_members i a of.0 low is (Contains-append_left (take i members) (a ∷ []) of.0 of.1), of.2)
          | inr r ↦ (a, more_members i a a low is (Contains-append_right (take i members) (a ∷ []) a (Contains-head a [])), r)
        ],
        λ h. elim (next_member i a h.0 low is h.1) [
          | inl before ↦ inl (h.0, before, h.2)
          | inr e ↦ inr (subst (λ z. R z x) e h.2)
        ],
      )) (gets_both (IsOfFirst i) (R a) old mid new first second)

  pub each_end : (old new : List X) (i : ℕ) → length members ≤ i → Gets (IsOfFirst i) old new → Gets IsOfSome old new
  each_end old new i all gets = subst (λ (l : List A). Gets (λ x. (a : A) × Contains l a × R a x) old new) (take_all i members all) gets

-- ---- keys

module _ (P Q : Topic → Type 0) where
  -- topics that are alike have the same keys
  pub adds_alike : (old new : List Item) → ((t : Topic) → P t ↔ Q t) → Adds P old new → Adds Q old new
  adds_alike old new same adds =
      gets_alike (IsKeyWhere P) (IsKeyWhere Q) old new (λ k. ((λ of. (of.0, (same of.0).0 of.1, of.2)), (λ of. (of.0, (same of.0).1 of.1, of.2)))) adds

  pub adds_both : (old mid new : List Item) → Adds P old mid → Adds Q mid new → Adds (λ t. P t ⊎ Q t) old new
  adds_both old mid new first second =
      gets_alike (λ k. IsKeyWhere P k ⊎ IsKeyWhere Q k) (IsKeyWhere (λ t. P t ⊎ Q t)) old new (λ k. (
        λ h. elim h [ inl of ↦ (of.0, inl of.1, of.2) | inr of ↦ (of.0, inr of.1, of.2) ],
        λ of. elim of.1 [ inl p ↦ inl (of.0, p, of.2) | inr q ↦ inr (of.0, q, of.2) ],
      )) (gets_both (IsKeyWhere P) (IsKeyWhere Q) old mid new first second)

pub adds_none : (P : Topic → Type 0) (old new : List Item) → old ≡ new → ((t : Topic) → ¬ (P t)) → Adds P old new
adds_none P old new same none = gets_none (IsKeyWhere P) old new same (λ k of. none of.0 of.1)

-- one is put behind, by its key
pub adds_behind : (t : Topic) (made : Item) (old new : List Item) → made ≡ topic_key t → new ≡ old ++ made ∷ [] → Adds (λ s. s ≡ t) old new
adds_behind t made old new e put =
    gets_alike (λ k. k ≡ made) (IsKeyWhere (λ s. s ≡ t)) old new (λ k. ((λ at. (t, refl, at ∙ e)), (λ of. of.2 ∙ ap topic_key of.1 ∙ sym e)))
    (subst (Gets (λ k. k ≡ made) old) (sym put) (gets_one made old))

-- each topic's key is a right or a role grant
pub topic_granted : (t : Topic) → IsRightOrRoleGrant (topic_key t)
topic_granted (authorization name) = tt
topic_granted (role_named name) = tt
topic_granted (schema name) = tt
topic_granted (table path) = tt
topic_granted (base_table o) = tt
topic_granted (columns o) = tt
topic_granted (column path name) = tt
topic_granted (domain path) = tt
topic_granted (routine path) = tt
topic_granted (key o) = tt
topic_granted (supply need g) = tt
topic_granted (edges name) = tt
topic_granted (admins role name) = tt
topic_granted (held r) = tt
topic_granted (role_auth g) = tt

-- a list that was empty holds exactly what it got
pub adds_all : (P Q : Topic → Type 0) (old new : List Item) → old ≡ [] → ((t : Topic) → P t ↔ Q t) → Adds P old new → (k : Item) → Contains new k ↔ IsKeyWhere Q k
adds_all P Q old new empty same adds k = (
  λ h. elim ((adds_alike P Q old new same adds k).0 h) [ inl before ↦ absurd (Contains-nil k (subst (λ l. Contains l k) empty before)) | inr of ↦ of ],
  λ of. (adds_alike P Q old new same adds k).1 (inr of),
)

-- what is said of one thing is said of an equal one
pub adds_at : {X T E : Type 0} (P : X → Topic → Type 0) (x y : X) (result : Result T E) (old new : List Item) → x ≡ y → OnOk result (Adds (P y) old new) → OnOk result (Adds (P x) old new)
adds_at P x y result old new e gets = subst (λ z. OnOk result (Adds (P z) old new)) (sym e) gets

-- a topic in the place of an equal one
pub adds_as : {T E : Type 0} (t s : Topic) (result : Result T E) (old new : List Item) → t ≡ s → OnOk result (Adds (λ u. u ≡ t) old new) → OnOk result (Adds (λ u. u ≡ s) old new)
adds_as t s result old new e gets = subst (λ z. OnOk result (Adds (λ u. u ≡ z) old new)) e gets
