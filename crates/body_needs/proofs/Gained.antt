-- Needs that are put in, one after the other.
use Rattle.std.proofs.Common.{◌≡◌, ◌⊎◌, ◌↔◌, List, [], ◌∷◌, ◌++◌, Ok, Err, OnOk, sym, subst, inl, inr}
use Rattle.std.specs.Prelude.{flat_map}
use Rattle.std.specs.List.{Contains}
use Rattle.std.specs.declared.result.Result.{Result}
use Rattle.finite_chains.proofs.Members.{Contains-nil}
use Rattle.std.proofs.lemmas.List.Elements.{Contains-append_left, Contains-append_right, Contains-append_cases}
use Rattle.cat_items.specs.declared.need.Need.{Need}
use Rattle.cat_items.specs.Needs.{AreNeeds}
use Rattle.tree_needs.specs.Ordered.{Gains}

pub gains_append : (old more : List Need) → Gains old (old ++ more) more
gains_append old more x = (λ c. Contains-append_cases old more x c, λ h. elim h [ inl before ↦ Contains-append_left old more x before | inr now ↦ Contains-append_right old more x now ])

pub gains_is : (old new more : List Need) → new ≡ old ++ more → Gains old new more
gains_is old new more is = subst (λ l. Gains old l more) (sym is) (gains_append old more)

pub gains_from_none : (new more : List Need) → Gains [] new more → (x : Need) → Contains new x ↔ Contains more x
gains_from_none new more gains x = (λ c. elim ((gains x).0 c) [ inl none ↦ absurd (Contains-nil x none) | inr now ↦ now ], λ c. (gains x).1 (inr c))

-- more that has the same members
pub gains_same : (old new a b : List Need) → ((x : Need) → Contains a x ↔ Contains b x) → Gains old new a → Gains old new b
gains_same old new a b same gains x = (
  λ c. elim ((gains x).0 c) [ inl before ↦ inl before | inr now ↦ inr ((same x).0 now) ],
  λ h. (gains x).1 (elim h [ inl before ↦ inl before | inr now ↦ inr ((same x).1 now) ]),
)

pub gains_both : (old mid new a b : List Need) → Gains old mid a → Gains mid new b → Gains old new (a ++ b)
gains_both old mid new a b first second x = (to, from)
  where
    to : Contains new x → Contains old x ⊎ Contains (a ++ b) x
    to c = elim ((second x).0 c) [
      | inl c ↦ elim ((first x).0 c) [ inl before ↦ inl before | inr now ↦ inr (Contains-append_left a b x now) ]
      | inr later ↦ inr (Contains-append_right a b x later)
    ]

    from : Contains old x ⊎ Contains (a ++ b) x → Contains new x
    from h = elim h [
      | inl before ↦ (second x).1 (inl ((first x).1 (inl before)))
      | inr more ↦ elim (Contains-append_cases a b x more) [ inl now ↦ (second x).1 (inl ((first x).1 (inr now))) | inr later ↦ (second x).1 (inr later) ]
    ]

-- behind needs that are put in first
pub gains_then : {E : Type 0} (r : Result (Unit {0}) E) (old mid new a b : List Need) → Gains old mid a → OnOk r (Gains mid new b) → OnOk r (Gains old new (a ++ b))
gains_then (Ok v) old mid new a b first second = gains_both old mid new a b first second
gains_then (Err e) old mid new a b first second = tt

-- needs that are put at the end
pub gains_appended : {E : Type 0} (r : Result (Unit {0}) E) (old new more b : List Need) → OnOk r (new ≡ old ++ more) → ((x : Need) → Contains more x ↔ Contains b x) → OnOk r (Gains old new b)
gains_appended (Ok v) old new more b is same = subst (λ l. Gains old l b) (sym is) (gains_same old (old ++ more) more b same (gains_append old more))
gains_appended (Err e) old new more b is same = tt

-- what is left of the parts, behind the needs so far
abbrev pub Leads : {X : Type 0} → (X → List Need) → List Need → List Need → List X → List X → Type 0
Leads f begin needs rest all = (x : Need) → (Contains needs x ⊎ Contains (flat_map f rest) x) ↔ (Contains begin x ⊎ Contains (flat_map f all) x)

module _ {X : Type 0} (f : X → List Need) (begin : List Need) where
  pub leads_begin : (all : List X) → Leads f begin begin all all
  leads_begin all x = (λ h. h, λ h. h)

  pub leads_on : (old new : List Need) (part : X) (rest all : List X) → Gains old new (f part) → Leads f begin old (part ∷ rest) all → Leads f begin new rest all
  leads_on old new part rest all gains leads x = (to, from)
    where
      to : Contains new x ⊎ Contains (flat_map f rest) x → Contains begin x ⊎ Contains (flat_map f all) x
      to h = (leads x).0 (elim h [
        | inl c ↦ elim ((gains x).0 c) [ inl before ↦ inl before | inr now ↦ inr (Contains-append_left (f part) (flat_map f rest) x now) ]
        | inr later ↦ inr (Contains-append_right (f part) (flat_map f rest) x later)
      ])

      from : Contains begin x ⊎ Contains (flat_map f all) x → Contains new x ⊎ Contains (flat_map f rest) x
      from h = elim ((leads x).1 h) [
        | inl before ↦ inl ((gains x).1 (inl before))
        | inr more ↦ elim (Contains-append_cases (f part) (flat_map f rest) x more) [ inl now ↦ inl ((gains x).1 (inr now)) | inr later ↦ inr later ]
      ]

  pub leads_end : (needs : List Need) (all : List X) → Leads f begin needs [] all → Gains begin needs (flat_map f all)
  leads_end needs all leads x = (λ c. (leads x).0 (inl c), λ h. elim ((leads x).1 h) [ inl c ↦ c | inr none ↦ absurd (Contains-nil x none) ])

-- a list of what is needed in two ways
pub needs_as : (P Q : Need → Type 0) (needs : List Need) → ((x : Need) → P x ↔ Q x) → AreNeeds needs P → AreNeeds needs Q
needs_as P Q needs same are = record {
  order = are.order;
  members = λ x. (λ h. (same x).0 ((are.members x).0 h), λ h. (are.members x).1 ((same x).1 h));
}
