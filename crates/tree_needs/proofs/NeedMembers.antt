-- The needs of a mention, and of one more mention.
use Rattle.std.proofs.Common.{◌≡◌, ◌⊎◌, ◌↔◌, ℕ, zero, suc, ◌+◌, ◌<◌, ◌≤◌, List, [], ◌∷◌, length, drop, slice_index_or, sym, subst, refl, inl, inr, add-one, arith}
use Rattle.std.specs.List.{Contains}
use Rattle.finite_chains.proofs.Members.{Contains-nil, Contains-head, Contains-cases}
use Rattle.std.proofs.lemmas.List.Elements.{Contains-append_left, Contains-append_right, Contains-append_cases}
use Rattle.sql_tree.specs.declared.rights.Action.{Action}
use Rattle.cat_items.specs.declared.need.Need.{Need}
use Rattle.cat_items.specs.Mentions.{Mention}
use Rattle.cat_items.specs.Needs.{mention_needs, needs_of_mentions}
use Rattle.tree_needs.specs.Ordered.{Gains}

pub members_none : (needs : List Need) → Gains needs needs []
members_none needs x = (λ c. inl c, λ h. elim h [ inl c ↦ c | inr c ↦ absurd (Contains-nil x c) ])

pub members_one : (old new : List Need) (n : Need) → ((x : Need) → Contains new x ↔ (Contains old x ⊎ (x ≡ n))) → Gains old new (n ∷ [])
members_one old new n is x = (to, from)
  where
    to : Contains new x → Contains old x ⊎ Contains (n ∷ []) x
    to c = elim ((is x).0 c) [ inl before ↦ inl before | inr e ↦ inr (subst (λ y. Contains (n ∷ []) y) (sym e) (Contains-head n [])) ]

    from : Contains old x ⊎ Contains (n ∷ []) x → Contains new x
    from h = (is x).1 (elim h [ inl before ↦ inl before | inr c ↦ elim (Contains-cases n [] x c) [ inl e ↦ inr (sym e) | inr none ↦ absurd (Contains-nil x none) ] ])

-- what is left of the mentions, behind the needs so far
abbrev pub Leads : Action → List Need → List Mention → List Mention → Type 0
Leads reading needs rest all = (x : Need) → (Contains needs x ⊎ Contains (needs_of_mentions reading rest) x) ↔ Contains (needs_of_mentions reading all) x

pub leads_begin : (reading : Action) (all : List Mention) → Leads reading [] all all
leads_begin reading all x = (λ h. elim h [ inl c ↦ absurd (Contains-nil x c) | inr c ↦ c ], λ c. inr c)

pub leads_on : (reading : Action) (old new : List Need) (mention : Mention) (rest all : List Mention) → Gains old new (mention_needs reading mention) → Leads reading old (mention ∷ rest) all → Leads reading new rest all
leads_on reading old new mention rest all gains leads x = (to, from)
  where
    here : List Need
    here = mention_needs reading mention

    to : Contains new x ⊎ Contains (needs_of_mentions reading rest) x → Contains (needs_of_mentions reading all) x
    to h = (leads x).0 (elim h [
      | inl c ↦ elim ((gains x).0 c) [ inl before ↦ inl before | inr now ↦ inr (Contains-append_left here (needs_of_mentions reading rest) x now) ]
      | inr later ↦ inr (Contains-append_right here (needs_of_mentions reading rest) x later)
    ])

    from : Contains (needs_of_mentions reading all) x → Contains new x ⊎ Contains (needs_of_mentions reading rest) x
    from c = elim ((leads x).1 c) [
      | inl before ↦ inl ((gains x).1 (inl before))
      | inr more ↦ elim (Contains-append_cases here (needs_of_mentions reading rest) x more) [ inl now ↦ inl ((gains x).1 (inr now)) | inr later ↦ inr later ]
    ]

pub leads_end : (reading : Action) (needs : List Need) (all : List Mention) → Leads reading needs [] all → (x : Need) → Contains needs x ↔ Contains (needs_of_mentions reading all) x
leads_end reading needs all leads x = (λ c. (leads x).0 (inl c), λ c. elim ((leads x).1 c) [ inl n ↦ n | inr none ↦ absurd (Contains-nil x none) ])

pub drop_next : {X : Type 0} (xs : List X) (i : ℕ) (x : X) → i < length xs → x ≡ slice_index_or xs i x → drop i xs ≡ x ∷ drop (i + 1) xs
drop_next [] i x low is = absurd (omega (arith, low))
drop_next (y ∷ ys) zero x low is = let same : x ≡ y = is in rw same refl
drop_next (y ∷ ys) (suc i) x low is = rw add-one (rw add-one at (drop_next ys i x (omega (arith, low)) is))

pub drop_end : {X : Type 0} (xs : List X) (i : ℕ) → length xs ≤ i → drop i xs ≡ []
drop_end [] zero end = refl
drop_end [] (suc i) end = refl
drop_end (x ∷ xs) zero end = absurd (omega (arith, end))
drop_end (x ∷ xs) (suc i) end = drop_end xs i (omega (arith, end))
