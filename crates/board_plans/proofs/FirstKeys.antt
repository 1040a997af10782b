-- Keys that are put in one by one, of which no two are the same.
use Rattle.std.proofs.Common.{◌≡◌, Bool, true, false, ◌||◌, if◌then◌else◌, List, [], ◌∷◌, ◌++◌, inl, inr, refl, sym, ◌∙◌, ap, subst, append_assoc}
use Rattle.std.specs.List.{Contains, fold, list_any}
use Rattle.std.proofs.lemmas.Bool.{cases_Bool}
use Rattle.std.proofs.lemmas.List.{append-nil}
use Rattle.std.proofs.lemmas.List.Elements.{Contains-append_cases, Contains-append_left}
use Rattle.finite_chains.proofs.Members.{Contains-cases, Contains-head, Contains-nil, Contains-tail}
use Rattle.indexmap.specs.IndexSet.{insert_key}
use Rattle.board_plans.proofs.Members.{Apart}

module _ {K : Type 0} (eq : K → K → Bool) where
  none_same : (k : K) (seen : List K) → ((j : K) → Contains seen j → eq k j ≡ true → ⊥) → list_any (eq k) seen ≡ false
  none_same k [] none = refl
  none_same k (j ∷ seen) none =
      elim (cases_Bool (eq k j)) [
        | inl told ↦ absurd (none j (Contains-head j seen) told)
        | inr clear ↦ ap (λ b. b || list_any (eq k) seen) clear ∙ none_same k seen (λ i h. none i (Contains-tail j seen i h))
      ]

  -- each joins behind those that there are
  pub all_join : (ks seen : List K) → Apart ks → ((k : K) → Contains ks k → Contains seen k → ⊥) → ((k j : K) → Contains ks k → Contains (seen ++ ks) j → eq k j ≡ true → k ≡ j) → fold (insert_key eq) seen ks ≡ seen ++ ks
  all_join [] seen apart new told = sym (append-nil seen)
  all_join (k ∷ ks) seen apart new told =
      let here = none_same k seen (λ j h same. new k (Contains-head k ks) (subst (Contains seen) (sym (told k j (Contains-head k ks) (Contains-append_left seen (k ∷ ks) j h) same)) h)) in
      let put : insert_key eq seen k ≡ seen ++ k ∷ [] = ap (λ (b : Bool). if b then seen else seen ++ k ∷ []) here in
      ap (λ (s : List K). fold (insert_key eq) s ks) put
      ∙ all_join ks (seen ++ k ∷ []) apart.1
      (λ j h there. elim (Contains-append_cases seen (k ∷ []) j there) [
        | inl old ↦ new j (Contains-tail k ks j h) old
        | inr last ↦ (elim (Contains-cases k [] j last) [ inl e ↦ apart.0 (subst (Contains ks) (sym e) h) | inr empty ↦ Contains-nil j empty ])
      ])
      (λ i j h there same. told i j (Contains-tail k ks i h) (subst (λ (l : List K). Contains l j) (append_assoc seen (k ∷ []) ks) there) same)
      ∙ append_assoc seen (k ∷ []) ks
