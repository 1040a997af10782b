-- Numbers that are put into a set in turn.
use Rattle.std.proofs.Common.{◌≡◌, ◌⊎◌, ℕ, Bool, true, false, nat_eq, if◌then◌else◌, List, [], ◌∷◌, ◌++◌, inl, inr, sym, ap, subst}
use Rattle.std.specs.Cmp.{nat_eq_equiv}
use Rattle.std.specs.List.{Contains, list_any}
use Rattle.std.proofs.lemmas.Bool.{both_ways, cases_Bool, eqb-true}
use Rattle.std.proofs.lemmas.List.Elements.{Contains-append_cases, Contains-append_left, Contains-push}
use Rattle.std.proofs.lemmas.Map.Views.{Contains-from_any, list_any-from_Contains}
use Rattle.finite_chains.proofs.Members.{Contains-cases, Contains-head, Contains-nil, Contains-tail}
use Rattle.indexmap.specs.IndexSet.{insert_all, insert_key}
use Rattle.board_plans.proofs.Members.{Apart, apart_append}

pub is_there : (n : ℕ) (ns : List ℕ) → list_any (nat_eq n) ns ≡ true → Contains ns n
is_there n ns told = Contains-from_any (λ x y same. eqb-true x y same) n ns told

pub told_there : (n : ℕ) (ns : List ℕ) → Contains ns n → list_any (nat_eq n) ns ≡ true
told_there n ns h = list_any-from_Contains nat_eq_equiv n ns h

-- ---- one number

module _ (seen : List ℕ) (n : ℕ) where
  stays : list_any (nat_eq n) seen ≡ true → insert_key nat_eq seen n ≡ seen
  stays told = ap (λ (b : Bool). if b then seen else seen ++ n ∷ []) told

  joins : list_any (nat_eq n) seen ≡ false → insert_key nat_eq seen n ≡ seen ++ n ∷ []
  joins none = ap (λ (b : Bool). if b then seen else seen ++ n ∷ []) none

  one_of : (m : ℕ) → Contains (insert_key nat_eq seen n) m → Contains seen m ⊎ (n ≡ m)
  one_of m h =
      elim (cases_Bool (list_any (nat_eq n) seen)) [
        | inl told ↦ inl (subst (λ (ns : List ℕ). Contains ns m) (stays told) h)
        | inr none ↦ (elim (Contains-append_cases seen (n ∷ []) m (subst (λ (ns : List ℕ). Contains ns m) (joins none) h)) [
          | inl old ↦ inl old
          | inr new ↦ (elim (Contains-cases n [] m new) [ inl e ↦ inr e | inr empty ↦ absurd (Contains-nil m empty) ])
        ])
      ]

  old_of : (m : ℕ) → Contains seen m → Contains (insert_key nat_eq seen n) m
  old_of m h =
      elim (cases_Bool (list_any (nat_eq n) seen)) [
        | inl told ↦ subst (λ (ns : List ℕ). Contains ns m) (sym (stays told)) h
        | inr none ↦ subst (λ (ns : List ℕ). Contains ns m) (sym (joins none)) (Contains-append_left seen (n ∷ []) m h)
      ]

  own_of : Contains (insert_key nat_eq seen n) n
  own_of =
      elim (cases_Bool (list_any (nat_eq n) seen)) [
        | inl told ↦ subst (λ (ns : List ℕ). Contains ns n) (sym (stays told)) (is_there n seen told)
        | inr none ↦ subst (λ (ns : List ℕ). Contains ns n) (sym (joins none)) (Contains-push seen n)
      ]

  one_apart : Apart seen → Apart (insert_key nat_eq seen n)
  one_apart apart =
      elim (cases_Bool (list_any (nat_eq n) seen)) [
        | inl told ↦ subst Apart (sym (stays told)) apart
        | inr none ↦
            subst Apart (sym (joins none)) (apart_append seen (n ∷ []) apart (λ h. Contains-nil n h, tt)
            (λ m old new. elim (Contains-cases n [] m new) [ inl e ↦ both_ways (list_any (nat_eq n) seen) none (told_there n seen (subst (Contains seen) (sym e) old)) | inr empty ↦ Contains-nil m empty ]))
      ]

-- ---- many

pub inserted_of : (ks seen : List ℕ) (m : ℕ) → Contains (insert_all nat_eq seen ks) m → Contains seen m ⊎ Contains ks m
inserted_of [] seen m h = inl h
inserted_of (k ∷ ks) seen m h =
    elim (inserted_of ks (insert_key nat_eq seen k) m h) [
      | inl old ↦ (elim (one_of seen k m old) [ inl was ↦ inl was | inr e ↦ inr (subst (Contains (k ∷ ks)) e (Contains-head k ks)) ])
      | inr later ↦ inr (Contains-tail k ks m later)
    ]

pub of_inserted : (ks seen : List ℕ) (m : ℕ) → Contains seen m ⊎ Contains ks m → Contains (insert_all nat_eq seen ks) m
of_inserted [] seen m is = elim is [ inl old ↦ old | inr none ↦ absurd (Contains-nil m none) ]
of_inserted (k ∷ ks) seen m is =
    of_inserted ks (insert_key nat_eq seen k) m (elim is [
      | inl old ↦ inl (old_of seen k m old)
      | inr new ↦ (elim (Contains-cases k ks m new) [ inl e ↦ inl (subst (Contains (insert_key nat_eq seen k)) e (own_of seen k)) | inr later ↦ inr later ])
    ])

pub inserted_apart : (ks seen : List ℕ) → Apart seen → Apart (insert_all nat_eq seen ks)
inserted_apart [] seen apart = apart
inserted_apart (k ∷ ks) seen apart = inserted_apart ks (insert_key nat_eq seen k) (one_apart seen k apart)
