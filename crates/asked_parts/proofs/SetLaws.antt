-- Keys that are put into a set in turn.
use Rattle.std.proofs.Common.{◌≡◌, ◌⊎◌, ◌↔◌, inl, inr, refl, Bool, true, false, if◌then◌else◌, List, [], ◌∷◌, ◌++◌, length, subst, sym, arith}
use Rattle.std.specs.List.{Contains, list_any}
use Rattle.std.proofs.lemmas.List.Elements.{Contains-append_left, Contains-push, Contains-push_cases}
use Rattle.std.proofs.lemmas.List.Folds.{Any-from_list_any}
use Rattle.finite_chains.proofs.Members.{Contains-cases, Contains-head, Contains-nil, Contains-tail}
use Rattle.indexmap.specs.IndexSet.{insert_key}
use Rattle.cat_items.specs.declared.item.Item.{Item}
use Rattle.cat_items.specs.contracts.item.ItemPartialEq.TheImpl as same
use Rattle.topic_keys.specs.Lists.{AreKnownByKey}
use Rattle.asked_parts.proofs.UnderLaws.{one_place}

module _ (set : List Item) (key : Item) (known : (y : Item) → Contains set y → same.ghosts.eq key y ≡ true → key ≡ y) where
  abbrev with_key : Bool → List Item
  with_key there = if there then set else set ++ key ∷ []

  one_more : (there : Bool) → list_any (same.ghosts.eq key) set ≡ there → (x : Item) → Contains (with_key there) x ↔ (Contains set x ⊎ (key ≡ x))
  one_more true told x =
      let by = Any-from_list_any (same.ghosts.eq key) set told in
      let y : Item = by.1 in
      let found : Contains set y = (by.0, by.2, by.3) in
      let here : Contains set key = subst (Contains set) (sym (known y found by.4)) found in
      (λ h. inl h, λ h. elim h [ inl old ↦ old | inr e ↦ subst (Contains set) e here ])
  one_more false told x = (
    λ h. Contains-push_cases set key x h,
    λ h. elim h [ inl old ↦ Contains-append_left set (key ∷ []) x old | inr e ↦ subst (Contains (set ++ key ∷ [])) e (Contains-push set key) ],
  )

  key_put : (x : Item) → Contains (insert_key same.ghosts.eq set key) x ↔ (Contains set x ⊎ (key ≡ x))
  key_put x = one_more (list_any (same.ghosts.eq key) set) refl x

-- of keys that are known by themselves one more is put in
pub set_next : (all set next more rest : List Item) (key : Item) → AreKnownByKey all → next ≡ insert_key same.ghosts.eq set key → more ≡ key ∷ rest → ((k : Item) → Contains all k ↔ (Contains set k ⊎ Contains more k))
    → (k : Item) → Contains all k ↔ (Contains next k ⊎ Contains rest k)
set_next all set next more rest key known put took are k = (
  λ h. elim ((are k).0 h) [
    | inl old ↦ inl (to_next (inl old))
    | inr left ↦ (elim (Contains-cases key rest k (subst (λ l. Contains l k) took left)) [ inl e ↦ inl (to_next (inr e)) | inr later ↦ inr later ])
  ],
  λ h. elim h [
    | inl there ↦ (elim ((key_put set key one k).0 (subst (λ l. Contains l k) put there)) [ inl old ↦ (are k).1 (inl old) | inr e ↦ subst (Contains all) e now ])
    | inr later ↦ (are k).1 (inr (subst (λ l. Contains l k) (sym took) (Contains-tail key rest k later)))
  ],
)
  where
    now : Contains all key
    now = (are key).1 (inr (subst (λ l. Contains l key) (sym took) (Contains-head key rest)))

    one : (y : Item) → Contains set y → same.ghosts.eq key y ≡ true → key ≡ y
    one y there e = known key y now ((are y).1 (inl there)) (one_place key y e)

    to_next : Contains set k ⊎ (key ≡ k) → Contains next k
    to_next h = subst (λ l. Contains l k) (sym put) ((key_put set key one k).1 h)

pub set_begun : (all set more : List Item) → set ≡ [] → more ≡ all → (k : Item) → Contains all k ↔ (Contains set k ⊎ Contains more k)
set_begun all set more none is k = (
  λ h. inr (subst (λ l. Contains l k) (sym is) h),
  λ h. elim h [ inl there ↦ absurd (Contains-nil k (subst (λ l. Contains l k) none there)) | inr left ↦ subst (λ l. Contains l k) is left ],
)

pub set_made : (all set more : List Item) → length more ≡ 0 → ((k : Item) → Contains all k ↔ (Contains set k ⊎ Contains more k)) → (k : Item) → Contains set k ↔ Contains all k
set_made all set more none are k = (
  λ h. (are k).1 (inl h),
  λ h. elim ((are k).0 h) [ inl there ↦ there | inr left ↦ absurd (omega (arith, none, left.1)) ],
)

-- what has the same members is known by its keys too
pub known_still : (all some : List Item) → AreKnownByKey all → ((k : Item) → Contains some k ↔ Contains all k) → AreKnownByKey some
known_still all some known are x y here there e = known x y ((are x).0 here) ((are y).0 there) e
