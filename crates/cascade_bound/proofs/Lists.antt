-- Lists of all that is so, where no list of such items is longer than some number: that there is none can't be.
use Rattle.std.proofs.Common.{◌≡◌, ◌⊎◌, ◌↔◌, inl, inr, ℕ, zero, suc, ◌+◌, ◌≤◌, List, [], ◌∷◌, length, subst, arith}
use Rattle.std.specs.Cmp.{Equal-is}
use Rattle.std.specs.List.{Contains}
use Rattle.std.specs.Ordering.{is_eq}
use Rattle.std.specs.declared.cmp.Ordering.TheVariants.{Equal}
use Rattle.std.proofs.lemmas.Bool.Decides.{not_from_Decides}
use Rattle.std.proofs.lemmas.Bool.{cases_Bool, cases_lt}
use Rattle.finite_chains.proofs.Members.{Contains-nil, Contains-head, Contains-tail, Contains-cases}
use Rattle.cat_items.specs.declared.edit.Edit.{Edit}
use Rattle.cat_items.specs.declared.item.Item.{Item}
use Rattle.cat_items.specs.Catalogues.{IsInOrder}
use Rattle.cat_items.specs.Edits.{IsEdited}
use Rattle.cat_items.specs.Order.{item_cmp}
use Rattle.cat_items.specs.Reach.{Has}
use Rattle.cat_items.proofs.CatalogueLemmas.{in_order}
use Rattle.cat_items.proofs.KeyLemmas.{same_key}
use Rattle.support_laws.proofs.Decisions.{Decided, decided_has}
use Rattle.edit_laws.specs.Kinds.{HaveOwnKeys}
use Rattle.edit_laws.proofs.EditedLists.{edited_list}
use Rattle.look_up_bound.proofs.Counting.{IsOnce}

-- an order of numbers holds where it can't be that it doesn't
pub stable : (m n : ℕ) → ((m ≤ n → ⊥) → ⊥) → m ≤ n
stable m n h = elim (cases_lt n m) [ inl over ↦ absurd (h (λ low. omega (arith, over, low))) | inr low ↦ low ]

-- ---- into order

abbrev one_more : Item → Edit
one_more x = record { target = []; changed = []; added = x ∷ [] }

-- items of different places can be put in order
pub sorted : (xs : List Item) → ((x y : Item) → Contains xs x → Contains xs y → item_cmp x y ≡ Equal → x ≡ y) → (new : List Item) × IsInOrder new × ((x : Item) → Contains new x ↔ Contains xs x)
sorted [] one = ([], in_order [] tt, λ x. (λ h. h, λ h. h))
sorted (x ∷ xs) one =
    let rest = sorted xs (λ a b ha hb. one a b (Contains-tail x xs a ha) (Contains-tail x xs b hb)) in
    by rest
  where
    by : (new : List Item) × IsInOrder new × ((z : Item) → Contains new z ↔ Contains xs z) → (new : List Item) × IsInOrder new × ((z : Item) → Contains new z ↔ Contains (x ∷ xs) z)
    by (new, order, members) = (list.0, list.1.order, λ z. (to z, from z))
      where
        own : HaveOwnKeys new (one_more x)
        own a y h kept e = one a y (elim (Contains-cases x [] a h) [ inl same ↦ subst (Contains (x ∷ xs)) same (Contains-head x xs) | inr none ↦ absurd (Contains-nil a none) ]) (Contains-tail x xs y ((members y).0 kept.0)) e

        list : (edited : List Item) × IsEdited new (one_more x) edited
        list = edited_list new (one_more x) order (in_order (x ∷ []) (λ y h. absurd (Contains-nil y h), tt)) (λ y h. absurd (Contains-nil y h)) (λ y h. absurd (Contains-nil y h)) own

        to : (z : Item) → Contains list.0 z → Contains (x ∷ xs) z
        to z h = elim ((list.1.members z).0 h) [
          | inl old ↦ Contains-tail x xs z ((members z).0 old.0)
          | inr one_only ↦ (elim (Contains-cases x [] z one_only) [ inl same ↦ subst (Contains (x ∷ xs)) same (Contains-head x xs) | inr none ↦ absurd (Contains-nil z none) ])
        ]

        from : (z : Item) → Contains (x ∷ xs) z → Contains list.0 z
        from z h = elim (Contains-cases x xs z h) [
          | inl same ↦ (list.1.members z).1 (inr (subst (Contains (x ∷ [])) same (Contains-head x [])))
          | inr later ↦ (list.1.members z).1 (inl ((members z).1 later, Contains-nil z, Contains-nil z))
        ]

-- ---- all that is so

module _ (P : Item → Type 0) (one : (x y : Item) → P x → P y → item_cmp x y ≡ Equal → x ≡ y) where
  abbrev Each : List Item → Type 0
  Each xs = (x : Item) → Contains xs x → P x

  there_or_not : (xs : List Item) → Each xs → (x : Item) → P x → Contains xs x ⊎ (¬ (Contains xs x))
  there_or_not xs each x p =
      let key : Decided (Has xs (λ z. item_cmp z x ≡ Equal)) = decided_has (λ z. item_cmp z x ≡ Equal) (λ z. (is_eq (item_cmp z x), Equal-is (item_cmp z x))) xs in
      elim (cases_Bool key.0) [
        | inl e ↦ (let there = key.1.0 e in inl (subst (Contains xs) (one there.0 x (each there.0 there.1) p there.2) there.1))
        | inr e ↦ inr (λ there. not_from_Decides key.0 key.1 e (x, there, same_key x))
      ]

  more : (xs : List Item) → Each xs → (x : Item) → P x → Each (x ∷ xs)
  more xs each x p y h = elim (Contains-cases x xs y h) [ inl e ↦ subst P e p | inr later ↦ each y later ]

  abbrev All : Type 0
  All = (xs : List Item) × IsOnce xs × ((x : Item) → Contains xs x ↔ P x)

  module _ (most : ℕ) (few : (xs : List Item) → IsOnce xs → Each xs → length xs ≤ most) where
    grown : (room : ℕ) (xs : List Item) → IsOnce xs → Each xs → most ≤ length xs + room → (All → ⊥) → ⊥
    grown zero xs o each full none = none (
      xs,
      o,
      λ x. (
        each x,
        λ p. elim (there_or_not xs each x p) [
          | inl there ↦ there
          | inr out ↦ absurd (omega (arith, few (x ∷ xs) (out, o) (more xs each x p), full))
        ],
      ),
    )
    grown (suc room) xs o each full none = none (
      xs,
      o,
      λ x. (
        each x,
        λ p. elim (there_or_not xs each x p) [
          | inl there ↦ there
          | inr out ↦ absurd (grown room (x ∷ xs) (out, o) (more xs each x p) (omega (arith, full)) none)
        ],
      ),
    )

    -- they can be listed in order
    pub listed : (((xs : List Item) × IsInOrder xs × ((x : Item) → Contains xs x ↔ P x)) → ⊥) → ⊥
    listed none = grown most [] tt (λ x h. absurd (Contains-nil x h)) (omega arith) by
      where
        by : All → ⊥
        by (xs, o, are) =
            let list = sorted xs (λ x y hx hy e. one x y ((are x).0 hx) ((are y).0 hy) e) in
            none (list.0, list.1, λ x. (λ h. (are x).0 ((list.2 x).0 h), λ p. (list.2 x).1 ((are x).1 p)))
