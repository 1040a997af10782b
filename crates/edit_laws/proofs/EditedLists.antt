-- The edited list of an edit stands.
use Rattle.std.proofs.Common.{◌≡◌, ◌⊎◌, ◌↔◌, inl, inr, Bool, not, ◌||◌, Ordering, List, [], ◌∷◌, sym, subst, ap, ◌∙◌, refl}
use Rattle.std.specs.Prelude.{Decides}
use Rattle.std.specs.List.{Contains, filter}
use Rattle.std.specs.Ordering.{is_eq, ordering_reverse}
use Rattle.std.specs.Cmp.{Equal-is}
use Rattle.std.specs.declared.cmp.Ordering.TheVariants.{Less, Equal, Greater}
use Rattle.std.proofs.lemmas.Bool.{both_ways, not-true, not_from_false, false_from_ne_true}
use Rattle.std.proofs.lemmas.Bool.Decides.{Decides-or}
use Rattle.finite_chains.specs.Chains.{IsWithin}
use Rattle.finite_chains.specs.StrictOrder.{IsRising}
use Rattle.finite_chains.proofs.Members.{Contains-nil, Contains-head, Contains-tail, Contains-cases, Contains-filter, filter_passes_one}
use Rattle.finite_chains.proofs.StrictOrders.{IsRising-filter}
use Rattle.cat_items.specs.declared.edit.Edit.{Edit}
use Rattle.cat_items.specs.declared.item.Item.{Item}
use Rattle.cat_items.specs.Order.{item_cmp}
use Rattle.cat_items.specs.Reach.{Has}
use Rattle.cat_items.specs.Catalogues.{IsInOrder}
use Rattle.cat_items.specs.Edits.{IsEdited}
use Rattle.cat_items.proofs.CatalogueLemmas.{rising, in_order}
use Rattle.cat_items.proofs.KeyLemmas.{same_key}
use Rattle.cat_items.proofs.OrderLemmas.{item_cmp-total}
use Rattle.support_laws.proofs.Decisions.{Decided, decided_has}
use Rattle.edit_laws.specs.Kinds.{IsKept, HaveOwnKeys}

-- items with one key are one, in a rising list
one_rising : (xs : List Item) → IsRising item_cmp xs → (x y : Item) → Contains xs x → Contains xs y → item_cmp x y ≡ Equal → x ≡ y
one_rising [] r x y p q e = absurd (Contains-nil x p)
one_rising (z ∷ xs) r x y p q e = by (Contains-cases z xs x p) (Contains-cases z xs y q) (λ h k. one_rising xs r.1 x y h k e)
  where
    by : (z ≡ x) ⊎ Contains xs x → (z ≡ y) ⊎ Contains xs y → (Contains xs x → Contains xs y → x ≡ y) → x ≡ y
    by (inl f) (inl g) more = sym f ∙ g
    by (inl f) (inr h) more = let less : item_cmp x y ≡ Less = subst (λ w. item_cmp w y ≡ Less) f (r.0 y h) in cc
    by (inr h) (inl g) more = let less : item_cmp y x ≡ Less = subst (λ w. item_cmp w x ≡ Less) g (r.0 x h) in let back = item_cmp-total.antisymm x y in cc
    by (inr h) (inr k) more = more h k

-- items with one key are one, in a list in order
pub one_by_key : (items : List Item) → IsInOrder items → (x y : Item) → Contains items x → Contains items y → item_cmp x y ≡ Equal → x ≡ y
one_by_key items order x y p q e = one_rising items (rising items order) x y p q e

-- ---- one item more

-- a rising list with one item more
abbrev WithOne : List Item → Item → Type 0
WithOne xs x = (new : List Item) × IsRising item_cmp new × ((z : Item) → Contains new z ↔ (Contains xs z ⊎ (z ≡ x)))

put_in : (xs : List Item) (x : Item) → IsRising item_cmp xs → ((y : Item) → Contains xs y → item_cmp x y ≡ Equal → x ≡ y) → WithOne xs x
put_in [] x r own = (x ∷ [], (λ y h. absurd (Contains-nil y h), tt), λ z. (to z, from z))
  where
    to : (z : Item) → Contains (x ∷ []) z → Contains [] z ⊎ (z ≡ x)
    to z h = elim (Contains-cases x [] z h) [ inl e ↦ inr (sym e) | inr none ↦ inl none ]

    from : (z : Item) → Contains [] z ⊎ (z ≡ x) → Contains (x ∷ []) z
    from z (inl none) = absurd (Contains-nil z none)
    from z (inr e) = subst (Contains (x ∷ [])) (sym e) (Contains-head x [])
put_in (y ∷ ys) x r own = by (item_cmp x y) refl (put_in ys x r.1 (λ z h e. own z (Contains-tail y ys z h) e))
  where
    to : (z : Item) → Contains (x ∷ y ∷ ys) z → Contains (y ∷ ys) z ⊎ (z ≡ x)
    to z h = elim (Contains-cases x (y ∷ ys) z h) [ inl e ↦ inr (sym e) | inr later ↦ inl later ]

    from : (z : Item) → Contains (y ∷ ys) z ⊎ (z ≡ x) → Contains (x ∷ y ∷ ys) z
    from z (inl later) = Contains-tail x (y ∷ ys) z later
    from z (inr e) = subst (Contains (x ∷ y ∷ ys)) (sym e) (Contains-head x (y ∷ ys))

    before : item_cmp x y ≡ Less → (z : Item) → Contains (y ∷ ys) z → item_cmp x z ≡ Less
    before less z h =
        elim (Contains-cases y ys z h) [
          | inl e ↦ subst (λ w. item_cmp x w ≡ Less) e less
          | inr later ↦ item_cmp-total.trans x y z less (r.0 z later)
        ]

    there : item_cmp x y ≡ Equal → (z : Item) → Contains (y ∷ ys) z ⊎ (z ≡ x) → Contains (y ∷ ys) z
    there same z (inl h) = h
    there same z (inr e) = subst (Contains (y ∷ ys)) (sym (e ∙ own y (Contains-head y ys) same)) (Contains-head y ys)

    behind : item_cmp x y ≡ Greater → (z : Item) → Contains ys z ⊎ (z ≡ x) → item_cmp y z ≡ Less
    behind more z (inl h) = r.0 z h
    behind more z (inr e) = subst (λ w. item_cmp y w ≡ Less) (sym e) (item_cmp-total.antisymm y x ∙ ap ordering_reverse more)

    into : (rest : WithOne ys x) (z : Item) → Contains (y ∷ rest.0) z → Contains (y ∷ ys) z ⊎ (z ≡ x)
    into rest z h =
        elim (Contains-cases y rest.0 z h) [
          | inl e ↦ inl (subst (Contains (y ∷ ys)) e (Contains-head y ys))
          | inr later ↦ elim ((rest.2 z).0 later) [ inl old ↦ inl (Contains-tail y ys z old) | inr e ↦ inr e ]
        ]

    out_of : (rest : WithOne ys x) (z : Item) → Contains (y ∷ ys) z ⊎ (z ≡ x) → Contains (y ∷ rest.0) z
    out_of rest z (inl h) =
        elim (Contains-cases y ys z h) [
          | inl e ↦ subst (Contains (y ∷ rest.0)) e (Contains-head y rest.0)
          | inr later ↦ Contains-tail y rest.0 z ((rest.2 z).1 (inl later))
        ]
    out_of rest z (inr e) = Contains-tail y rest.0 z ((rest.2 z).1 (inr e))

    by : (o : Ordering) → item_cmp x y ≡ o → WithOne ys x → WithOne (y ∷ ys) x
    by Less e rest = (x ∷ y ∷ ys, (before e, r), λ z. (to z, from z))
    by Equal e rest = (y ∷ ys, r, λ z. (inl, there e z))
    by Greater e rest = (y ∷ rest.0, (λ z h. behind e z ((rest.2 z).0 h), rest.1), λ z. (into rest z, out_of rest z))

-- ---- more items

put_all : (added xs : List Item) → IsRising item_cmp xs → ((x y : Item) → Contains added x → Contains added y ⊎ Contains xs y → item_cmp x y ≡ Equal → x ≡ y) → (new : List Item) × IsRising item_cmp new × ((z : Item) → Contains new z ↔ (Contains xs z ⊎ Contains added z))
put_all [] xs r own = (xs, r, λ z. (inl, from z))
  where
    from : (z : Item) → Contains xs z ⊎ Contains [] z → Contains xs z
    from z (inl h) = h
    from z (inr none) = absurd (Contains-nil z none)
put_all (a ∷ added) xs r own =
    let rest = put_all added first.0 first.1 own_rest in
    (rest.0, rest.1, λ z. (λ h. to z ((rest.2 z).0 h), λ h. (rest.2 z).1 (from z h)))
  where
    first : WithOne xs a
    first = put_in xs a r (λ y h e. own a y (Contains-head a added) (inr h) e)

    own_more : (x y : Item) → Contains added x → Contains xs y ⊎ (y ≡ a) → item_cmp x y ≡ Equal → x ≡ y
    own_more x y h (inl old) e = own x y (Contains-tail a added x h) (inr old) e
    own_more x y h (inr is) e = own x y (Contains-tail a added x h) (inl (subst (Contains (a ∷ added)) (sym is) (Contains-head a added))) e

    own_rest : (x y : Item) → Contains added x → Contains added y ⊎ Contains first.0 y → item_cmp x y ≡ Equal → x ≡ y
    own_rest x y h (inl more) e = own x y (Contains-tail a added x h) (inl (Contains-tail a added y more)) e
    own_rest x y h (inr here) e = own_more x y h ((first.2 y).0 here) e

    to : (z : Item) → Contains first.0 z ⊎ Contains added z → Contains xs z ⊎ Contains (a ∷ added) z
    to z (inl here) = elim ((first.2 z).0 here) [ inl old ↦ inl old | inr e ↦ inr (subst (Contains (a ∷ added)) (sym e) (Contains-head a added)) ]
    to z (inr more) = inr (Contains-tail a added z more)

    from : (z : Item) → Contains xs z ⊎ Contains (a ∷ added) z → Contains first.0 z ⊎ Contains added z
    from z (inl old) = inl ((first.2 z).1 (inl old))
    from z (inr h) = elim (Contains-cases a added z h) [ inl e ↦ inl ((first.2 z).1 (inr (sym e))) | inr more ↦ inr more ]

-- ---- the edited list

module _ (c : List Item) (edit : Edit) (order : IsInOrder c) (added_order : IsInOrder edit.added) (target : IsWithin edit.target c) (changed : IsWithin edit.changed c) (own : HaveOwnKeys c edit) where
  -- the list has an item of this key
  abbrev has_key : List Item → Item → Type 0
  has_key part x = Has part (λ y. item_cmp y x ≡ Equal)

  abbrev key_in : (part : List Item) (x : Item) → Decided (has_key part x)
  key_in part x = decided_has (λ y. item_cmp y x ≡ Equal) (λ y. (is_eq (item_cmp y x), Equal-is (item_cmp y x))) part

  abbrev taken : Item → Bool
  taken x = (key_in edit.target x).0 || (key_in edit.changed x).0

  taken_is : (x : Item) → Decides (taken x) (has_key edit.target x ⊎ has_key edit.changed x)
  taken_is x = Decides-or (key_in edit.target x).0 (key_in edit.changed x).0 (key_in edit.target x).1 (key_in edit.changed x).1

  abbrev kept : List Item
  kept = filter (λ x. not (taken x)) c

  part_has : (part : List Item) → IsWithin part c → (x : Item) → Contains c x → has_key part x → Contains part x
  part_has part within x here h = subst (Contains part) (one_by_key c order h.0 x (within h.0 h.1) here h.2) h.1

  kept_from : (x : Item) → Contains kept x → IsKept c edit x
  kept_from x h =
      let p = filter_passes_one (λ y. not (taken y)) c x h in
      let clear = not-true (taken x) p.1 in (
        p.0,
        λ t. both_ways (taken x) clear ((taken_is x).1 (inl (x, t, same_key x))),
        λ t. both_ways (taken x) clear ((taken_is x).1 (inr (x, t, same_key x))),
      )

  not_both : (x : Item) → IsKept c edit x → has_key edit.target x ⊎ has_key edit.changed x → ⊥
  not_both x k (inl h) = k.1 (part_has edit.target target x k.0 h)
  not_both x k (inr h) = k.2 (part_has edit.changed changed x k.0 h)

  to_kept : (x : Item) → IsKept c edit x → Contains kept x
  to_kept x k = Contains-filter (λ y. not (taken y)) c x k.0 (not_from_false (taken x) (false_from_ne_true (taken x) (λ was. not_both x k ((taken_is x).0 was))))

  own_key : (x y : Item) → Contains edit.added x → Contains edit.added y ⊎ Contains kept y → item_cmp x y ≡ Equal → x ≡ y
  own_key x y h (inl k) e = one_by_key edit.added added_order x y h k e
  own_key x y h (inr k) e = own x y h (kept_from y k) e

  -- an edit has an edited list where its target and changed items are of the catalogue, and its added ones have keys of their own
  pub edited_list : (edited : List Item) × IsEdited c edit edited
  edited_list =
      let all = put_all edit.added kept (IsRising-filter item_cmp (λ x. not (taken x)) c (rising c order)) own_key in (
        all.0,
        record {
          order = in_order all.0 all.1;
          members = λ x. (λ h. first x ((all.2 x).0 h), λ h. (all.2 x).1 (second x h));
        },
      )
    where
      first : (x : Item) → Contains kept x ⊎ Contains edit.added x → IsKept c edit x ⊎ Contains edit.added x
      first x (inl h) = inl (kept_from x h)
      first x (inr h) = inr h

      second : (x : Item) → IsKept c edit x ⊎ Contains edit.added x → Contains kept x ⊎ Contains edit.added x
      second x (inl k) = inl (to_kept x k)
      second x (inr h) = inr h
