-- How long lists in order are, by what they have.
use Rattle.std.proofs.Common.{◌≡◌, ◌⊎◌, ◌↔◌, ◌+◌, ◌≤◌, List, [], ◌∷◌, length, sym, ◌∙◌, subst, refl, inl, inr, arith}
use Rattle.std.specs.List.{Contains}
use Rattle.std.specs.declared.cmp.Ordering.TheVariants.{Less}
use Rattle.finite_chains.specs.Chains.{IsWithin}
use Rattle.finite_chains.specs.StrictOrder.{IsRising}
use Rattle.finite_chains.proofs.Members.{Contains-nil, Contains-head, Contains-tail, Contains-cases}
use Rattle.cat_items.specs.declared.item.Item.{Item}
use Rattle.cat_items.specs.Batch.{IsJoined, IsWithout}
use Rattle.cat_items.specs.Catalogues.{IsInOrder}
use Rattle.cat_items.specs.Order.{item_cmp}
use Rattle.cat_items.proofs.CatalogueLemmas.{rising}
use Rattle.catalogue_changes.proofs.Keys.{in_part, not_both, not_before_itself}

abbrev Rises : List Item → Type 0
Rises xs = IsRising item_cmp xs

abbrev AreApart : List Item → List Item → Type 0
AreApart a b = (x : Item) → Contains a x → Contains b x → ⊥

-- an item of a list that comes before each other one is its head
head_is : (x : Item) (xs : List Item) (z : Item) → Rises (x ∷ xs) → Contains (x ∷ xs) z → ((y : Item) → Contains (x ∷ xs) y → (z ≡ y) ⊎ (item_cmp z y ≡ Less)) → x ≡ z
head_is x xs z rises here least =
    elim (Contains-cases x xs z here) [
      | inl e ↦ e
      | inr later ↦ elim (least x (Contains-head x xs)) [
        | inl e ↦ sym e
        | inr before ↦ absurd (not_both x z (rises.0 z later) before)
      ]
    ]

-- without the heads, which are one, the rest is joined of the rests
less_one : (x : Item) (xs b zs : List Item) (z : Item) → Rises (x ∷ xs) → Rises (z ∷ zs) → AreApart (x ∷ xs) b → x ≡ z → IsJoined (x ∷ xs) b (z ∷ zs) → IsJoined xs b zs
less_one x xs b zs z rises_a rises_n apart e is y = (
  λ h. elim ((is y).0 (Contains-tail z zs y h)) [
    | inl in_a ↦ elim (Contains-cases x xs y in_a) [
      | inl first ↦ absurd (not_before_itself z (subst (λ w. item_cmp z w ≡ Less) (sym first ∙ e) (rises_n.0 y h)))
      | inr later ↦ inl later
    ]
    | inr in_b ↦ inr in_b
  ],
  λ h. elim h [
    | inl in_a ↦ elim (Contains-cases z zs y ((is y).1 (inl (Contains-tail x xs y in_a)))) [
      | inl first ↦ absurd (not_before_itself x (subst (λ w. item_cmp x w ≡ Less) (sym first ∙ sym e) (rises_a.0 y in_a)))
      | inr later ↦ later
    ]
    | inr in_b ↦ elim (Contains-cases z zs y ((is y).1 (inr in_b))) [
      | inl first ↦ absurd (apart x (Contains-head x xs) (subst (Contains b) (sym first ∙ sym e) in_b))
      | inr later ↦ later
    ]
  ],
)

turned_join : (a b n : List Item) → IsJoined a b n → IsJoined b a n
turned_join a b n is x = (
  λ h. elim ((is x).0 h) [ inl p ↦ inr p | inr p ↦ inl p ],
  λ h. elim h [ inl p ↦ (is x).1 (inr p) | inr p ↦ (is x).1 (inl p) ],
)

nothing : (a b : List Item) → IsJoined a b [] → length a ≡ 0
nothing [] b is = refl
nothing (x ∷ xs) b is = absurd (Contains-nil x ((is x).1 (inl (Contains-head x xs))))

-- two lists with no item in common are as long together as the list of both
pub joined_length : (a b n : List Item) → Rises a → Rises b → Rises n → AreApart a b → IsJoined a b n → length n ≡ length a + length b
joined_length a b [] ra rb rn apart is = omega (arith, nothing a b is, nothing b a (turned_join a b [] is))
joined_length a b (z ∷ zs) ra rb rn apart is =
    elim ((is z).0 (Contains-head z zs)) [
      | inl in_a ↦ from_first a b ra rb apart is in_a (λ xs rx ap' js. joined_length xs b zs rx rb rn.1 ap' js)
      | inr in_b ↦ omega (arith, from_first b a rb ra (λ x p q. apart x q p) (turned_join a b (z ∷ zs) is) in_b (λ xs rx ap' js. joined_length xs a zs rx ra rn.1 ap' js))
    ]
  where
    least : (a b : List Item) → IsJoined a b (z ∷ zs) → (y : Item) → Contains a y → (z ≡ y) ⊎ (item_cmp z y ≡ Less)
    least a b is y h = elim (Contains-cases z zs y ((is y).1 (inl h))) [ inl e ↦ inl e | inr later ↦ inr (rn.0 y later) ]

    from_first : (a b : List Item) → Rises a → Rises b → AreApart a b → IsJoined a b (z ∷ zs) → Contains a z
        → ((xs : List Item) → Rises xs → AreApart xs b → IsJoined xs b zs → length zs ≡ length xs + length b) → length (z ∷ zs) ≡ length a + length b
    from_first [] b ra rb apart is here more = absurd (Contains-nil z here)
    from_first (x ∷ xs) b ra rb apart is here more =
        let e : x ≡ z = head_is x xs z ra here (least (x ∷ xs) b is) in
        omega (arith, more xs ra.1 (λ y p q. apart y (Contains-tail x xs y p) q) (less_one x xs b zs z ra rn apart e is))

-- those items of a list that are so, where this can be told
pub chosen : (P : Item → Type 0) (xs : List Item) → ((x : Item) → Contains xs x → P x ⊎ (¬ (P x))) → Rises xs → (some : List Item) × Rises some × ((x : Item) → Contains some x ↔ (Contains xs x × P x))
chosen P [] tells rises = ([], tt, λ x. (λ h. absurd (Contains-nil x h), λ h. absurd (Contains-nil x h.0)))
chosen P (z ∷ zs) tells rises =
    let rest = chosen P zs (λ x h. tells x (Contains-tail z zs x h)) rises.1 in
    elim (tells z (Contains-head z zs)) [
      | inl so ↦ (
        z ∷ rest.0,
        (λ y h. rises.0 y ((rest.2 y).0 h).0, rest.1),
        λ x. (
          λ h. elim (Contains-cases z rest.0 x h) [
            | inl e ↦ (subst (Contains (z ∷ zs)) e (Contains-head z zs), subst P e so)
            | inr later ↦ let both = (rest.2 x).0 later in (Contains-tail z zs x both.0, both.1)
          ],
          λ h. elim (Contains-cases z zs x h.0) [
            | inl e ↦ subst (Contains (z ∷ rest.0)) e (Contains-head z rest.0)
            | inr later ↦ Contains-tail z rest.0 x ((rest.2 x).1 (later, h.1))
          ],
        ),
      )
      | inr other ↦ (
        rest.0,
        rest.1,
        λ x. (
          λ h. let both = (rest.2 x).0 h in (Contains-tail z zs x both.0, both.1),
          λ h. elim (Contains-cases z zs x h.0) [
            | inl e ↦ absurd (other (subst P (sym e) h.1))
            | inr later ↦ (rest.2 x).1 (later, h.1)
          ],
        ),
      )
    ]

-- what stays of a list of which a part goes out, and how long it is
stays_of : (c out : List Item) → IsInOrder c → IsInOrder out → IsWithin out c → (kept : List Item) × Rises kept × IsWithout c out kept × (length c ≡ length kept + length out)
stays_of c out order out_order within =
    let tells : (x : Item) → Contains c x → (¬ (Contains out x)) ⊎ (¬ (¬ (Contains out x))) = λ x h. elim (in_part out c within order x h) [ inl gone ↦ inr (λ no. no gone) | inr stays ↦ inl stays ] in
    let kept = chosen (λ x. ¬ (Contains out x)) c tells (rising c order) in (
      kept.0,
      kept.1,
      kept.2,
      joined_length kept.0 out c kept.1 (rising out out_order) (rising c order) (λ x p q. ((kept.2 x).0 p).1 q) (λ x. (
        λ h. elim (in_part out c within order x h) [ inl gone ↦ inr gone | inr stays ↦ inl ((kept.2 x).1 (h, stays)) ],
        λ h. elim h [ inl p ↦ ((kept.2 x).0 p).0 | inr gone ↦ within x gone ],
      )),
    )

-- a part of a list is no longer
pub no_longer : (c out : List Item) → IsInOrder c → IsInOrder out → IsWithin out c → length out ≤ length c
no_longer c out order out_order within = omega (arith, (stays_of c out order out_order within).3)

-- what goes out of a list, what comes into it, and what it is then
pub record IsExchange (c out more new : List Item) : Type 0 where
  pub order : IsInOrder c
  pub out_order : IsInOrder out
  pub more_order : IsInOrder more
  pub new_order : IsInOrder new
  pub within : IsWithin out c
  pub members : (x : Item) → Contains new x ↔ ((Contains c x × (¬ (Contains out x))) ⊎ Contains more x)
  pub apart : (x : Item) → Contains c x → ¬ (Contains out x) → Contains more x → ⊥

-- the new list is longer by what comes and shorter by what goes
pub exchanged_length : (c out more new : List Item) → IsExchange c out more new → length new + length out ≡ length c + length more
exchanged_length c out more new is =
    let kept = stays_of c out is.order is.out_order is.within in
    let after : length new ≡ length kept.0 + length more =
    joined_length kept.0 more new kept.1 (rising more is.more_order) (rising new is.new_order) (λ x p q. let stays = (kept.2 x).0 p in is.apart x stays.0 stays.1 q) (λ x. (
      λ h. elim ((is.members x).0 h) [ inl stays ↦ inl ((kept.2 x).1 stays) | inr comes ↦ inr comes ],
      λ h. elim h [ inl p ↦ (is.members x).1 (inl ((kept.2 x).0 p)) | inr comes ↦ (is.members x).1 (inr comes) ],
    )) in
    omega (arith, kept.3, after)
