-- Parts out of which the touched rights that are no suspects are taken.
use Rattle.std.proofs.Common.{◌≡◌, ◌⊎◌, ◌↔◌, inl, inr, ℕ, ◌+◌, ◌≤◌, List, ◌++◌, length, sym, subst, arith}
use Rattle.std.specs.List.{Contains, sum_by}
use Rattle.std.proofs.lemmas.List.{length-append}
use Rattle.std.proofs.lemmas.List.Elements.{Contains-append_cases}
use Rattle.finite_chains.specs.Chains.{IsWithin}
use Rattle.item_index.specs.Graphs.{Graph}
use Rattle.cat_items.specs.declared.item.Item.{Item}
use Rattle.cat_items.specs.Batch.{IsJoined, IsWithout}
use Rattle.cat_items.specs.Catalogues.{IsInOrder}
use Rattle.edit_rules.specs.Chosen.{IsRightOrRoleGrant}
use Rattle.edit_rules.proofs.ItemKeys.{only_granted}
use Rattle.asked_parts.specs.Parts.{HasAsked}
use Rattle.asked_parts.specs.Rounds.{HasAskedAll, IsClosed}
use Rattle.asked_parts.specs.Under as under
use Rattle.asked_parts.specs.Under.{look_ups}
use Rattle.asked_parts.proofs.AskLaws.{asked_by_more}
use Rattle.asked_parts.proofs.GrowthLaws.{no_longer, no_more, once, once_append}
use Rattle.asked_parts.proofs.MoreLaws.{closed_for}
use Rattle.asked_parts.proofs.RoundLaws.{there_or_not}
use Rattle.edit_parts.specs.Parts.{AreBoth}

-- both lists, in whatever turn they were merged
pub both_merged : (items rights all : List Item) → IsJoined rights items all → AreBoth items rights all
both_merged items rights all is x = (
  λ h. elim ((is x).0 h) [ inl r ↦ inr r | inr i ↦ inl i ],
  λ h. (is x).1 (elim h [ inl i ↦ inr i | inr r ↦ inl r ]),
)

-- where all suspects are among those that it started with, these are both
pub none_more : (start suspects rights more : List Item) → ((x : Item) → Contains start x → Contains suspects x ⊎ Contains rights x) → IsWithin rights start → ((x : Item) → Contains suspects x → Contains start x ⊎ IsRightOrRoleGrant x)
    → IsWithout suspects start more → ((x : Item) → Contains more x → ⊥) → AreBoth suspects rights start
none_more start suspects rights more of_start right_in further rest none x = (
  of_start x,
  λ h. elim h [
    | inr r ↦ right_in x r
    | inl s ↦ (elim (further x s) [
      | inl there ↦ there
      | inr granted ↦ (elim (there_or_not start x granted) [ inl there ↦ there | inr out ↦ absurd (none x ((rest x).1 (s, out))) ])
    ])
  ],
)

-- of a part the touched rights that are no suspects are taken out
pub left_of : (suspects rights all gone lent part left : List Item) → lent ≡ gone → AreBoth suspects rights all → IsWithout rights suspects gone → IsWithout part lent left → (x : Item) → Contains left x ↔ (Contains part x × (¬ (Contains all x × (¬ (Contains suspects x)))))
left_of suspects rights all gone lent part left same both gone_are left_are x = (
  λ h. let p = (left_are x).0 h in (
    p.0,
    λ out. elim ((both x).0 out.0) [
      | inl s ↦ out.1 s
      | inr r ↦ p.1 (subst (λ l. Contains l x) (sym same) ((gone_are x).1 (r, out.1)))
    ],
  ),
  λ h. (left_are x).1 (h.0, λ there. let out = (gone_are x).0 (subst (λ l. Contains l x) same there) in h.1 ((both x).1 (inr out.0), out.1)),
)

-- what it started with, and was asked for, costs no more than what all ask for
pub start_cost : (g : Graph Item) (marks : List ℕ) (start part asked : List Item) → HasAskedAll g marks start part asked → IsInOrder start → (wide p keys : List Item) → IsWithin start wide → IsClosed g marks wide p → HasAsked p wide keys
    → length start + sum_by (look_ups g) asked ≤ length wide + sum_by (look_ups g) keys
start_cost g marks start part asked all order wide p keys in_wide closed has =
    let within : IsWithin asked keys = λ k h. let by = all.way.asked_for k h in has k (asked_by_more part p (all.least p (closed_for g marks start wide p in_wide closed)) wide k (by.0, in_wide by.0 by.1, by.2)) in
    omega (arith, no_more (look_ups g) asked keys (once asked all.way.asked_order) within, no_longer start wide (once start order) in_wide)

module _ (start suspects rights all more : List Item) (both : AreBoth suspects rights all) (of_start : (x : Item) → Contains start x → Contains suspects x ⊎ Contains rights x) (right_in : IsWithin rights start)
    (further : (x : Item) → Contains suspects x → Contains start x ⊎ IsRightOrRoleGrant x) where
  start_in : IsWithin start all
  start_in x h = (both x).1 (of_start x h)

  pub start_or_more : IsWithout suspects start more → (x : Item) → Contains all x ↔ (Contains start x ⊎ Contains more x)
  start_or_more rest x = (
    λ h. elim ((both x).0 h) [
      | inr r ↦ inl (right_in x r)
      | inl s ↦ (elim (further x s) [
        | inl there ↦ inl there
        | inr granted ↦ (elim (there_or_not start x granted) [ inl there ↦ inl there | inr out ↦ inr ((rest x).1 (s, out)) ])
      ])
    ],
    λ h. elim h [ inl there ↦ start_in x there | inr m ↦ (both x).1 (inl ((rest x).0 m).0) ],
  )

  pub all_in : (wide : List Item) → IsWithin start wide → IsWithin suspects wide → IsWithin all wide
  all_in wide has_start has_suspects x h = elim ((both x).0 h) [ inl s ↦ has_suspects x s | inr r ↦ has_start x (right_in x r) ]

  pub both_lengths : IsWithout suspects start more → IsInOrder start → IsInOrder more → (wide : List Item) → IsWithin start wide → IsWithin suspects wide → length start + length more ≤ length wide
  both_lengths rest start_order more_order wide has_start has_suspects =
      let apart = once_append start more (once start start_order) (once more more_order) (λ x h m. ((rest x).0 m).1 h) in
      let within : IsWithin (start ++ more) wide = λ x h. elim (Contains-append_cases start more x h) [ inl s ↦ has_start x s | inr m ↦ has_suspects x ((rest x).0 m).0 ] in
      omega (arith, no_longer (start ++ more) wide apart within, length-append start more)

-- items that are touched, or rights, are apart from each unmarked item
pub apart_of : (g : Graph Item) (marks : List ℕ) (start suspects rights all : List Item) → under.AreApart g marks start → ((x : Item) → Contains suspects x → Contains start x ⊎ IsRightOrRoleGrant x) → ((x : Item) → Contains rights x → IsRightOrRoleGrant x) → AreBoth suspects rights all → under.AreApart g marks all
apart_of g marks start suspects rights all apart further granted both x y h free e = elim ((both x).0 h) [
  | inr r ↦ only_granted x y (granted x r) e
  | inl s ↦ (elim (further x s) [ inl there ↦ apart x y there free e | inr is ↦ only_granted x y is e ])
]
