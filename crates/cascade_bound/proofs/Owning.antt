-- What an edit touches on a board can be listed, and which of it are no topics.
use Rattle.std.proofs.Common.{◌≡◌, ◌↔◌, inl, inr, ℕ, zero, suc, ◌+◌, ◌<◌, ◌≤◌, List, [], ◌∷◌, length, Some, None, sym, ◌∙◌, subst, arith}
use Rattle.std.specs.List.{Contains, sum_by}
use Rattle.std.proofs.lemmas.Bool.{cases_lt}
use Rattle.std.proofs.lemmas.Option.{slice_get_cases}
use Rattle.finite_chains.specs.Chains.{IsWithin}
use Rattle.finite_chains.proofs.Members.{Contains-nil, Contains-head, Contains-tail, Contains-cases}
use Rattle.item_index.specs.Graphs.{Graph, IsNode, IsWhole}
use Rattle.link_marks.specs.Reached.{IsReached, first, further, look_ups}
use Rattle.link_marks.proofs.Reaching.{dependents_are_nodes}
use Rattle.cat_items.specs.contracts.item.ItemPartialEq.TheImpl as same
use Rattle.cat_items.specs.declared.edit.Edit.{Edit}
use Rattle.cat_items.specs.declared.item.Item.{Item}
use Rattle.cat_items.specs.Bound.{IsBound}
use Rattle.cat_items.specs.Fit.{IsFit}
use Rattle.cat_items.specs.Good.{IsGood}
use Rattle.board_steps.specs.Plans.{HasNoHelper, IsFullBoard}
use Rattle.board_steps.proofs.Edited.{good_apart}
use Rattle.edit_suspects.specs.Seeds.{AreTouched, IsNumberOf, IsSeedKey, seed_look_ups}
use Rattle.look_up_bound.proofs.Counting.{IsOnce, once}
use Rattle.cascade_bound.specs.Marked.{AreKnown, AreTouchedOn, IsKnownAt, IsTopicAt}
use Rattle.cascade_bound.proofs.Groups.{IsSplit, split}
use Rattle.cascade_bound.proofs.Items.{once_pairs}
use Rattle.cascade_bound.proofs.Lists.{stable}
use Rattle.cascade_bound.proofs.Nodes.{known_or_topic, not_both, same_itself}
use Rattle.cascade_bound.proofs.Paid.{begins_within}

-- ---- numbers below some number, all that are so

abbrev AllOf : (ℕ → Type 0) → Type 0
AllOf P = (ns : List ℕ) × IsOnce ns × ((n : ℕ) → Contains ns n ↔ P n)

pub numbers : (most : ℕ) (P : ℕ → Type 0) → ((n : ℕ) → P n → n < most) → (AllOf P → ⊥) → ⊥
numbers zero P low none = none ([], tt, λ n. (λ h. absurd (Contains-nil n h), λ p. absurd (omega (arith, low n p))))
numbers (suc m) P low none = numbers m (λ n. P n × (n < m)) (λ n p. p.1) by
  where
    by : AllOf (λ n. P n × (n < m)) → ⊥
    by (ns, o, are) = none (ns, o, λ n. (λ h. ((are n).0 h).0, λ p. elim (cases_lt n m) [ inl below ↦ (are n).1 (p, below) | inr above ↦ absurd (last n p above) ]))
      where
        with_last : P m → ⊥
        with_last p = none (
          m ∷ ns,
          ((λ h. let below = ((are m).0 h).1 in omega (arith, below)), o),
          λ n. (
            (λ h. elim (Contains-cases m ns n h) [ inl e ↦ subst P e p | inr later ↦ ((are n).0 later).0 ]),
            (λ q. elim (cases_lt n m) [
              | inl below ↦ Contains-tail m ns n ((are n).1 (q, below))
              | inr above ↦ (let at : m ≡ n = omega (arith, above, low n q) in subst (Contains (m ∷ ns)) at (Contains-head m ns))
            ]),
          ),
        )

        last : (n : ℕ) → P n → m ≤ n → ⊥
        last n p above = let at : n ≡ m = omega (arith, above, low n p) in with_last (subst P at p)

node_low : (g : Graph Item) (n : ℕ) → IsNode g n → n < length g.keys
node_low g n node = elim (slice_get_cases g.keys n).1 [ inl there ↦ there.1 | inr past ↦ absurd (let odd : Some (Some node.0) ≡ None = sym node.1 ∙ past.1 in cc odd) ]

module _ (g : Graph Item) (edit : Edit) (whole : IsWhole same.ghosts.eq g) where
  abbrev IsSeed : ℕ → Type 0
  IsSeed n = IsNumberOf same.ghosts.eq g (IsSeedKey edit) n

  seed_node : (n : ℕ) → IsSeed n → IsNode g n
  seed_node n seed = (seed.2.0, seed.2.1)

  reached_node : (from : List ℕ) → ((n : ℕ) → Contains from n → IsSeed n) → (n : ℕ) → IsReached g.dependents from n → IsNode g n
  reached_node from seeds n (first there) = seed_node n (seeds n there)
  reached_node from seeds n (further {m} r there) = dependents_are_nodes same.ghosts.eq g m n whole there

  -- what the edit touches can be listed
  pub touched_listed : (((marks : List ℕ) × AreTouched same.ghosts.eq g edit marks) → ⊥) → ⊥
  touched_listed none = numbers (length g.keys) IsSeed (λ n seed. node_low g n (seed_node n seed)) (λ from. with_from from.0 from.2)
    where
      with_from : (from : List ℕ) → ((n : ℕ) → Contains from n ↔ IsSeed n) → ⊥
      with_from from are = numbers (length g.keys) (IsReached g.dependents from) (λ n r. node_low g n (reached_node from (λ k h. (are k).0 h) n r)) (λ marks.
          none (marks.0, record { from = from; seeds = are; reached = record { exactly = marks.2; once = once_pairs marks.0 marks.1 } }))

  module _ (c : List Item) (no_c : HasNoHelper c) (full : IsFullBoard g c) (marks : List ℕ) (touched : AreTouched same.ghosts.eq g edit marks) where
    nodes : (n : ℕ) → Contains marks n → IsNode g n
    nodes n h = reached_node touched.from (λ k there. (touched.seeds k).0 there) n ((touched.reached.exactly n).0 h)

    parts : (known topics : List ℕ) × IsSplit (IsKnownAt g c) (IsTopicAt g) marks known topics
    parts = split (IsKnownAt g c) (IsTopicAt g) marks (λ n h. known_or_topic same.ghosts.eq g c no_c whole same_itself full n (nodes n h))

    known : AreKnown g c marks parts.0
    known = record {
      exactly = λ n. (
        λ h. parts.2.left n h,
        λ h. elim (parts.2.within n h.0) [ inl is ↦ is | inr topic ↦ absurd (not_both same.ghosts.eq g c no_c whole same_itself full n h.1 (parts.2.right n topic).1) ],
      );
      once = once_pairs parts.0 (parts.2.once (once marks touched.reached.once)).0;
    }

    -- which of them are no topics can be told
    pub touched_on : IsWithin edit.target c → IsWithin edit.changed c → (own : List ℕ) × AreTouchedOn g c edit marks own
    touched_on target changed = (parts.0, record { whole = whole; full = full; no_helper = no_c; target = target; changed = changed; touched = touched; known = known })

  -- to reach what the edit touches is within the bound
  pub begun_within : (c edited : List Item) (bound : ℕ) → IsGood c → IsFullBoard g c → IsFit c edit edited → IsBound c edit edited bound
      → (spent : ℕ) → ((marks : List ℕ) → AreTouched same.ghosts.eq g edit marks → spent ≤ seed_look_ups edit + sum_by (look_ups g.dependents) marks) → spent ≤ bound
  begun_within c edited bound good full fit b spent takes = stable spent bound (λ over. touched_listed (λ all.
      let on = touched_on c (good_apart c good) full all.0 all.1 fit.target fit.changed in
      over (omega (arith, takes all.0 all.1, begins_within g c edited edit all.0 on.0 on.1 good fit bound b))))
