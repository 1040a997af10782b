-- The first member of a list that equals an earlier one.
use Rattle.std.proofs.Common.{◌≡◌, ◌≢◌, ◌⊎◌, ℕ, ◌+◌, ◌<◌, ◌≤◌, List, [], ◌∷◌, ◌++◌, length, get_or, take, drop, refl, sym, ◌∙◌, ap, subst, inl, inr, length-append, arith}
use Rattle.std.specs.List.{All, AllPairs, Contains}
use Rattle.std.proofs.lemmas.Bool.{cases_lt}
use Rattle.std.proofs.lemmas.List.{append_assoc, append-nil, drop_more, get_or_append_left, get_or_at, take_all, take_more, take-append-drop}
use Rattle.std.proofs.lemmas.List.Elements.{Contains-get_or}
use Rattle.std.proofs.lemmas.List.Quantifiers.{all_pairs_push}
use Rattle.finite_chains.proofs.Members.{All-from_contains}
use Rattle.cat_items.specs.declared.edit.Refusal.TheVariants.{Repeated}
use Rattle.edit_rules.specs.First.{Passes}
use Rattle.edit_rules.proofs.FirstLaws.{IsSettled}
use Rattle.statement_steps.specs.Repeated.{IsFirstAgain, repeated_name}

module _ {X : Type 0} where
  abbrev pub Differ : List X → Type 0
  Differ xs = AllPairs (λ a b. a ≢ b) xs

  -- ---- a search for it, place by place

  pub parted_at : (xs : List X) (i : ℕ) (x : X) → i < length xs → x ≡ get_or xs i x → xs ≡ take i xs ++ x ∷ drop (i + 1) xs
  parted_at xs i x within is = sym (take-append-drop i xs) ∙ ap (λ rest. take i xs ++ rest) (drop_more xs i x within ∙ ap (λ y. y ∷ drop (i + 1) xs) (sym is))

  pub differ_begin : (xs : List X) → Differ (take 0 xs)
  differ_begin xs i j d before within = omega (arith, within)

  -- where a member isn't among the ones before it, one more differ
  pub differ_more : (xs : List X) (i : ℕ) (x : X) → i < length xs → x ≡ get_or xs i x → Differ (take i xs) → (Contains (take i xs) x → ⊥) → Differ (take (i + 1) xs)
  differ_more xs i x within is differ new =
      subst Differ (sym (take_more xs i x within ∙ ap (λ y. take i xs ++ y ∷ []) (sym is)))
      (all_pairs_push (λ a b. a ≢ b) (take i xs) x differ (λ k d below same. new (subst (λ z. Contains (take i xs) z) same (Contains-get_or (take i xs) k d below))))

  pub differ_all : (xs : List X) (i : ℕ) → length xs ≤ i → Differ (take i xs) → Differ xs
  differ_all xs i all differ = subst Differ (take_all i xs all) differ

  -- ---- where none is, all differ, and the other way round

  pub none_again : (xs : List X) (x : X) → Differ xs → IsFirstAgain xs x → ⊥
  none_again xs x differ again =
      let whole : List X = again.before ++ x ∷ again.after in
      let apart : Differ whole = subst Differ again.parts differ in
      let k : ℕ = again.again.0 in
      let early : get_or whole k x ≡ x = get_or_append_left again.before (x ∷ again.after) x k again.again.1 ∙ again.again.2 in
      let late : get_or whole (length again.before) x ≡ x = get_or_at again.before x again.after x (length again.before) refl in
      apart k (length again.before) x again.again.1 (omega (arith, length-append again.before (x ∷ again.after))) (early ∙ sym late)

  differ_from : (xs before rest : List X) → ((x : X) → ¬ (IsFirstAgain xs x)) → xs ≡ before ++ rest → Differ before → Differ xs
  differ_from xs before [] none is differ = subst Differ (sym (is ∙ append-nil before)) differ
  differ_from xs before (x ∷ rest) none is differ =
      let others : All (λ other. other ≢ x) before =
      All-from_contains (λ other. other ≢ x) before (λ other h e. none x (record { before = before; after = rest; parts = is; differ = differ; again = subst (Contains before) e h })) in
      differ_from xs (before ++ x ∷ []) rest none (is ∙ sym (append_assoc before (x ∷ []) rest)) (all_pairs_push (λ a b. a ≢ b) before x differ others)

  no_pairs : Differ []
  no_pairs i j d below within = absurd (omega (arith, within))

  pub differ_without : (xs : List X) → ((x : X) → ¬ (IsFirstAgain xs x)) → Differ xs
  differ_without xs none = differ_from xs [] xs none refl no_pairs

  -- ---- there is one at most

  no_earlier : (xs : List X) (a b : X) (p : IsFirstAgain xs a) (q : IsFirstAgain xs b) → length p.before < length q.before → ⊥
  no_earlier xs a b p q less =
      let k : ℕ = p.again.0 in
      let place : ℕ = length p.before in
      let within : k < length q.before = omega (arith, p.again.1, less) in
      let early : get_or xs k a ≡ a = ap (λ (l : List X). get_or l k a) p.parts ∙ get_or_append_left p.before (a ∷ p.after) a k p.again.1 ∙ p.again.2 in
      let late : get_or xs place a ≡ a = ap (λ (l : List X). get_or l place a) p.parts ∙ get_or_at p.before a p.after a place refl in
      let in_front : (n : ℕ) → n < length q.before → get_or q.before n a ≡ get_or xs n a =
      λ n low. sym (ap (λ (l : List X). get_or l n a) q.parts ∙ get_or_append_left q.before (b ∷ q.after) a n low) in
      q.differ k place a p.again.1 less (in_front k within ∙ early ∙ sym (in_front place less ∙ late))

  one_again : (xs : List X) (a b : X) → IsFirstAgain xs a → IsFirstAgain xs b → a ≡ b
  one_again xs a b p q = by (cases_lt (length p.before) (length q.before)) (cases_lt (length q.before) (length p.before))
    where
      by : (length p.before < length q.before) ⊎ (length q.before ≤ length p.before) → (length q.before < length p.before) ⊎ (length p.before ≤ length q.before) → a ≡ b
      by (inl less) other = absurd (no_earlier xs a b p q less)
      by (inr low) (inl less) = absurd (no_earlier xs b a q p less)
      by (inr low) (inr high) =
          let same : length p.before ≡ length q.before = omega (arith, low, high) in
          sym (ap (λ (l : List X). get_or l (length p.before) a) p.parts ∙ get_or_at p.before a p.after a (length p.before) refl)
          ∙ ap (λ (l : List X). get_or l (length p.before) a) q.parts ∙ get_or_at q.before b q.after a (length p.before) (sym same)

-- one name is told
pub repeated_settled : (names : List (List ℕ)) → IsSettled (repeated_name names)
repeated_settled names a b p q = p.2 ∙ ap (λ n. Repeated (n ∷ [])) (one_again names p.0 q.0 p.1 q.1) ∙ sym q.2

-- where none is told names differ
pub differ_where_passed : (names : List (List ℕ)) → Passes (repeated_name names) → Differ names
differ_where_passed names passed = differ_without names (λ name again. passed (Repeated (name ∷ [])) (name, again, refl))
