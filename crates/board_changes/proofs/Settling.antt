-- What can't fail to hold does hold, of a change that can be made; and room changes nothing of a plan.
use Rattle.std.proofs.Common.{◌≡◌, ℕ, ◌+◌, ◌-◌, ◌≤◌, Bool, true, false, List, [], ◌∷◌, get_or, Option, Some, None, slice_get, sym, ◌∙◌, ap, refl, inl, inr, arith}
use Rattle.std.proofs.lemmas.Bool.{cases_eq, cases_lt}
use Rattle.item_index.specs.Graphs.{Graph, IsNode, inserted, inserted_at, link_count, next_number, node_of, removed, with_spare}
use Rattle.item_index.specs.Undo.{HaveKeys, inserted_all, numbers_given, removed_all}
use Rattle.graph_steps.specs.Steps.{AreNewKeys}
use Rattle.graph_changes.specs.Changes.{CanChange}

no_number : (o : Option ℕ) → ¬ (¬ (o ≡ None)) → o ≡ None
no_number None sure = refl
no_number (Some n) sure = absurd (sure (λ e. never e))
  where
    never : Some n ≡ None → ⊥
    never e = cc

sure_true : (b : Bool) → ¬ (¬ (b ≡ true)) → b ≡ true
sure_true true sure = refl
sure_true false sure = absurd (sure (λ e. never e))
  where
    never : false ≡ true → ⊥
    never e = cc

pub sure_eq : (m n : ℕ) → ¬ (¬ (m ≡ n)) → m ≡ n
sure_eq m n sure = elim (cases_eq m n) [ inl same ↦ same | inr other ↦ absurd (sure other) ]

pub sure_le : (m n : ℕ) → ¬ (¬ (m ≤ n)) → m ≤ n
sure_le m n sure = elim (cases_lt n m) [ inl below ↦ absurd (sure (λ h. omega (arith, below, h))) | inr not ↦ omega (arith, not) ]

module _ {K : Type 0} where
  some_key : (g : Graph K) (n : ℕ) → ¬ (¬ (IsNode g n)) → IsNode g n
  some_key g n sure = go (slice_get g.keys n) refl
    where
      go : (o : Option (Option K)) → slice_get g.keys n ≡ o → IsNode g n
      go None e = absurd (sure (λ has. none (sym e ∙ has.1)))
        where
          none : {k : K} → None ≡ Some (Some k) → ⊥
          none e = cc
      go (Some None) e = absurd (sure (λ has. none (sym e ∙ has.1)))
        where
          none : {k : K} → Some None ≡ Some (Some k) → ⊥
          none e = cc
      go (Some (Some k)) e = (k, e)

  abbrev Had : Graph K → List ℕ → Type 0
  Had g out = (old : List K) × HaveKeys g out old

  had_now : (g : Graph K) (n : ℕ) (out : List ℕ) → Had g (n ∷ out) → IsNode g n
  had_now g n out ([], had) = absurd had
  had_now g n out (k ∷ old, had) = (k, had.0)

  had_later : (g : Graph K) (n : ℕ) (out : List ℕ) → Had g (n ∷ out) → Had (removed g n) out
  had_later g n out ([], had) = absurd had
  had_later g n out (k ∷ old, had) = (old, had.1)

  sure_had : (g : Graph K) (out : List ℕ) → ¬ (¬ (Had g out)) → Had g out
  sure_had g [] sure = ([], tt)
  sure_had g (n ∷ out) sure =
      let here = some_key g n (λ no. sure (λ had. no (had_now g n out had))) in
      let rest = sure_had (removed g n) out (λ no. sure (λ had. no (had_later g n out had))) in
      (here.0 ∷ rest.0, (here.1, rest.1))

  module _ (eq : K → K → Bool) where
    sure_new : (g : Graph K) (keys : List K) → ¬ (¬ (AreNewKeys eq g keys)) → AreNewKeys eq g keys
    sure_new g [] sure = tt
    sure_new g (k ∷ keys) sure = (no_number (node_of eq g k) (λ no. sure (λ new. no new.0)), sure_new (inserted g k) keys (λ no. sure (λ new. no new.1)))

    pub sure_change : (g : Graph K) (out : List ℕ) (keys : List K) (links : List (ℕ × ℕ)) → ¬ (¬ (CanChange eq g out keys links)) → CanChange eq g out keys links
    sure_change g out keys links sure = record {
      had = sure_had g out (λ no. sure (λ can. no can.had));
      new = sure_new (removed_all g out) keys (λ no. sure (λ can. no can.new));
      linked = λ i d below. (
        sure_true _ (λ no. sure (λ can. no (can.linked i d below).0)),
        some_key (inserted_all (removed_all g out) keys) (get_or links i d).0 (λ no. sure (λ can. no (can.linked i d below).1)),
        some_key (inserted_all (removed_all g out) keys) (get_or links i d).1 (λ no. sure (λ can. no (can.linked i d below).2)),
      );
      room = record {
        keys_fit = sure_le _ _ (λ no. sure (λ can. no can.room.keys_fit));
        links_fit = sure_le _ _ (λ no. sure (λ can. no can.room.links_fit));
      };
    }

  pub sure_node : (g : Graph K) (n : ℕ) → ¬ (¬ (IsNode g n)) → IsNode g n
  sure_node g n sure = some_key g n sure

  -- ---- room

  pub keys_left : (g : Graph K) (out : List ℕ) → g.spare_keys ≤ (removed_all g out).spare_keys
  keys_left g [] = omega arith
  keys_left g (n ∷ out) = let rest = keys_left (removed g n) out in omega arith

  pub links_left : (g : Graph K) (out : List ℕ) → g.spare_links ≤ (removed_all g out).spare_links
  links_left g [] = omega arith
  links_left g (n ∷ out) = let rest = links_left (removed g n) out in omega arith

  given_at : (g : Graph K) (keys links : ℕ) (k : K) (free : List ℕ) → inserted_at (with_spare g keys links) k free ≡ with_spare (inserted_at g k free) (keys - 1) links
  given_at g keys links k [] = refl
  given_at g keys links k (n ∷ free) = refl

  given_alike : (g : Graph K) (keys links : ℕ) (new : List K) → numbers_given (with_spare g keys links) new ≡ numbers_given g new
  given_alike g keys links [] = refl
  given_alike g keys links (k ∷ new) =
      ap (λ (h : Graph K). next_number g ∷ numbers_given h new) (given_at g keys links k g.free) ∙ ap (λ (ns : List ℕ). next_number g ∷ ns) (given_alike (inserted g k) (keys - 1) links new)

  -- the same numbers are given, whatever room there is
  pub same_given : (g : Graph K) (keys links : ℕ) (out : List ℕ) (new : List K) → numbers_given (removed_all (with_spare g keys links) out) new ≡ numbers_given (removed_all g out) new
  same_given g keys links [] new = given_alike g keys links new
  same_given g keys links (n ∷ out) new = same_given (removed g n) (keys + 1) (links + link_count g n) out new
