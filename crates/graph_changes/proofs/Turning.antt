-- One step of many: what is left to be done leads to the same graph.
use Rattle.std.proofs.Common.{◌≡◌, ℕ, ◌+◌, ◌-◌, ◌<◌, Bool, List, [], ◌∷◌, length, drop, get_or, None, sym, ◌∙◌, ap, refl, subst, arith, add-one, drop-cons}
use Rattle.std.specs.List.{All}
use Rattle.std.proofs.lemmas.List.Elements.{All-head, All-tail, All-weaker}
use Rattle.item_index.specs.Graphs.{Graph, IsNode, inserted, inserted_at, linked, node_of, removed}
use Rattle.item_index.specs.Undo.{AreNewLinks, HaveKeys, inserted_all, linked_all, numbers_given, removed_all, touches}
use Rattle.std.proofs.Common.{true}
use Rattle.graph_steps.specs.Steps.{AreNewKeys}

-- what is left of a list at a place
pub opened : {X : Type 0} (xs : List X) (i : ℕ) (d : X) → i < length xs → drop i xs ≡ get_or xs i d ∷ drop (i + 1) xs
opened xs i d h = rw add-one (drop-cons xs i d h)

module _ {K : Type 0} where
  -- ---- removed

  pub removed_next : (g next : Graph K) (xs rest : List ℕ) (n : ℕ) → xs ≡ n ∷ rest → next ≡ removed g n → removed_all next rest ≡ removed_all g xs
  removed_next g next xs rest n e is = ap (λ (h : Graph K). removed_all h rest) is ∙ sym (ap (removed_all g) e)

  pub had_first : (g : Graph K) (xs rest : List ℕ) (n : ℕ) → xs ≡ n ∷ rest → (old : List K) × HaveKeys g xs old → IsNode g n
  had_first g xs rest n e had = go had.0 (subst (λ (ns : List ℕ). HaveKeys g ns had.0) e had.1)
    where
      go : (old : List K) → HaveKeys g (n ∷ rest) old → IsNode g n
      go [] none = absurd none
      go (k ∷ old) both = (k, both.0)

  pub had_rest : (g next : Graph K) (xs rest : List ℕ) (n : ℕ) → xs ≡ n ∷ rest → next ≡ removed g n → (old : List K) × HaveKeys g xs old → (old : List K) × HaveKeys next rest old
  had_rest g next xs rest n e is had = go had.0 (subst (λ (ns : List ℕ). HaveKeys g ns had.0) e had.1)
    where
      go : (old : List K) → HaveKeys g (n ∷ rest) old → (old : List K) × HaveKeys next rest old
      go [] none = absurd none
      go (k ∷ old) both = (old, subst (λ (h : Graph K). HaveKeys h rest old) (sym is) both.1)

  -- ---- inserted

  pub inserted_next : (g next : Graph K) (xs rest : List K) (k : K) → xs ≡ k ∷ rest → next ≡ inserted g k → inserted_all next rest ≡ inserted_all g xs
  inserted_next g next xs rest k e is = ap (λ (h : Graph K). inserted_all h rest) is ∙ sym (ap (inserted_all g) e)

  pub new_first : (eq : K → K → Bool) (g : Graph K) (xs rest : List K) (k : K) → xs ≡ k ∷ rest → AreNewKeys eq g xs → node_of eq g k ≡ None
  new_first eq g xs rest k e new = let both = subst (AreNewKeys eq g) e new in both.0

  pub new_rest : (eq : K → K → Bool) (g next : Graph K) (xs rest : List K) (k : K) → xs ≡ k ∷ rest → next ≡ inserted g k → AreNewKeys eq g xs → AreNewKeys eq next rest
  new_rest eq g next xs rest k e is new = let both = subst (AreNewKeys eq g) e new in subst (λ (h : Graph K). AreNewKeys eq h rest) (sym is) both.1

  pub room-inserted_at : (g : Graph K) (k : K) (free : List ℕ) → ((inserted_at g k free).spare_keys ≡ g.spare_keys - 1) × ((inserted_at g k free).spare_links ≡ g.spare_links)
  room-inserted_at g k [] = (refl, refl)
  room-inserted_at g k (n ∷ free) = (refl, refl)

  pub one_less : (g next : Graph K) (k : K) → next ≡ inserted g k → next.spare_keys ≡ g.spare_keys - 1
  one_less g next k is = ap (λ (h : Graph K). h.spare_keys) is ∙ (room-inserted_at g k g.free).0

  pub links_room : (g : Graph K) (keys : List K) → (inserted_all g keys).spare_links ≡ g.spare_links
  links_room g [] = refl
  links_room g (k ∷ keys) = links_room (inserted g k) keys ∙ (room-inserted_at g k g.free).1

  -- ---- linked

  abbrev pub HasEnds : Graph K → ℕ × ℕ → Type 0
  HasEnds g l = IsNode g l.0 × IsNode g l.1

  pub linked_next : (g next : Graph K) (xs rest : List (ℕ × ℕ)) (l : ℕ × ℕ) → xs ≡ l ∷ rest → next ≡ linked g l.0 l.1 → linked_all next rest ≡ linked_all g xs
  linked_next g next xs rest l e is = ap (λ (h : Graph K). linked_all h rest) is ∙ sym (ap (linked_all g) e)

  pub ends_first : (g : Graph K) (xs rest : List (ℕ × ℕ)) (l : ℕ × ℕ) → xs ≡ l ∷ rest → All (HasEnds g) xs → HasEnds g l
  ends_first g xs rest l e ends = All-head (HasEnds g) l rest (subst (All (HasEnds g)) e ends)

  pub ends_rest : (g next : Graph K) (xs rest : List (ℕ × ℕ)) (l : ℕ × ℕ) → xs ≡ l ∷ rest → next ≡ linked g l.0 l.1 → All (HasEnds g) xs → All (HasEnds next) rest
  ends_rest g next xs rest l e is ends = subst (λ (h : Graph K). All (HasEnds h) rest) (sym is) (All-tail (HasEnds g) l rest (subst (All (HasEnds g)) e ends))

  pub new_ends : (g : Graph K) (out : List ℕ) (keys : List K) (links : List (ℕ × ℕ)) → AreNewLinks g out keys links → All (HasEnds (inserted_all (removed_all g out) keys)) links
  new_ends g out keys links new =
      let after = inserted_all (removed_all g out) keys in
      All-weaker (λ l. (touches (numbers_given (removed_all g out) keys) l ≡ true) × IsNode after l.0 × IsNode after l.1) (HasEnds after) (λ l h. (h.1, h.2)) links new

pub empty : {X : Type 0} (xs : List X) → length xs ≡ 0 → xs ≡ []
empty [] e = refl
empty (x ∷ xs) e = absurd (omega arith)
