-- Where keys are once numbers went out: at numbers that stay, or among the keys that come in.
use Rattle.std.specs.Prelude.{◌≡◌, ◌≢◌, ◌⊎◌, ◌++◌, ℕ, Bool, true, List, [], ◌∷◌, Some, slice_get}
use Rattle.std.specs.List.{AllPairs, AllZip, Contains}
use Rattle.item_index.specs.Graphs.{Graph, HasKey}
use Rattle.cat_items.specs.declared.item.Item.{Item}
use Rattle.graph_changes.specs.declared.ends.End.{End}
use Rattle.graph_changes.specs.declared.ends.End.TheVariants.{Stays, Comes}

-- an end of one of these links
abbrev pub IsEndAmong : List (Item × Item) → Item → Type 0
IsEndAmong wanted k = (l : Item × Item) × Contains wanted l × ((l.0 ≡ k) ⊎ (l.1 ≡ k))

module _ (eq : Item → Item → Bool) where
  -- a number that has the key, and stays
  abbrev pub IsStaying : Graph Item → List ℕ → Item → ℕ → Type 0
  IsStaying g out k n = (j : Item) × HasKey g n j × (eq k j ≡ true) × (Contains out n → ⊥)

  -- the place of the key
  abbrev pub IsPlaceOf : List Item → Item → ℕ → Type 0
  IsPlaceOf keys k place = (j : Item) × (slice_get keys place ≡ Some j) × (eq k j ≡ true)

  -- the key isn't among these, and each number that has it goes out
  pub record IsNewKey (g : Graph Item) (out : List ℕ) (keys : List Item) (k : Item) : Type 0 where
    pub absent : Contains keys k → ⊥
    pub gone : (n : ℕ) (j : Item) → HasKey g n j → eq k j ≡ true → Contains out n

  -- where the key is: among these, or else at a number that stays
  abbrev pub IsEnd : Graph Item → List ℕ → List Item → Item → End → Type 0
  IsEnd g out keys k (Stays n) = IsStaying g out k n × (Contains keys k → ⊥)
  IsEnd g out keys k (Comes place) = IsPlaceOf keys k place

  -- the key is there, among keys that it joined where it was nowhere
  pub record Ends (g : Graph Item) (out : List ℕ) (before after : List Item) (k : Item) (end : End) : Type 0 where
    pub at : IsEnd g out after k end
    pub keys : (after ≡ before) ⊎ ((after ≡ before ++ k ∷ []) × IsNewKey g out before k)

  -- each end of these links is there, among keys that those joined that were nowhere
  pub record AreEnds (g : Graph Item) (out : List ℕ) (before after : List Item) (wanted : List (Item × Item)) (ends : List (End × End)) : Type 0 where
    pub more : List Item
    pub behind : after ≡ before ++ more
    pub fresh : (k : Item) → Contains more k → IsEndAmong wanted k × IsNewKey g out before k
    pub once : AllPairs (λ j k. j ≢ k) before → AllPairs (λ j k. j ≢ k) after
    pub at : AllZip (λ l e. IsEnd g out after l.0 e.0 × IsEnd g out after l.1 e.1) wanted ends

  -- of these links the ends were pushed, and keys joined for them
  pub record ArePushed (g : Graph Item) (out : List ℕ) (before after : List Item) (wanted : List (Item × Item)) (old new : List (End × End)) : Type 0 where
    pub ends : List (End × End)
    pub pushed : new ≡ old ++ ends
    pub are : AreEnds g out before after wanted ends
