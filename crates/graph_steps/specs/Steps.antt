-- What is left of the lists of a graph, which numbers have lists, and which keys are new.
use Rattle.std.specs.Prelude.{◌≡◌, ℕ, Bool, not, cond, nat_eq, List, [], ◌∷◌, length, None}
use Rattle.std.specs.List.{Contains, filter, list_any}
use Rattle.item_index.specs.Graphs.{Graph, IsNode, inserted, node_of}

-- of the numbers linked with n, those that stay where these go out: none where n goes out itself
abbrev pub left_of : List ℕ → ℕ → List ℕ → List ℕ
left_of out n numbers = cond (list_any (nat_eq n) out) [] (filter (λ m. not (list_any (nat_eq m) out)) numbers)

-- each number has the list of those that it rests on, and of those that rest on it
pub record HasLists {K : Type 0} (g : Graph K) : Type 0 where
  pub rests_len : length g.rests ≡ length g.keys
  pub dependents_len : length g.dependents ≡ length g.keys

-- each of these numbers has a key
abbrev pub AreNodes : {K : Type 0} → Graph K → List ℕ → Type 0
AreNodes g numbers = (n : ℕ) → Contains numbers n → IsNode g n

-- no number has the key as they are inserted in turn
abbrev pub AreNewKeys : {K : Type 0} → (K → K → Bool) → Graph K → List K → Type 0
AreNewKeys eq g [] = Unit {0}
AreNewKeys eq g (k ∷ keys) = (node_of eq g k ≡ None) × AreNewKeys eq (inserted g k) keys
