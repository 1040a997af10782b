-- What rests on given numbers of a graph, directly or by way of others.
use Rattle.std.specs.Prelude.{◌≢◌, ◌↔◌, ◌+◌, ℕ, List, length}
use Rattle.std.specs.List.{AllPairs, Contains}
use Rattle.item_index.specs.Shelves.{list_at}

-- a number is reached from itself, and with each number all that rest on it
pub data IsReached (dependents : List (List ℕ)) (from : List ℕ) : ℕ → Type 0 where
  first : {n : ℕ} → Contains from n → IsReached dependents from n
  further : {m n : ℕ} → IsReached dependents from m → Contains (list_at dependents m) n → IsReached dependents from n

-- all that are reached, each once
pub record AreReached (dependents : List (List ℕ)) (from all : List ℕ) : Type 0 where
  pub exactly : (n : ℕ) → Contains all n ↔ IsReached dependents from n
  pub once : AllPairs (λ a b. a ≢ b) all

-- what it costs to look up all that rest on a number: each, and the end
abbrev pub look_ups : List (List ℕ) → ℕ → ℕ
look_ups dependents n = 1 + length (list_at dependents n)
