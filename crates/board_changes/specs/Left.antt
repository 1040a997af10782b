-- Graphs that are as others were left.
use Rattle.std.specs.Prelude.{◌≡◌, ◌≤◌, ℕ}
use Rattle.item_index.specs.Graphs.{Graph}
use Rattle.item_index.specs.Shelves.{list_at, times}
use Rattle.item_index.specs.Undo.{key_at, number_at}

-- Each number has the key that it had, each later key gets the number that it would have got, each number rests on each other, and is rested on
-- by it, as often as it was, in whatever order, and there is no less room.
pub record IsAsLeft {K : Type 0} (left now : Graph K) : Type 0 where
  pub keys : (n : ℕ) → key_at now n ≡ key_at left n
  pub numbers : (i : ℕ) → number_at now i ≡ number_at left i
  pub rests : (n m : ℕ) → times m (list_at now.rests n) ≡ times m (list_at left.rests n)
  pub dependents : (n m : ℕ) → times m (list_at now.dependents n) ≡ times m (list_at left.dependents n)
  pub spare_keys : left.spare_keys ≤ now.spare_keys
  pub spare_links : left.spare_links ≤ now.spare_links
