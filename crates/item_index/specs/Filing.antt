-- Numbers filed by the hashes of their keys.
use Rattle.std.specs.Prelude.{◌≡◌, ℕ, ◌%◌, Bool, false, cond, nat_eq, List, length, Option, Some, None, slice_get}
use Rattle.std.specs.List.{fold}
use Rattle.std.specs.Hash.{HashWrites}
use Rattle.std.specs.declared.hash.Hasher as hasher
use Rattle.std.specs.declared.hash.BuildHasher as builder
use Rattle.item_index.specs.Shelves.{list_at, times}

-- what `hash_one` returns
unfoldable pub hash_by : {S H : Type 0} → builder.Ghosts S H → hasher.Ghosts H → S → HashWrites → ℕ
hash_by b h s writes = h.finish (fold h.write (b.build_hasher s) writes)

module _ {K : Type 0} (hash : K → ℕ) where
  -- whether a key, where there is one, is filed in this list of so many
  abbrev pub goes_to : ℕ → ℕ → Option (Option K) → Bool
  goes_to count b None = false
  goes_to count b (Some None) = false
  goes_to count b (Some (Some k)) = nat_eq (hash k % count) b

  -- each number with a key stands once in the list of its key's hash, and nowhere else
  abbrev pub AreFiled : List (Option K) → List (List ℕ) → Type 0
  AreFiled keys lists = (b n : ℕ) → times n (list_at lists b) ≡ cond (goes_to (length lists) b (slice_get keys n)) 1 0
