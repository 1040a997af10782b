-- Removes, inserts and links, and how they are undone.
use Rattle.std.specs.Prelude.{◌≡◌, ℕ, ◌+◌, ◌≤◌, zero, suc, Bool, ◌||◌, nat_eq, List, [], ◌∷◌, length, reverse, Option, Some, None, All, slice_get, true}
use Rattle.std.specs.List.{list_any}
use Rattle.std.specs.List.Sorted.{IsPermutation}
use Rattle.item_index.specs.Graphs.{AreLinks, Graph, HasKey, IsNode, inserted, linked, next_number, removed}

-- what a number has, where it may be no number at all
abbrev pub flat : {K : Type 0} → Option (Option K) → Option K
flat None = None
flat (Some o) = o

-- the number that comes in this turn, by the free numbers and the number of numbers
abbrev pub number_in_turn : List ℕ → ℕ → ℕ → ℕ
number_in_turn [] fresh i = fresh + i
number_in_turn (n ∷ free) fresh zero = n
number_in_turn (n ∷ free) fresh (suc i) = number_in_turn free fresh i

-- whether a link has an end among these
abbrev pub touches : List ℕ → ℕ × ℕ → Bool
touches numbers l = list_any (nat_eq l.0) numbers || list_any (nat_eq l.1) numbers

module _ {K : Type 0} where
  -- the key of a number, if it has one
  abbrev pub key_at : Graph K → ℕ → Option K
  key_at g n = flat (slice_get g.keys n)

  -- the number that the key gets that comes after so many others
  abbrev pub number_at : Graph K → ℕ → ℕ
  number_at g i = number_in_turn g.free (length g.keys) i

  -- the graph after each of these is removed, inserted, or linked, in turn
  abbrev pub removed_all : Graph K → List ℕ → Graph K
  removed_all g [] = g
  removed_all g (n ∷ numbers) = removed_all (removed g n) numbers

  abbrev pub inserted_all : Graph K → List K → Graph K
  inserted_all g [] = g
  inserted_all g (k ∷ keys) = inserted_all (inserted g k) keys

  abbrev pub linked_all : Graph K → List (ℕ × ℕ) → Graph K
  linked_all g [] = g
  linked_all g (l ∷ links) = linked_all (linked g l.0 l.1) links

  -- the numbers that these get as they are inserted in turn
  abbrev pub numbers_given : Graph K → List K → List ℕ
  numbers_given g [] = []
  numbers_given g (k ∷ keys) = next_number g ∷ numbers_given (inserted g k) keys

  -- the numbers have these keys as they are removed in turn
  abbrev pub HaveKeys : Graph K → List ℕ → List K → Type 0
  HaveKeys g [] [] = Unit {0}
  HaveKeys g [] (k ∷ keys) = ⊥
  HaveKeys g (n ∷ numbers) [] = ⊥
  HaveKeys g (n ∷ numbers) (k ∷ keys) = HasKey g n k × HaveKeys (removed g n) numbers keys

  -- a change: numbers are removed, then keys inserted, then links made
  abbrev pub changed : Graph K → List ℕ → List K → List (ℕ × ℕ) → Graph K
  changed g out new added = linked_all (inserted_all (removed_all g out) new) added

  -- the change without what it put in, last first
  abbrev pub without_new : Graph K → List ℕ → List K → List (ℕ × ℕ) → Graph K
  without_new g out new added = removed_all (changed g out new added) (reverse (numbers_given (removed_all g out) new))

  -- the change undone: what was put in is removed, what was removed is put in, last first, and linked again
  abbrev pub undone : Graph K → List ℕ → List K → List K → List (ℕ × ℕ) → List (ℕ × ℕ) → Graph K
  undone g out old new added taken = linked_all (inserted_all (without_new g out new added) (reverse old)) taken

  -- each link that was made has an end among the new numbers, and its ends are there
  abbrev pub AreNewLinks : Graph K → List ℕ → List K → List (ℕ × ℕ) → Type 0
  AreNewLinks g out new added = All (λ l. (touches (numbers_given (removed_all g out) new) l ≡ true)
      × IsNode (inserted_all (removed_all g out) new) l.0 × IsNode (inserted_all (removed_all g out) new) l.1) added

  -- there is room for each key and link of a change
  pub record HasRoomFor (g : Graph K) (out : List ℕ) (new : List K) (added : List (ℕ × ℕ)) : Type 0 where
    pub keys_fit : length new ≤ (removed_all g out).spare_keys
    pub links_fit : length added ≤ (removed_all g out).spare_links

  -- each number has the key that it had, each later key gets the number that it would have got, and there are
  -- the same links, in whatever order, and the same room
  pub record IsAsBefore (g back : Graph K) (links : List (ℕ × ℕ)) : Type 0 where
    pub keys : (n : ℕ) → key_at back n ≡ key_at g n
    pub numbers : (i : ℕ) → number_at back i ≡ number_at g i
    pub same_links : (others : List (ℕ × ℕ)) × AreLinks back others × IsPermutation links others
    pub spare_keys : back.spare_keys ≡ g.spare_keys
    pub spare_links : back.spare_links ≡ g.spare_links
