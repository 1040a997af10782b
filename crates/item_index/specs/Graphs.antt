-- Keys by number, and the links between the numbers.
use Rattle.std.specs.Prelude.{◌≡◌, ℕ, ◌+◌, ◌-◌, ◌≤◌, ◌^◌, Bool, true, false, not, ◌||◌, cond, nat_eq, List, [], ◌∷◌, ◌++◌, length, map, filter, count_by, position, Option, Some, None, slice_get, slice_set}
use Rattle.item_index.specs.Shelves.{list_at, times, without}

-- The key of each number, or None where it is free. The free numbers, of which the last freed comes first. Of
-- each number, in order of linking, those that it rests on and those that rest on it. For how many more keys
-- and links there is room.
pub record Graph (K : Type 0) : Type 0 where
  pub keys : List (Option K)
  pub free : List ℕ
  pub rests : List (List ℕ)
  pub dependents : List (List ℕ)
  pub spare_keys : ℕ
  pub spare_links : ℕ

-- no keys, and no room for any
abbrev pub no_graph : {K : Type 0} → Graph K
no_graph = record { keys = []; free = []; rests = []; dependents = []; spare_keys = 0; spare_links = 0 }

-- the number that the next key gets, by the free numbers and the number of numbers
abbrev pub first_free : List ℕ → ℕ → ℕ
first_free [] fresh = fresh
first_free (n ∷ free) fresh = n

module _ {K : Type 0} where
  -- the graph with this room
  abbrev pub with_spare : Graph K → ℕ → ℕ → Graph K
  with_spare g keys links = record g { spare_keys = keys; spare_links = links }

  -- the number has this key
  abbrev pub HasKey : Graph K → ℕ → K → Type 0
  HasKey g n k = slice_get g.keys n ≡ Some (Some k)

  -- the number has a key
  abbrev pub IsNode : Graph K → ℕ → Type 0
  IsNode g n = (k : K) × HasKey g n k

  -- whether a number has a key that equals this
  abbrev pub holds : (K → K → Bool) → K → Option K → Bool
  holds eq k None = false
  holds eq k (Some j) = eq k j

  -- the number of this key
  abbrev pub node_of : (K → K → Bool) → Graph K → K → Option ℕ
  node_of eq g k = position (holds eq k) g.keys

  -- the number that was freed last, else the next new one
  abbrev pub next_number : Graph K → ℕ
  next_number g = first_free g.free (length g.keys)

  -- the graph with a key at a number that no key had
  abbrev pub with_new : Graph K → K → Graph K
  with_new g k = record g { keys = g.keys ++ Some k ∷ []; rests = g.rests ++ [] ∷ []; dependents = g.dependents ++ [] ∷ []; spare_keys = g.spare_keys - 1 }

  -- the graph with a key at the first free number, of which the others are left
  abbrev pub with_again : Graph K → K → ℕ → List ℕ → Graph K
  with_again g k n free = record g { keys = slice_set g.keys n (Some k); free = free; spare_keys = g.spare_keys - 1 }

  abbrev pub inserted_at : Graph K → K → List ℕ → Graph K
  inserted_at g k [] = with_new g k
  inserted_at g k (n ∷ free) = with_again g k n free

  -- the graph with a key at the next number
  abbrev pub inserted : Graph K → K → Graph K
  inserted g k = inserted_at g k g.free

  -- the graph with a link at the end of both lists that it stands in
  abbrev pub linked : Graph K → ℕ → ℕ → Graph K
  linked g n m = record g {
    rests = slice_set g.rests n (list_at g.rests n ++ m ∷ []);
    dependents = slice_set g.dependents m (list_at g.dependents m ++ n ∷ []);
    spare_links = g.spare_links - 1;
  }

  -- how many links a number has: a link with itself is one
  abbrev pub link_count : Graph K → ℕ → ℕ
  link_count g n = length (list_at g.rests n) + length (without n (list_at g.dependents n))

-- the lists without those of a number, and without it in the others, which keep their order
abbrev pub cut_off : ℕ → List (List ℕ) → List (List ℕ)
cut_off n lists = slice_set (map (without n) lists) n []

module _ {K : Type 0} where
  -- the graph without the key of a number and its links
  abbrev pub removed : Graph K → ℕ → Graph K
  removed g n = record g {
    keys = slice_set g.keys n None;
    free = n ∷ g.free;
    rests = cut_off n g.rests;
    dependents = cut_off n g.dependents;
    spare_keys = g.spare_keys + 1;
    spare_links = g.spare_links + link_count g n;
  }

-- what a number rests on, and what rests on it, by the list of all links in order of linking: (x, y) where x
-- rests on y
abbrev pub rests_of : List (ℕ × ℕ) → ℕ → List ℕ
rests_of links n = map (λ l. l.1) (filter (λ l. nat_eq l.0 n) links)

abbrev pub dependents_of : List (ℕ × ℕ) → ℕ → List ℕ
dependents_of links n = map (λ l. l.0) (filter (λ l. nat_eq l.1 n) links)

-- the links of a list that a number has no part in
abbrev pub links_without : ℕ → List (ℕ × ℕ) → List (ℕ × ℕ)
links_without n links = filter (λ l. not (nat_eq l.0 n || nat_eq l.1 n)) links

-- the lists of each number are those of these links, in order of linking
pub record AreLinksOf (rests dependents : List (List ℕ)) (links : List (ℕ × ℕ)) : Type 0 where
  pub rests_are : (n : ℕ) → list_at rests n ≡ rests_of links n
  pub dependents_are : (n : ℕ) → list_at dependents n ≡ dependents_of links n

-- these are all links, in order of linking
abbrev pub AreLinks : {K : Type 0} → Graph K → List (ℕ × ℕ) → Type 0
AreLinks g links = AreLinksOf g.rests g.dependents links

-- whether a number is free by the keys
abbrev pub is_free : {K : Type 0} → Option (Option K) → Bool
is_free None = false
is_free (Some None) = true
is_free (Some (Some k)) = false

abbrev pub is_none : {K : Type 0} → Option K → Bool
is_none None = true
is_none (Some k) = false

-- What holds of each index: the links stand in both directions, in one order; no two numbers have equal keys;
-- the free numbers are those without a key, each once, and have no links.
pub record AreWhole {K : Type 0} (eq : K → K → Bool) (keys : List (Option K)) (free : List ℕ) (rests dependents : List (List ℕ)) : Type 0 where
  pub rests_len : length rests ≡ length keys
  pub dependents_len : length dependents ≡ length keys
  pub links : ∥ ((links : List (ℕ × ℕ)) × AreLinksOf rests dependents links) ∥₁
  pub mirrored : (n m : ℕ) → times m (list_at rests n) ≡ times n (list_at dependents m)
  pub distinct : (m n : ℕ) (j k : K) → slice_get keys m ≡ Some (Some j) → slice_get keys n ≡ Some (Some k) → eq j k ≡ true → m ≡ n
  pub free_once : (n : ℕ) → times n free ≡ cond (is_free (slice_get keys n)) 1 0
  pub free_count : length free ≡ count_by is_none keys
  pub unlinked : (n : ℕ) → slice_get keys n ≡ Some None → (list_at rests n ≡ []) × (list_at dependents n ≡ [])

abbrev pub IsWhole : {K : Type 0} → (K → K → Bool) → Graph K → Type 0
IsWhole eq g = AreWhole eq g.keys g.free g.rests g.dependents

-- As many keys more as are spare have room in each store, where numbers that are free are used first; and each
-- number has room among the free ones.
pub record HasRoom (numbers free spare keys frees rests dependents : ℕ) : Type 0 where
  pub keys_fit : numbers + spare ≤ keys + free
  pub frees_fit : numbers + spare ≤ frees + free
  pub rests_fit : spare ≤ rests + free
  pub dependents_fit : spare ≤ dependents + free
  pub numbers_fit : numbers + spare ≤ 2 ^ 32 + free
  pub free_now : numbers ≤ frees
  pub numbers_now : numbers ≤ 2 ^ 32
