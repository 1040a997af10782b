-- What is done to a graph can be done to one that is as it was left, and leaves that as it leaves the first.
use Rattle.std.proofs.Common.{◌≡◌, ℕ, ◌-◌, ◌<◌, ◌≤◌, Bool, true, List, [], ◌∷◌, ◌++◌, length, Some, sym, ◌∙◌, ap, refl, arith}
use Rattle.std.specs.List.{All}
use Rattle.std.proofs.lemmas.List.Elements.{All-head, All-tail, All-weaker}
use Rattle.std.proofs.lemmas.Option.{slice_get_within}
use Rattle.item_index.specs.Graphs.{AreLinks, Graph, HasKey, IsNode, IsWhole, first_free, inserted, inserted_at, linked, next_number, removed, with_spare}
use Rattle.item_index.specs.Shelves.{list_at, times, without}
use Rattle.item_index.specs.Undo.{AreNewLinks, HaveKeys, IsAsBefore, changed, flat, inserted_all, linked_all, number_in_turn, numbers_given, removed_all, touches}
use Rattle.item_index.proofs.NodeLemmas.{absent_from, not_found}
use Rattle.item_index.proofs.Turns.{AreAlike, AreAlike-put, AreAlike-strike, Book, IsOrderly, IsOrderly-strike, at_number, in_turn, put}
use Rattle.graph_steps.specs.Steps.{AreNewKeys, HasLists}
use Rattle.graph_steps.proofs.Inserting.{IsOrderly-inserted, book, orderly, same_lists, same_rests, same_dependents}
use Rattle.graph_steps.proofs.Linking.{more_lists}
use Rattle.graph_steps.proofs.Numbers.{key_of_number}
use Rattle.graph_steps.proofs.Removing.{left_lists}
use Rattle.graph_changes.specs.Changes.{CanChange}
use Rattle.board_changes.specs.Left.{IsAsLeft}
use Rattle.board_changes.proofs.Counting.{moved_dependents, moved_rests, same_cut_off, same_length, same_with_more, same_without}

first_in_turn : (free : List ℕ) (fresh : ℕ) → first_free free fresh ≡ number_in_turn free fresh 0
first_in_turn [] fresh = omega arith
first_in_turn (n ∷ free) fresh = refl

module _ {K : Type 0} where
  -- ---- the relation

  pub left_alone : (g : Graph K) → IsAsLeft g g
  left_alone g = record { keys = λ n. refl; numbers = λ i. refl; rests = λ n m. refl; dependents = λ n m. refl; spare_keys = omega arith; spare_links = omega arith }

  pub left_still : (g h now : Graph K) → IsAsLeft g h → IsAsLeft h now → IsAsLeft g now
  left_still g h now a b =
      let a_keys = a.spare_keys in
      let b_keys = b.spare_keys in
      let a_links = a.spare_links in
      let b_links = b.spare_links in
      record {
        keys = λ n. b.keys n ∙ a.keys n;
        numbers = λ i. b.numbers i ∙ a.numbers i;
        rests = λ n m. b.rests n m ∙ a.rests n m;
        dependents = λ n m. b.dependents n m ∙ a.dependents n m;
        spare_keys = omega arith;
        spare_links = omega arith;
      }

  pub left_roomier : (g : Graph K) (keys links : ℕ) → g.spare_keys ≤ keys → g.spare_links ≤ links → IsAsLeft g (with_spare g keys links)
  left_roomier g keys links more_keys more_links = record { keys = λ n. refl; numbers = λ i. refl; rests = λ n m. refl; dependents = λ n m. refl; spare_keys = more_keys; spare_links = more_links }

  pub left_as_before : (g back : Graph K) (links : List (ℕ × ℕ)) → AreLinks g links → IsAsBefore g back links → IsAsLeft g back
  left_as_before g back links are is =
      let others = is.same_links.0 in
      let now = is.same_links.1 in
      let moved = is.same_links.2 in
      let keys = is.spare_keys in
      let room = is.spare_links in
      record {
        keys = is.keys;
        numbers = is.numbers;
        rests = λ n m. ap (λ (ns : List ℕ). times m ns) (now.rests_are n) ∙ moved_rests links others moved n m ∙ sym (ap (λ (ns : List ℕ). times m ns) (are.rests_are n));
        dependents = λ n m. ap (λ (ns : List ℕ). times m ns) (now.dependents_are n) ∙ moved_dependents links others moved n m ∙ sym (ap (λ (ns : List ℕ). times m ns) (are.dependents_are n));
        spare_keys = omega arith;
        spare_links = omega arith;
      }

  -- ---- graphs with what an index keeps

  -- the numbers come in order, and each has its lists
  pub record IsSteady (g : Graph K) : Type 0 where
    pub orderly : IsOrderly (book g)
    pub lists : HasLists g

  pub record Follows (g now : Graph K) : Type 0 where
    pub steady : IsSteady g
    pub steady_now : IsSteady now
    pub as_left : IsAsLeft g now

  books : (g now : Graph K) → IsAsLeft g now → AreAlike (book now) (book g)
  books g now as_left = record { keys = as_left.keys; turns = as_left.numbers }

  pub has_still : (g now : Graph K) → IsAsLeft g now → (n : ℕ) (k : K) → HasKey g n k → HasKey now n k
  has_still g now as_left n k has = key_of_number now n k (as_left.keys n ∙ ap flat has)

  pub had_still : (g now : Graph K) → IsAsLeft g now → (n : ℕ) (k : K) → HasKey now n k → HasKey g n k
  had_still g now as_left n k has = key_of_number g n k (sym (as_left.keys n) ∙ ap flat has)

  node_still : (g now : Graph K) → IsAsLeft g now → (n : ℕ) → IsNode g n → IsNode now n
  node_still g now as_left n (k, has) = (k, has_still g now as_left n k has)

  -- ---- removed

  steady_removed : (g : Graph K) (n : ℕ) (k : K) → HasKey g n k → IsSteady g → IsSteady (removed g n)
  steady_removed g n k has s = record { orderly = IsOrderly-strike (book g) n k (ap flat has) s.orderly; lists = left_lists g (n ∷ []) s.lists }

  left_removed : (g now : Graph K) (n : ℕ) → IsAsLeft g now → IsAsLeft (removed g n) (removed now n)
  left_removed g now n as_left =
      let alike = AreAlike-strike (book now) (book g) n (books g now as_left) in
      let keys = as_left.spare_keys in
      let links = as_left.spare_links in
      let some = same_length (list_at g.rests n) (list_at now.rests n) (as_left.rests n) in
      let others = same_length (without n (list_at g.dependents n)) (without n (list_at now.dependents n)) (same_without n (list_at g.dependents n) (list_at now.dependents n) (as_left.dependents n)) in
      record {
        keys = alike.keys;
        numbers = alike.turns;
        rests = same_cut_off n g.rests now.rests as_left.rests;
        dependents = same_cut_off n g.dependents now.dependents as_left.dependents;
        spare_keys = omega arith;
        spare_links = omega arith;
      }

  pub follows_removed_all : (g now : Graph K) (out : List ℕ) (old : List K) → HaveKeys g out old → Follows g now → HaveKeys now out old × Follows (removed_all g out) (removed_all now out)
  follows_removed_all g now [] [] had f = (tt, f)
  follows_removed_all g now [] (k ∷ old) had f = absurd had
  follows_removed_all g now (n ∷ out) [] had f = absurd had
  follows_removed_all g now (n ∷ out) (k ∷ old) had f =
      let here = has_still g now f.as_left n k had.0 in
      let rest = follows_removed_all (removed g n) (removed now n) out old had.1
      (record { steady = steady_removed g n k had.0 f.steady; steady_now = steady_removed now n k here f.steady_now; as_left = left_removed g now n f.as_left }) in
      ((here, rest.0), rest.1)

  -- ---- inserted

  book-inserted_at : (g : Graph K) (k : K) (free : List ℕ) → g.free ≡ free → book (inserted_at g k free) ≡ put (g.keys, free) k
  book-inserted_at g k [] e = ap (λ (free : List ℕ). (g.keys ++ Some k ∷ [], free)) e
  book-inserted_at g k (n ∷ free) e = refl

  book-inserted : (g : Graph K) (k : K) → book (inserted g k) ≡ put (book g) k
  book-inserted g k = book-inserted_at g k g.free refl

  room-inserted_at : (g : Graph K) (k : K) (free : List ℕ) → ((inserted_at g k free).spare_keys ≡ g.spare_keys - 1) × ((inserted_at g k free).spare_links ≡ g.spare_links)
  room-inserted_at g k [] = (refl, refl)
  room-inserted_at g k (n ∷ free) = (refl, refl)

  steady_inserted : (g : Graph K) (k : K) → IsSteady g → IsSteady (inserted g k)
  steady_inserted g k s = record { orderly = IsOrderly-inserted g k s.orderly; lists = same_lists g (k ∷ []) s.lists }

  left_inserted : (g now : Graph K) (k : K) → Follows g now → IsAsLeft (inserted g k) (inserted now k)
  left_inserted g now k f =
      let as_left = f.as_left in
      let alike = AreAlike-put (book now) (book g) k f.steady_now.orderly f.steady.orderly (books g now as_left) in
      let keys = as_left.spare_keys in
      let links = as_left.spare_links in
      let less = room-inserted_at g k g.free in
      let less_keys = less.0 in
      let less_links = less.1 in
      let less_now = room-inserted_at now k now.free in
      let less_keys_now = less_now.0 in
      let less_links_now = less_now.1 in
      record {
        keys = λ n. ap (λ (b : Book K). at_number b n) (book-inserted now k) ∙ alike.keys n ∙ sym (ap (λ (b : Book K). at_number b n) (book-inserted g k));
        numbers = λ i. ap (λ (b : Book K). in_turn b i) (book-inserted now k) ∙ alike.turns i ∙ sym (ap (λ (b : Book K). in_turn b i) (book-inserted g k));
        rests = λ n m. ap (λ (ns : List ℕ). times m ns) (same_rests now (k ∷ []) n) ∙ as_left.rests n m ∙ sym (ap (λ (ns : List ℕ). times m ns) (same_rests g (k ∷ []) n));
        dependents = λ n m. ap (λ (ns : List ℕ). times m ns) (same_dependents now (k ∷ []) n) ∙ as_left.dependents n m ∙ sym (ap (λ (ns : List ℕ). times m ns) (same_dependents g (k ∷ []) n));
        spare_keys = omega arith;
        spare_links = omega arith;
      }

  follows_inserted : (g now : Graph K) (k : K) → Follows g now → Follows (inserted g k) (inserted now k)
  follows_inserted g now k f = record { steady = steady_inserted g k f.steady; steady_now = steady_inserted now k f.steady_now; as_left = left_inserted g now k f }

  pub follows_inserted_all : (g now : Graph K) (keys : List K) → Follows g now → Follows (inserted_all g keys) (inserted_all now keys)
  follows_inserted_all g now [] f = f
  follows_inserted_all g now (k ∷ keys) f = follows_inserted_all (inserted g k) (inserted now k) keys (follows_inserted g now k f)

  next_still : (g now : Graph K) → IsAsLeft g now → next_number now ≡ next_number g
  next_still g now as_left = first_in_turn now.free (length now.keys) ∙ as_left.numbers 0 ∙ sym (first_in_turn g.free (length g.keys))

  given_still : (g now : Graph K) (keys : List K) → Follows g now → numbers_given now keys ≡ numbers_given g keys
  given_still g now [] f = refl
  given_still g now (k ∷ keys) f =
      ap (λ (n : ℕ). n ∷ numbers_given (inserted now k) keys) (next_still g now f.as_left)
      ∙ ap (λ (ns : List ℕ). next_number g ∷ ns) (given_still (inserted g k) (inserted now k) keys (follows_inserted g now k f))

  new_still : (eq : K → K → Bool) (g now : Graph K) (keys : List K) → Follows g now → AreNewKeys eq g keys → AreNewKeys eq now keys
  new_still eq g now [] f new = tt
  new_still eq g now (k ∷ keys) f new = (
    not_found eq now.keys k (λ n j has. absent_from eq g.keys k new.0 n j (had_still g now f.as_left n j has)),
    new_still eq (inserted g k) (inserted now k) keys (follows_inserted g now k f) new.1,
  )

  -- ---- linked

  abbrev HasEnds : Graph K → ℕ × ℕ → Type 0
  HasEnds g l = IsNode g l.0 × IsNode g l.1

  below_rests : (g : Graph K) (n : ℕ) → HasLists g → IsNode g n → n < length g.rests
  below_rests g n lists (k, has) = let within = slice_get_within g.keys n (Some k) has in let len = lists.rests_len in omega arith

  below_dependents : (g : Graph K) (n : ℕ) → HasLists g → IsNode g n → n < length g.dependents
  below_dependents g n lists (k, has) = let within = slice_get_within g.keys n (Some k) has in let len = lists.dependents_len in omega arith

  left_linked : (g now : Graph K) (a b : ℕ) → IsNode g a → IsNode g b → Follows g now → IsAsLeft (linked g a b) (linked now a b)
  left_linked g now a b from to f =
      let as_left = f.as_left in
      let lists = f.steady.lists in
      let lists_now = f.steady_now.lists in
      let keys = as_left.spare_keys in
      let links = as_left.spare_links in
      record {
        keys = as_left.keys;
        numbers = as_left.numbers;
        rests = same_with_more a b g.rests now.rests (below_rests g a lists from) (below_rests now a lists_now (node_still g now as_left a from)) as_left.rests;
        dependents = same_with_more b a g.dependents now.dependents (below_dependents g b lists to) (below_dependents now b lists_now (node_still g now as_left b to)) as_left.dependents;
        spare_keys = omega arith;
        spare_links = omega arith;
      }

  follows_linked : (g now : Graph K) (a b : ℕ) → IsNode g a → IsNode g b → Follows g now → Follows (linked g a b) (linked now a b)
  follows_linked g now a b from to f = record {
    steady = record { orderly = f.steady.orderly; lists = more_lists g ((a, b) ∷ []) f.steady.lists };
    steady_now = record { orderly = f.steady_now.orderly; lists = more_lists now ((a, b) ∷ []) f.steady_now.lists };
    as_left = left_linked g now a b from to f;
  }

  pub follows_linked_all : (g now : Graph K) (links : List (ℕ × ℕ)) → All (HasEnds g) links → Follows g now → Follows (linked_all g links) (linked_all now links)
  follows_linked_all g now [] ends f = f
  follows_linked_all g now (l ∷ links) ends f =
      let here = All-head (HasEnds g) l links ends in
      follows_linked_all (linked g l.0 l.1) (linked now l.0 l.1) links (All-tail (HasEnds g) l links ends) (follows_linked g now l.0 l.1 here.0 here.1 f)

  -- ---- a change

  ends_of : (g : Graph K) (out : List ℕ) (keys : List K) (links : List (ℕ × ℕ)) → AreNewLinks g out keys links → All (HasEnds (inserted_all (removed_all g out) keys)) links
  ends_of g out keys links new =
      let after = inserted_all (removed_all g out) keys in
      All-weaker (λ l. (touches (numbers_given (removed_all g out) keys) l ≡ true) × IsNode after l.0 × IsNode after l.1) (HasEnds after) (λ l h. (h.1, h.2)) links new

  pub follows_changed : (g now : Graph K) (out : List ℕ) (old keys : List K) (links : List (ℕ × ℕ)) → HaveKeys g out old → AreNewLinks g out keys links → Follows g now
      → Follows (changed g out keys links) (changed now out keys links)
  follows_changed g now out old keys links had new f =
      let less = follows_removed_all g now out old had f in
      follows_linked_all (inserted_all (removed_all g out) keys) (inserted_all (removed_all now out) keys) links (ends_of g out keys links new) (follows_inserted_all (removed_all g out) (removed_all now out) keys less.1)

  module _ (eq : K → K → Bool) where
    pub steady_whole : (g : Graph K) → IsWhole eq g → IsSteady g
    steady_whole g whole = record { orderly = orderly eq g whole; lists = record { rests_len = whole.rests_len; dependents_len = whole.dependents_len } }

    pub can_still : (g now : Graph K) (out : List ℕ) (keys : List K) (links : List (ℕ × ℕ)) → Follows g now → CanChange eq g out keys links → CanChange eq now out keys links
    can_still g now out keys links f can =
        let old = can.had.0 in
        let both = follows_removed_all g now out old can.had.1 f in
        let less = both.1 in
        let more = follows_inserted_all (removed_all g out) (removed_all now out) keys less in
        let after = inserted_all (removed_all g out) keys in
        let after_now = inserted_all (removed_all now out) keys in
        let given = given_still (removed_all g out) (removed_all now out) keys less in
        let room_keys = less.as_left.spare_keys in
        let room_links = less.as_left.spare_links in
        let keys_fit = can.room.keys_fit in
        let links_fit = can.room.links_fit in
        record {
          had = (old, both.0);
          new = new_still eq (removed_all g out) (removed_all now out) keys less can.new;
          linked = All-weaker (λ l. (touches (numbers_given (removed_all g out) keys) l ≡ true) × IsNode after l.0 × IsNode after l.1)
              (λ l. (touches (numbers_given (removed_all now out) keys) l ≡ true) × IsNode after_now l.0 × IsNode after_now l.1)
              (λ l h. (ap (λ (ns : List ℕ). touches ns l) given ∙ h.0, node_still after after_now more.as_left l.0 h.1, node_still after after_now more.as_left l.1 h.2)) links can.linked;
          room = record { keys_fit = omega arith; links_fit = omega arith };
        }
