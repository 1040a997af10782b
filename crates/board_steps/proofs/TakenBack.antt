-- A board that is as before is the board of the same catalogue; so a plan that is taken back leaves the old one.
use Rattle.std.proofs.Common.{◌≡◌, ℕ, ◌≤◌, Bool, cond, nat_eq, List, [], ◌∷◌, sym, ◌∙◌, ap, refl, inl, inr, subst, arith, eq-eqb}
use Rattle.std.specs.List.{Contains, filter, sum_by}
use Rattle.std.specs.List.Sorted.{IsPermutation}
use Rattle.std.proofs.lemmas.Bool.{cases_eq, ne_eqb}
use Rattle.std.proofs.lemmas.List.Sorted.{Contains-permutation, IsPermutation-sym, sum_by-IsPermutation}
use Rattle.std.proofs.lemmas.List.Sums.{sum_by-cons}
use Rattle.item_index.specs.Graphs.{AreLinks, Graph, HasKey, IsWhole, rests_of}
use Rattle.item_index.specs.Shelves.{list_at, times}
use Rattle.item_index.specs.Undo.{HasRoomFor, HaveKeys, IsAsBefore, flat, touches, undone}
use Rattle.item_index.proofs.GraphLemmas.{rests_of-cons_other, rests_of-cons_same}
use Rattle.item_index.proofs.Times.{hit, times-cons}
use Rattle.item_index.proofs.Undoing.{as_before}
use Rattle.cat_items.specs.declared.item.Item.{Item}
use Rattle.cascade_laws.specs.Alike.{AreAlike}
use Rattle.board_steps.specs.Plans.{HasNoHelper, IsFullBoard, IsPlanOf}
use Rattle.graph_steps.proofs.Numbers.{in_rests, is_link, key_of_number}
use Rattle.board_steps.proofs.Planned.{new_links}

-- 1 for a link between these numbers
abbrev between : ℕ → ℕ → ℕ × ℕ → ℕ
between m n l = cond (nat_eq l.0 m) (hit n l.1) 0

times-rests : (links : List (ℕ × ℕ)) (m n : ℕ) → times n (rests_of links m) ≡ sum_by (between m n) links
times-rests [] m n = refl
times-rests ((a, b) ∷ links) m n =
    let rest = times-rests links m n in
    let all = sum_by-cons (between m n) (a, b) links in
    elim (cases_eq a m) [
      | inl e ↦
          let here : between m n (a, b) ≡ hit n b = ap (λ (t : Bool). cond t (hit n b) 0) (eq-eqb a m e) in
          let same = ap (times n) (rests_of-cons_same m a b links e) in
          let one = times-cons n b (rests_of links m) in
          omega arith
      | inr ne ↦
          let none : between m n (a, b) ≡ 0 = ap (λ (t : Bool). cond t (hit n b) 0) (ne_eqb a m ne) in
          let same = ap (times n) (rests_of-cons_other m a b links ne) in
          omega arith
    ]

-- the same links in another order
moved_links : (links others : List (ℕ × ℕ)) → IsPermutation links others → (m n : ℕ) → Contains (rests_of links m) n → Contains (rests_of others m) n
moved_links links others moved m n h = in_rests others m n (Contains-permutation links others (m, n) moved (is_link links m n h))

module _ (c : List Item) (g back : Graph Item) (links : List (ℕ × ℕ)) (are : AreLinks g links) (is : IsAsBefore g back links) (full : IsFullBoard g c) where
  others : List (ℕ × ℕ)
  others = is.same_links.0

  has_again : (n : ℕ) (k : Item) → HasKey g n k → HasKey back n k
  has_again n k has = key_of_number back n k (is.keys n ∙ ap flat has)

  had : (n : ℕ) (k : Item) → HasKey back n k → HasKey g n k
  had n k has = key_of_number g n k (sym (is.keys n) ∙ ap flat has)

  rests_again : (m : ℕ) → list_at back.rests m ≡ rests_of others m
  unfolding others
  rests_again m = is.same_links.1.rests_are m

  there_again : (m n : ℕ) → Contains (list_at g.rests m) n → Contains (list_at back.rests m) n
  unfolding others
  there_again m n h = subst (λ (ns : List ℕ). Contains ns n) (sym (rests_again m)) (moved_links links others is.same_links.2 m n (subst (λ (ns : List ℕ). Contains ns n) (are.rests_are m) h))

  was_there : (m n : ℕ) → Contains (list_at back.rests m) n → Contains (list_at g.rests m) n
  unfolding others
  was_there m n h =
      subst (λ (ns : List ℕ). Contains ns n) (sym (are.rests_are m)) (moved_links others links (IsPermutation-sym links others is.same_links.2) m n (subst (λ (ns : List ℕ). Contains ns n) (rests_again m) h))

  once_again : (m n : ℕ) → times n (list_at back.rests m) ≤ 1
  unfolding others
  once_again m n =
      let was = full.board.once m n in
      let old = ap (times n) (are.rests_are m) in
      let new = ap (times n) (rests_again m) in
      let old_sum = times-rests links m n in
      let new_sum = times-rests others m n in
      let same = sum_by-IsPermutation (between m n) links others is.same_links.2 in
      omega arith

  pub board_again : IsFullBoard back c
  board_again = record {
    board = record {
      items = λ x k of. let at = full.board.items x k of in (at.0, has_again at.0 k at.1);
      helpers = λ n k has. full.board.helpers n k (had n k has);
      links = λ m n j k has_m has_n. let both = full.board.links m n j k (had m j has_m) (had n k has_n) in (λ h. both.0 (was_there m n h), λ l. there_again m n (both.1 l));
      once = once_again;
    };
    topics = λ x k t goes. let at = full.topics x k t goes in (at.0, has_again at.0 _ at.1);
  }

pub taken_back : (c new : List Item) (suspect : Item → Bool) → HasNoHelper c → HasNoHelper new → AreAlike c new suspect
    → (eq : Item → Item → Bool) (g : Graph Item) (out : List ℕ) (old keys : List Item) (links added taken : List (ℕ × ℕ)) → IsWhole eq g → IsFullBoard g c → IsPlanOf g c new suspect out keys added
    → HaveKeys g out old → AreLinks g links → HasRoomFor g out keys added → IsPermutation (filter (touches out) links) taken → IsFullBoard (undone g out old keys added taken) c
taken_back c new suspect no_c no_new alike eq g out old keys links added taken whole full plan had_old are room took =
    board_again c g (undone g out old keys added taken) links are
    (as_before eq g out old keys links added taken whole had_old are (new_links c new suspect no_c no_new alike eq g out keys added whole full plan) room took).1 full
