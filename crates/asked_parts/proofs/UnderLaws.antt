-- The items under a key: their numbers, how they are told apart, and what it costs to find them.
use Rattle.std.proofs.Common.{◌≡◌, ◌⊎◌, ◌↔◌, inl, inr, ℕ, ◌+◌, ◌<◌, ◌≤◌, Bool, true, false, List, [], ◌∷◌, ◌++◌, length, get_or, take, drop, Option, Some, None, slice_get, nat_eq, refl, sym, ◌∙◌, ap, subst, arith}
use Rattle.std.specs.List.{Contains, list_any, sum_by}
use Rattle.std.specs.Cmp.{Equal-is, nat_eq_equiv}
use Rattle.std.specs.Result.{OnOk}
use Rattle.std.specs.declared.result.Result.{Result}
use Rattle.std.specs.declared.result.Result.TheVariants.{Ok, Err}
use Rattle.std.specs.Bool.{IsTrue}
use Rattle.std.specs.Ordering.{ordering_reverse}
use Rattle.std.specs.declared.cmp.Ordering.{Ordering}
use Rattle.std.specs.declared.cmp.Ordering.TheVariants.{Less, Equal, Greater}
use Rattle.std.proofs.lemmas.Bool.{eqb-true}
use Rattle.std.proofs.lemmas.List.{take-append-drop, take_more}
use Rattle.std.proofs.lemmas.List.Sums.{sum_by-append, sum_by_push}
use Rattle.std.proofs.lemmas.Map.Views.{Contains-from_any, list_any-from_Contains}
use Rattle.std.proofs.lemmas.Option.{slice_get_cases, slice_get-get_or}
use Rattle.item_index.specs.Graphs.{Graph, HasKey, IsNode, IsWhole, node_of}
use Rattle.item_index.specs.Shelves.{list_at, times}
use Rattle.item_index.proofs.Mirrors.{list_there}
use Rattle.item_index.proofs.NodeLemmas.{absent_from}
use Rattle.item_index.proofs.Times.{times-there}
use Rattle.cat_items.specs.declared.item.Item.{Item}
use Rattle.cat_items.specs.declared.item.Item.TheVariants as item
use Rattle.cat_items.specs.Order.{item_cmp}
use Rattle.cat_items.proofs.OrderLemmas.{item_cmp-total, same_order}
use Rattle.cat_items.specs.contracts.item.ItemPartialEq.TheImpl as same
use Rattle.cat_items.specs.contracts.item.ItemOrd.TheImpl as ord
use Rattle.cat_items.specs.contracts.item.ItemOrd.TheImpl.Laws as laws
use Rattle.edit_rules.specs.Chosen.{IsRightOrRoleGrant}
use Rattle.edit_rules.proofs.ItemKeys.{only_granted}
use Rattle.board_graph.specs.BoardKeys.{IsHelper}
use Rattle.topic_keys.specs.Lists.{Gets}
use Rattle.asked_parts.specs.Under.{AreApart, IsRestOf, IsUnderKey, IsUnmarked, IsUnmarkedAt, look_ups, node_cost, rests_cost}

-- ---- results

pub on_ok : {T E : Type 0} (A B : Type 0) (result : Result T E) → (A → B) → OnOk result A → OnOk result B
on_ok A B (Ok x) f a = f a
on_ok A B (Err e) f a = a

pub refused : (b : Bool) (P : Type 0) → IsTrue b ↔ P → b ≡ false → P → ⊥
refused b P same out h = let yes : b ≡ true = same.1 h in cc

-- ---- marks

pub marked : (marks : List ℕ) (n : ℕ) → list_any (nat_eq n) marks ≡ true → Contains marks n
marked marks n h = Contains-from_any (λ x y e. eqb-true x y e) n marks h

pub not_marked : (marks : List ℕ) (n : ℕ) → list_any (nat_eq n) marks ≡ false → Contains marks n → ⊥
not_marked marks n h there = let yes : list_any (nat_eq n) marks ≡ true = list_any-from_Contains nat_eq_equiv n marks there in cc

-- ---- keys

pub one_place : (j k : Item) → same.ghosts.eq j k ≡ true → item_cmp j k ≡ Equal
one_place j k e = sym (same_order j k) ∙ (Equal-is (ord.ghosts.cmp j k)).0 (sym (laws.matches_eq-law j k) ∙ e)

pub same_place : (j k : Item) → item_cmp j k ≡ Equal → same.ghosts.eq j k ≡ true
same_place j k e = laws.matches_eq-law j k ∙ (Equal-is (ord.ghosts.cmp j k)).1 (same_order j k ∙ e)

neither : (o : Ordering) → o ≡ ordering_reverse o → o ≡ Equal
neither Less e = absurd (let odd : Less ≡ Greater = e in cc)
neither Equal e = refl
neither Greater e = absurd (let odd : Greater ≡ Less = e in cc)

pub itself : (k : Item) → item_cmp k k ≡ Equal
itself k = neither (item_cmp k k) (item_cmp-total.antisymm k k)

pub flipped : (x y : Item) → item_cmp x y ≡ Equal → item_cmp y x ≡ Equal
flipped x y e = item_cmp-total.antisymm y x ∙ ap ordering_reverse e

pub same_itself : (k : Item) → same.ghosts.eq k k ≡ true
same_itself k = same_place k k (itself k)

-- helpers' keys are rights and role grants
pub helper_is_granted : (k : Item) → IsHelper k → IsRightOrRoleGrant k
helper_is_granted (item.RoleAuth g) is = tt
helper_is_granted (item.RoleAdmin g) is = tt
helper_is_granted (item.Held r) is = tt
helper_is_granted (item.Grantable r) is = tt
helper_is_granted _ is = absurd is

some_is : {X : Type 0} (o : Option (Option X)) (x y : X) → o ≡ Some (Some x) → o ≡ Some (Some y) → x ≡ y
some_is o x y a b = cc

-- a number has one key
pub one_at : (g : Graph Item) (n : ℕ) (j k : Item) → HasKey g n j → HasKey g n k → j ≡ k
one_at g n j k a b = some_is (slice_get g.keys n) j k a b

-- the node that was found has the very key, where this is a right or a role grant
pub found_key : (g : Graph Item) (n : ℕ) (k found : Item) → IsRightOrRoleGrant k → HasKey g n found → same.ghosts.eq k found ≡ true → HasKey g n k
found_key g n k found granted has e = subst (HasKey g n) (sym (only_granted k found granted (one_place k found e))) has

pub no_key : (g : Graph Item) (k : Item) → None ≡ node_of same.ghosts.eq g k → (n : ℕ) → HasKey g n k → ⊥
no_key g k none n has = let no : same.ghosts.eq k k ≡ false = absent_from same.ghosts.eq g.keys k (sym none) n k has in let yes = same_itself k in cc

-- ---- numbers

rests_often : (g : Graph Item) (m n : ℕ) → Contains (list_at g.rests m) n → 0 < times n (list_at g.rests m)
rests_often g m n h = times-there n h.0 (list_at g.rests m) (slice_get-get_or (list_at g.rests m) h.0 n h.1 ∙ ap Some h.2)

-- what a number rests on has a key
pub rests_are_nodes : (g : Graph Item) (m n : ℕ) → IsWhole same.ghosts.eq g → Contains (list_at g.rests m) n → IsNode g n
rests_are_nodes g m n whole h = by (slice_get_cases g.keys n).1
  where
    often : 0 < times m (list_at g.dependents n)
    often = subst (λ k. 0 < k) (whole.mirrored m n) (rests_often g m n h)

    known : (o : Option Item) → slice_get g.keys n ≡ Some o → IsNode g n
    known (Some k) e = (k, e)
    known None e = absurd (omega (arith, subst (λ l. 0 < times m l) (whole.unlinked n e).1 often))

    by : ((o : Option Item) × (n < length g.keys) × (slice_get g.keys n ≡ Some o) × (get_or g.keys n o ≡ o)) ⊎ ((length g.keys ≤ n) × (slice_get g.keys n ≡ None)) → IsNode g n
    by (inl there) = known there.0 there.2
    by (inr past) = absurd (omega (arith, past.0, whole.dependents_len, list_there g.dependents n m often))

-- ---- items

-- the item of an unmarked number, which is no helper
pub one_unmarked : (g : Graph Item) (marks : List ℕ) (n : ℕ) (key copy : Item) → HasKey g n key → copy ≡ key → (¬ (Contains marks n)) → (¬ (IsHelper key)) → (y : Item) → (y ≡ copy) ↔ IsUnmarkedAt g marks n y
one_unmarked g marks n key copy has is free other y = (
  λ e. let at : key ≡ y = sym (e ∙ is) in (subst (HasKey g n) at has, free, subst (λ z. ¬ (IsHelper z)) at other),
  λ h. one_at g n y key h.0 has ∙ sym is,
)

-- unmarked items that come to others are apart from each unmarked item, where the others are
pub apart_more : (g : Graph Item) (marks : List ℕ) (P : Item → Type 0) (old new : List Item) → IsWhole same.ghosts.eq g → ((y : Item) → P y → IsUnmarked g marks y) → AreApart g marks old → Gets P old new → AreApart g marks new
apart_more g marks P old new whole unmarked apart gets x y h y_is e =
    elim ((gets x).0 h) [
      | inl before ↦ apart x y before y_is e
      | inr p ↦
          let x_is : IsUnmarked g marks x = unmarked x p in
          let one : x_is.0 ≡ y_is.0 = whole.distinct x_is.0 y_is.0 x y x_is.1.0 y_is.1.0 (same_place x y e) in
          one_at g y_is.0 x y (subst (λ n. HasKey g n x) one x_is.1.0) y_is.1.0
    ]

pub rest_is_unmarked : (g : Graph Item) (marks : List ℕ) (n : ℕ) (y : Item) → IsRestOf g marks n y → IsUnmarked g marks y
rest_is_unmarked g marks n y h = (h.0, h.2)

-- what the node of a key rests on is under the key
pub under_node : (g : Graph Item) (marks : List ℕ) (n : ℕ) (k : Item) → IsWhole same.ghosts.eq g → HasKey g n k → (y : Item) → IsRestOf g marks n y ↔ IsUnderKey g marks k y
under_node g marks n k whole has y = (
  λ h. (n, has, h),
  λ h. subst (λ m. IsRestOf g marks m y) (whole.distinct h.0 n k k h.1 has (same_itself k)) h.2,
)

-- ---- look-ups

pub cost_of_node : (g : Graph Item) (k : Item) (n : ℕ) → Some n ≡ node_of same.ghosts.eq g k → look_ups g k ≡ 1 + rests_cost g n
cost_of_node g k n e = ap (λ o. 1 + node_cost g o) (sym e)

pub sum_of_front : {X : Type 0} (f : X → ℕ) (n : ℕ) (xs : List X) → sum_by f (take n xs) ≤ sum_by f xs
sum_of_front f n xs = omega (arith, ap (sum_by f) (take-append-drop n xs), sum_by-append f (take n xs) (drop n xs))

-- the sum so far, with one member more
pub sum_to : {X : Type 0} (f : X → ℕ) (xs : List X) (i : ℕ) (x : X) → i < length xs → x ≡ get_or xs i x → sum_by f (take (i + 1) xs) ≡ sum_by f (take i xs) + f x
sum_to f xs i x low is = ap (sum_by f) (take_more xs i x low ∙ ap (λ y. take i xs ++ y ∷ []) (sym is)) ∙ sum_by_push f (take i xs) x

pub sum_below : {X : Type 0} (f : X → ℕ) (xs : List X) (i : ℕ) (x : X) → i < length xs → x ≡ get_or xs i x → sum_by f (take i xs) + f x ≤ sum_by f xs
sum_below f xs i x low is = omega (arith, sum_to f xs i x low is, sum_of_front f (i + 1) xs)
