-- Numbers of keys that were looked up one after the other.
use Rattle.std.proofs.Common.{◌≡◌, ◌⊎◌, inl, inr, ℕ, ◌<◌, ◌≤◌, Bool, true, false, List, [], ◌∷◌, ◌++◌, length, get_or, Some, None, ap, sym, refl, ◌∙◌, subst, arith}
use Rattle.std.specs.Prelude.{◌↔◌}
use Rattle.std.specs.List.{Contains}
use Rattle.std.specs.Ordering.{is_eq}
use Rattle.std.specs.Cmp.{Equal-is}
use Rattle.std.specs.declared.cmp.Ordering.TheVariants.{Less, Equal}
use Rattle.std.proofs.lemmas.Bool.{both_ways, cases_lt, cond-false, cond-true}
use Rattle.std.proofs.lemmas.List.Elements.{Contains-get_or}
use Rattle.finite_chains.proofs.Members.{Contains-nil}
use Rattle.item_index.specs.Graphs.{Graph, HasKey, IsNode, IsWhole, node_of}
use Rattle.item_index.proofs.NodeLemmas.{absent_from}
use Rattle.cat_items.specs.declared.edit.Edit.{Edit}
use Rattle.cat_items.specs.declared.item.Item.{Item}
use Rattle.cat_items.specs.declared.item.Item.TheVariants as item
use Rattle.cat_items.specs.contracts.item.ItemPartialEq.TheImpl as same
use Rattle.cat_items.specs.contracts.item.ItemOrd.TheImpl.Laws as laws
use Rattle.cat_items.specs.Catalogues.{IsInOrder}
use Rattle.cat_items.specs.Order.{item_cmp}
use Rattle.cat_items.specs.Rights.{path_of}
use Rattle.cat_items.proofs.KeyLemmas.{same_key}
use Rattle.cat_items.proofs.OrderLemmas.{item_cmp-total, same_order}
use Rattle.cascade_laws.specs.Topics.{Topic, authorization, role_named, schema, table, base_table, columns, column, domain, routine, key, supply, edges, admins}
use Rattle.edit_rules.specs.Chosen.{AreAll}
use Rattle.board_graph.specs.BoardKeys.{ghost_key, topic_key}
use Rattle.link_marks.specs.Reached.{AreReached, IsReached, first, further}
use Rattle.topic_keys.specs.Homes.{IsHome, IsHomeOf}
use Rattle.topic_keys.specs.Lists.{Gets, IsKeyWhere}
use Rattle.topic_keys.proofs.Adding.{IsOfSome, gets_alike, gets_both, gets_none, gets_one}
use Rattle.topic_keys.proofs.HomeLaws.{homes_are}
use Rattle.key_tests.specs.Tests.{ghost_of, is_helper, may_be_ghost}
use Rattle.edit_suspects.specs.Seeds.{AreTouched, HaveSpread, IsAddedKey, IsKeyOfAdded, IsNumber, IsNumberOf, IsSeedKey, of_added, of_changed, of_ghost, of_item, of_target, of_topic}

-- ---- sameness of items

same_is : (j k : Item) → same.ghosts.eq j k ≡ is_eq (item_cmp j k)
same_is j k = laws.matches_eq-law j k ∙ ap is_eq (same_order j k)

same_itself : (k : Item) → same.ghosts.eq k k ≡ true
same_itself k = same_is k k ∙ (Equal-is (item_cmp k k)).1 (same_key k)

same_too : (k i j : Item) → same.ghosts.eq k i ≡ true → same.ghosts.eq k j ≡ true → same.ghosts.eq i j ≡ true
same_too k i j e f =
    let place : item_cmp k i ≡ Equal = (Equal-is (item_cmp k i)).0 (sym (same_is k i) ∙ e) in
    same_is i j ∙ ap is_eq (sym (item_cmp-total.congr k i j place)) ∙ sym (same_is k j) ∙ f

-- ---- one look-up

module _ (g : Graph Item) (k : Item) (whole : IsWhole same.ghosts.eq g) (old : List ℕ) where
  found_behind : (n : ℕ) → (j : Item) × HasKey g n j × (same.ghosts.eq k j ≡ true) → Gets (IsNumber same.ghosts.eq g k) old (old ++ n ∷ [])
  found_behind n at =
      gets_alike (λ m. m ≡ n) (IsNumber same.ghosts.eq g k) old (old ++ n ∷ [])
      (λ m. (
        λ e. (at.0, subst (λ i. HasKey g i at.0) (sym e) at.1, at.2),
        λ of. whole.distinct m n of.0 at.0 of.1 at.1 (same_too k of.0 at.0 of.2 at.2),
      ))
      (gets_one n old)

  pub found_one : (n : ℕ) (new : List ℕ) → new ≡ old ++ n ∷ [] → (j : Item) × HasKey g n j × (same.ghosts.eq k j ≡ true) → Gets (IsNumber same.ghosts.eq g k) old new
  found_one n new is at = subst (λ (l : List ℕ). Gets (IsNumber same.ghosts.eq g k) old l) (sym is) (found_behind n at)

  pub found_none : node_of same.ghosts.eq g k ≡ None → Gets (IsNumber same.ghosts.eq g k) old old
  found_none none = gets_none (IsNumber same.ghosts.eq g k) old old refl (λ m of. both_ways (same.ghosts.eq k of.0) (absent_from same.ghosts.eq g.keys k none m of.0 of.1) of.2)

-- ---- look-ups of an added item

module _ (eq : Item → Item → Bool) (g : Graph Item) (old new : List ℕ) where
  -- keys that are alike have the same numbers
  pub numbers_alike : (P Q : Item → Type 0) → ((k : Item) → P k ↔ Q k) → Gets (IsNumberOf eq g P) old new → Gets (IsNumberOf eq g Q) old new
  numbers_alike P Q alike gets = gets_alike (IsNumberOf eq g P) (IsNumberOf eq g Q) old new (λ n. ((λ of. (of.0, (alike of.0).0 of.1, of.2)), (λ of. (of.0, (alike of.0).1 of.1, of.2)))) gets

  -- the numbers of one key
  number_alike : (one : Item) (Q : Item → Type 0) → Q one → ((k : Item) → Q k → k ≡ one) → Gets (IsNumber eq g one) old new → Gets (IsNumberOf eq g Q) old new
  number_alike one Q q only gets =
      gets_alike (IsNumber eq g one) (IsNumberOf eq g Q) old new (λ n. ((λ of. (one, q, of)), (λ of. subst (λ k. IsNumber eq g k n) (only of.0 of.1) of.2))) gets

  pub own_found : (x : Item) → is_helper x ≡ false → Gets (IsNumber eq g x) old new → Gets (IsNumberOf eq g (λ k. (is_helper x ≡ false) × (k ≡ x))) old new
  own_found x other gets = number_alike x (λ k. (is_helper x ≡ false) × (k ≡ x)) (other, refl) (λ k is. is.1) gets

  pub ghost_found : (x one : Item) → ghost_of x ≡ Some one → Gets (IsNumber eq g one) old new → Gets (IsNumberOf eq g (λ k. ghost_of x ≡ Some k)) old new
  ghost_found x one is gets = number_alike one (λ k. ghost_of x ≡ Some k) is (λ k also. let both : Some k ≡ Some one = sym also ∙ is in cc) gets

  pub no_own : (x : Item) → is_helper x ≡ true → old ≡ new → Gets (IsNumberOf eq g (λ k. (is_helper x ≡ false) × (k ≡ x))) old new
  no_own x helper same = gets_none _ old new same (λ n of. both_ways (is_helper x) of.1.0 helper)

  pub no_ghost : (x : Item) → ghost_of x ≡ None → old ≡ new → Gets (IsNumberOf eq g (λ k. ghost_of x ≡ Some k)) old new
  no_ghost x none same = gets_none _ old new same (λ n of. let odd : None ≡ Some of.0 = sym none ∙ of.1 in cc)

ghost_from : (x k : Item) (b : Bool) → may_be_ghost x ≡ b → ghost_of x ≡ Some k → (may_be_ghost x ≡ true) × (k ≡ ghost_key x)
ghost_from x k true e is = (e, (let both : Some (ghost_key x) ≡ Some k = sym (cond-true (may_be_ghost x) (Some (ghost_key x)) None e) ∙ is in cc))
ghost_from x k false e is = absurd (let odd : None ≡ Some k = sym (cond-false (may_be_ghost x) (Some (ghost_key x)) None e) ∙ is in cc)

-- its own key, that of its ghost, and those of its topics
pub keys_of_added : (x k : Item) → ((((is_helper x ≡ false) × (k ≡ x)) ⊎ (ghost_of x ≡ Some k)) ⊎ IsKeyWhere (IsHome x) k) ↔ IsAddedKey x k
keys_of_added x k = (to, from)
  where
    to : (((is_helper x ≡ false) × (k ≡ x)) ⊎ (ghost_of x ≡ Some k)) ⊎ IsKeyWhere (IsHome x) k → IsAddedKey x k
    to (inl (inl own)) = of_item own.0 own.1
    to (inl (inr is)) = let both = ghost_from x k (may_be_ghost x) refl is in of_ghost both.0 both.1
    to (inr topic) = of_topic topic.0 topic.1 topic.2

    from : IsAddedKey x k → (((is_helper x ≡ false) × (k ≡ x)) ⊎ (ghost_of x ≡ Some k)) ⊎ IsKeyWhere (IsHome x) k
    from (of_item other e) = inl (inl (other, e))
    from (of_ghost may e) = inl (inr (cond-true (may_be_ghost x) (Some (ghost_key x)) None may ∙ ap Some (sym e)))
    from (of_topic t home e) = inr (t, home, e)

-- the numbers of the topics under which an item stands
pub homes_found : (eq : Item → Item → Bool) (g : Graph Item) (x : Item) (keys topics : List Item) (old new : List ℕ) → keys ≡ topics → AreAll (IsKeyWhere (IsHome x)) topics → Gets (IsNumberOf eq g (Contains keys)) old new → Gets (IsNumberOf eq g (IsKeyWhere (IsHome x))) old new
homes_found eq g x keys topics old new same are gets = numbers_alike eq g old new (Contains topics) (IsKeyWhere (IsHome x)) are.members (subst (λ (l : List Item). Gets (IsNumberOf eq g (Contains l)) old new) same gets)

-- the numbers of keys of two kinds, one after the other
pub numbers_both : (eq : Item → Item → Bool) (g : Graph Item) (P Q : Item → Type 0) (old mid new : List ℕ) → Gets (IsNumberOf eq g P) old mid → Gets (IsNumberOf eq g Q) mid new → Gets (IsNumberOf eq g (λ k. P k ⊎ Q k)) old new
numbers_both eq g P Q old mid new one two =
    gets_alike (λ n. IsNumberOf eq g P n ⊎ IsNumberOf eq g Q n) (IsNumberOf eq g (λ k. P k ⊎ Q k)) old new (λ n. (
      λ h. elim h [ inl of ↦ (of.0, inl of.1, of.2) | inr of ↦ (of.0, inr of.1, of.2) ],
      λ of. elim of.1 [ inl p ↦ inl (of.0, p, of.2) | inr q ↦ inr (of.0, q, of.2) ],
    )) (gets_both (IsNumberOf eq g P) (IsNumberOf eq g Q) old mid new one two)

pub added_found : (eq : Item → Item → Bool) (g : Graph Item) (x : Item) (old own ghost_ new : List ℕ) → Gets (IsNumberOf eq g (λ k. (is_helper x ≡ false) × (k ≡ x))) old own → Gets (IsNumberOf eq g (λ k. ghost_of x ≡ Some k)) own ghost_
    → Gets (IsNumberOf eq g (IsKeyWhere (IsHome x))) ghost_ new → Gets (IsNumberOf eq g (IsAddedKey x)) old new
added_found eq g x old own ghost_ new a b d =
    numbers_alike eq g old new _ (IsAddedKey x) (keys_of_added x)
    (numbers_both eq g (λ k. ((is_helper x ≡ false) × (k ≡ x)) ⊎ (ghost_of x ≡ Some k)) (IsKeyWhere (IsHome x)) old ghost_ new
    (numbers_both eq g (λ k. (is_helper x ≡ false) × (k ≡ x)) (λ k. ghost_of x ≡ Some k) old own ghost_ a b) d)

-- the numbers of all added items
pub all_added : (eq : Item → Item → Bool) (g : Graph Item) (added : List Item) (old new : List ℕ) → Gets (IsOfSome (λ x. IsNumberOf eq g (IsAddedKey x)) added) old new → Gets (IsNumberOf eq g (IsKeyOfAdded added)) old new
all_added eq g added old new gets =
    gets_alike (IsOfSome (λ x. IsNumberOf eq g (IsAddedKey x)) added) (IsNumberOf eq g (IsKeyOfAdded added)) old new (λ n. (
      λ of. (of.2.0, (of.0, of.1, of.2.1), of.2.2),
      λ of. (of.1.0, of.1.1, (of.0, of.1.2, of.2)),
    )) gets

-- ---- all that an edit begins with

pub seed_keys : (edit : Edit) (k : Item) → ((Contains edit.target k ⊎ Contains edit.changed k) ⊎ IsKeyOfAdded edit.added k) ↔ IsSeedKey edit k
seed_keys edit k = (to, from)
  where
    to : (Contains edit.target k ⊎ Contains edit.changed k) ⊎ IsKeyOfAdded edit.added k → IsSeedKey edit k
    to (inl (inl h)) = of_target h
    to (inl (inr h)) = of_changed h
    to (inr h) = of_added h

    from : IsSeedKey edit k → (Contains edit.target k ⊎ Contains edit.changed k) ⊎ IsKeyOfAdded edit.added k
    from (of_target h) = inl (inl h)
    from (of_changed h) = inl (inr h)
    from (of_added h) = inr h

pub seeds_found : (eq : Item → Item → Bool) (g : Graph Item) (edit : Edit) (begin one two all : List ℕ) → begin ≡ [] → Gets (IsNumberOf eq g (Contains edit.target)) begin one → Gets (IsNumberOf eq g (Contains edit.changed)) one two
    → Gets (IsNumberOf eq g (IsKeyOfAdded edit.added)) two all → (n : ℕ) → Contains all n ↔ IsNumberOf eq g (IsSeedKey edit) n
seeds_found eq g edit begin one two all none a b d n =
    let gets = numbers_alike eq g begin all _ (IsSeedKey edit) (seed_keys edit)
    (numbers_both eq g (λ k. Contains edit.target k ⊎ Contains edit.changed k) (IsKeyOfAdded edit.added) begin two all (numbers_both eq g (Contains edit.target) (Contains edit.changed) begin one two a b) d) in (
      λ h. elim ((gets n).0 h) [ inl before ↦ absurd (Contains-nil n (subst (λ l. Contains l n) none before)) | inr of ↦ of ],
      λ of. (gets n).1 (inr of),
    )

-- the same, of lists that are lent
pub seeds_lent : (eq : Item → Item → Bool) (g : Graph Item) (edit : Edit) (begin one two all : List ℕ) (target changed added : List Item) → begin ≡ [] → target ≡ edit.target → changed ≡ edit.changed → added ≡ edit.added
    → Gets (IsNumberOf eq g (Contains target)) begin one → Gets (IsNumberOf eq g (Contains changed)) one two → Gets (IsNumberOf eq g (IsKeyOfAdded added)) two all → (n : ℕ) → Contains all n ↔ IsNumberOf eq g (IsSeedKey edit) n
seeds_lent eq g edit begin one two all target changed added none t d e a b h =
    seeds_found eq g edit begin one two all none (subst (λ (l : List Item). Gets (IsNumberOf eq g (Contains l)) begin one) t a) (subst (λ (l : List Item). Gets (IsNumberOf eq g (Contains l)) one two) d b)
    (subst (λ (l : List Item). Gets (IsNumberOf eq g (IsKeyOfAdded l)) two all) e h)

-- ---- topics of one item

IsOneOf : Topic → Topic → Topic → Type 0
IsOneOf a b t = (t ≡ a) ⊎ (t ≡ b)

nowhere : Topic
nowhere = authorization []

two_homes : (x : Item) → (a b : Topic) × ((t : Topic) → IsHomeOf x t → IsOneOf a b t)
unfolding IsOneOf nowhere
two_homes (item.User name) = (authorization name, nowhere, λ t e. inl e)
two_homes (item.Role name) = (authorization name, role_named name, λ t e. e)
two_homes (item.Schema x) = (schema x.name, nowhere, λ t e. inl e)
two_homes (item.Table o) = (table (path_of o), base_table o, λ t e. e)
two_homes (item.View v) = (table (path_of v.view), nowhere, λ t e. inl e)
two_homes (item.Column c) = (columns c.table, column (path_of c.table) c.name, λ t e. e)
two_homes (item.Domain d) = (domain (path_of d.domain), nowhere, λ t e. inl e)
two_homes (item.Key k) = (key k.name, nowhere, λ t e. inl e)
two_homes (item.Routine r) = (routine (path_of r.routine), nowhere, λ t e. inl e)
two_homes (item.RoleAuth h) = (edges h.grantee, nowhere, λ t e. inl e)
two_homes (item.RoleAdmin h) = (admins h.role h.grantee, nowhere, λ t e. inl e)
two_homes (item.Held r) = (supply r.need r.grantee, nowhere, λ t e. inl e)
two_homes (item.Grantable r) = (supply r.need r.grantee, nowhere, λ t e. inl e)
two_homes _ = (nowhere, nowhere, λ t e. absurd e)

-- an item comes before no equal one
not_before : (x y : Item) → x ≡ y → item_cmp x y ≡ Less → ⊥
not_before x y e less = let same : item_cmp x y ≡ Equal = subst (λ z. item_cmp x z ≡ Equal) e (same_key x) in let odd : Less ≡ Equal = sym less ∙ same in cc

three : (a b x y z : Item) → (x ≡ a) ⊎ (x ≡ b) → (y ≡ a) ⊎ (y ≡ b) → (z ≡ a) ⊎ (z ≡ b) → ((x ≡ y) ⊎ (x ≡ z)) ⊎ (y ≡ z)
three a b x y z (inl e) (inl f) h = inl (inl (e ∙ sym f))
three a b x y z (inr e) (inr f) h = inl (inl (e ∙ sym f))
three a b x y z (inl e) (inr f) (inl h) = inl (inr (e ∙ sym h))
three a b x y z (inl e) (inr f) (inr h) = inr (f ∙ sym h)
three a b x y z (inr e) (inl f) (inl h) = inr (f ∙ sym h)
three a b x y z (inr e) (inl f) (inr h) = inl (inr (e ∙ sym h))

module _ (items : List Item) (a b : Item) (order : IsInOrder items) (all : (y : Item) → Contains items y → (y ≡ a) ⊎ (y ≡ b)) where
  abbrev at : ℕ → Item
  at i = get_or items i a

  which : (i : ℕ) → i < length items → (at i ≡ a) ⊎ (at i ≡ b)
  which i within = all (get_or items i a) (Contains-get_or items i a within)

  few_in_order : length items ≤ 2
  few_in_order = elim (cases_lt 2 (length items)) [
    | inr few ↦ few
    | inl more ↦ absurd (elim (three a b (at 0) (at 1) (at 2) (which 0 (omega (arith, more))) (which 1 (omega (arith, more))) (which 2 more)) [
      | inl first_same ↦ (elim first_same [
        | inl e ↦ not_before (at 0) (at 1) e (order 0 1 a (omega arith) (omega (arith, more)))
        | inr e ↦ not_before (at 0) (at 2) e (order 0 2 a (omega arith) more)
      ])
      | inr e ↦ not_before (at 1) (at 2) e (order 1 2 a (omega arith) more)
    ])
  ]

-- an item stands under at most two topics
pub at_most_two : (x : Item) (keys : List Item) → AreAll (IsKeyWhere (IsHome x)) keys → length keys ≤ 2
unfolding IsOneOf
at_most_two x keys are =
    let two = two_homes x in
    few_in_order keys (topic_key two.0) (topic_key two.1) are.order (λ y h.
    let of = (are.members y).0 h in
    elim (two.2 of.0 ((homes_are x of.0).1 of.1)) [ inl e ↦ inl (of.2 ∙ ap topic_key e) | inr e ↦ inr (of.2 ∙ ap topic_key e) ])

-- ---- what is reached

reached_alike : (dependents : List (List ℕ)) (from other : List ℕ) → ((n : ℕ) → Contains from n → Contains other n) → (n : ℕ) → IsReached dependents from n → IsReached dependents other n
reached_alike dependents from other into n (first h) = first (into n h)
reached_alike dependents from other into n (further {m} r h) = further (reached_alike dependents from other into m r) h

-- what is reached from the same numbers in another list
pub same_reached : (dependents : List (List ℕ)) (from other all : List ℕ) → ((n : ℕ) → Contains from n ↔ Contains other n) → AreReached dependents from all → AreReached dependents other all
same_reached dependents from other all same are = record {
  exactly = λ n. (
    λ h. reached_alike dependents from other (λ m i. (same m).0 i) n ((are.exactly n).0 h),
    λ r. (are.exactly n).1 (reached_alike dependents other from (λ m i. (same m).1 i) n r),
  );
  once = are.once;
}

pub spread_of : (g : Graph Item) (edit : Edit) (marks : List ℕ) → AreTouched same.ghosts.eq g edit marks → HaveSpread g edit marks
spread_of g edit marks are = record {
  begun = λ k is n has. (are.reached.exactly n).1 (first ((are.seeds n).1 (k, is, (k, has, same_itself k))));
  closed = λ m n h depends. (are.reached.exactly m).1 (further ((are.reached.exactly n).0 h) depends);
}

module _ (g : Graph Item) (edit : Edit) (lent from : List ℕ) (value : lent ≡ from) (seeds : (n : ℕ) → Contains from n ↔ IsNumberOf same.ghosts.eq g (IsSeedKey edit) n) where
  pub seeds_are_nodes : (n : ℕ) → Contains lent n → IsNode g n
  seeds_are_nodes n h = let of = ((seeds n).0 (subst (λ (l : List ℕ). Contains l n) value h)).2 in (of.0, of.1)

  -- what is reached from the seeds is touched
  pub are_touched : (marks : List ℕ) → AreReached g.dependents lent marks → AreTouched same.ghosts.eq g edit marks
  are_touched marks are = record { from = from; seeds = seeds; reached = subst (λ (l : List ℕ). AreReached g.dependents l marks) value are }

  -- what is touched is reached from them
  pub touched_from : (all : List ℕ) → AreTouched same.ghosts.eq g edit all → AreReached g.dependents lent all
  touched_from all are =
      subst (λ (l : List ℕ). AreReached g.dependents l all) (sym value)
      (same_reached g.dependents are.from from all (λ n. ((λ h. (seeds n).1 ((are.seeds n).0 h)), (λ h. (are.seeds n).1 ((seeds n).0 h)))) are.reached)
