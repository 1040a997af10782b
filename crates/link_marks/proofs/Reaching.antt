-- How far marks have spread.
use Rattle.std.proofs.Common.{◌≡◌, ◌⊎◌, ℕ, Bool, ◌+◌, ◌<◌, ◌≤◌, List, [], ◌∷◌, ◌++◌, length, get_or, take, Option, Some, None, slice_get, sym, ◌∙◌, ap, subst, inl, inr, arith}
use Rattle.std.specs.List.{Contains, sum_by}
use Rattle.std.proofs.lemmas.Bool.{eqb-true}
use Rattle.std.proofs.lemmas.Bool.Decides.{Decides-eqb}
use Rattle.std.proofs.lemmas.List.{length-append, take-append-le, take_all, take_more}
use Rattle.std.proofs.lemmas.List.Elements.{Contains-append_cases, Contains-append_left, Contains-push_cases}
use Rattle.link_marks.proofs.Places.{Contains-from_take}
use Rattle.std.proofs.lemmas.List.Sums.{sum_by_push}
use Rattle.std.proofs.lemmas.Map.Made.{IsDistinct-from_AllPairs}
use Rattle.std.proofs.lemmas.Map.Steps.{length-le_from_distinct_below}
use Rattle.std.proofs.lemmas.Map.Views.{Contains-from_any}
use Rattle.std.proofs.lemmas.Option.{slice_get_cases, slice_get-get_or}
use Rattle.finite_chains.proofs.Members.{Contains-nil}
use Rattle.item_index.specs.Graphs.{Graph, IsNode, IsWhole}
use Rattle.item_index.specs.Shelves.{list_at, times}
use Rattle.item_index.proofs.Mirrors.{list_there}
use Rattle.item_index.proofs.Times.{times-there}
use Rattle.link_marks.specs.Marked.{Grows}
use Rattle.link_marks.specs.Reached.{AreReached, IsReached, first, further, look_ups}
use Rattle.link_marks.proofs.MarkSums.{Differ, differ_front, no_pairs, sum_within}

-- all marks are reached, the first ones are marked, and so is what rests on those at the first places
pub record HasSpread (dependents : List (List ℕ)) (from marked : List ℕ) (at before steps : ℕ) : Type 0 where
  pub sound : (n : ℕ) → Contains marked n → IsReached dependents from n
  pub begun : (n : ℕ) → Contains from n → Contains marked n
  pub done : (m n : ℕ) → Contains (take at marked) m → Contains (list_at dependents m) n → Contains marked n
  pub once : Differ marked
  pub within : at ≤ length marked
  pub ticks : steps ≡ before + sum_by (look_ups dependents) (take at marked)

pub spread_begun : (dependents : List (List ℕ)) (from marked : List ℕ) (before : ℕ) → Grows from [] marked → HasSpread dependents from marked 0 before before
spread_begun dependents from marked before grown = record {
  sound = λ n h. first (grown.among n (subst (λ l. Contains l n) grown.behind h));
  begun = grown.there;
  done = λ m n h d. absurd (Contains-nil m h);
  once = grown.once no_pairs;
  within = omega (arith);
  ticks = omega (arith);
}

pub spread_more : (dependents : List (List ℕ)) (from marked after : List ℕ) (at before steps ticked node : ℕ) → HasSpread dependents from marked at before steps → at < length marked → node ≡ get_or marked at node
    → Grows (list_at dependents node) marked after → ticked ≡ steps + look_ups dependents node → HasSpread dependents from after (at + 1) before ticked
spread_more dependents from marked after at before steps ticked node spread within is grown ticks = record {
  sound = λ n h. elim (Contains-append_cases marked grown.more n (subst (λ l. Contains l n) grown.behind h)) [
    | inl old ↦ spread.sound n old
    | inr new ↦ further (spread.sound node here) (grown.among n new)
  ];
  begun = λ n h. kept n (spread.begun n h);
  done = λ m n h d. elim (Contains-push_cases (take at marked) node m (subst (λ l. Contains l m) front h)) [
    | inl old ↦ kept n (spread.done m n old d)
    | inr same ↦ grown.there n (subst (λ k. Contains (list_at dependents k) n) (sym same) d)
  ];
  once = grown.once spread.once;
  within = omega (arith, within, longer);
  ticks = omega (arith, ticks, spread.ticks, sum_by_push (look_ups dependents) (take at marked) node, ap (sum_by (look_ups dependents)) front);
}
  where
    here : Contains marked node
    here = (at, within, sym is)

    kept : (n : ℕ) → Contains marked n → Contains after n
    kept n h = subst (λ l. Contains l n) (sym grown.behind) (Contains-append_left marked grown.more n h)

    front : take (at + 1) after ≡ take at marked ++ node ∷ []
    front = ap (take (at + 1)) grown.behind ∙ take-append-le (at + 1) marked grown.more (omega (arith, within)) ∙ take_more marked at node within ∙ ap (λ y. take at marked ++ y ∷ []) (sym is)

    longer : length marked ≤ length after
    longer = omega (arith, ap length grown.behind, length-append marked grown.more)

-- where all marks are done, they are what is reached
pub spread_ended : (dependents : List (List ℕ)) (from marked : List ℕ) (at before steps : ℕ) → HasSpread dependents from marked at before steps → length marked ≤ at
    → AreReached dependents from marked × (steps ≡ before + sum_by (look_ups dependents) marked)
spread_ended dependents from marked at before steps spread all = (
  record { exactly = λ n. (λ h. spread.sound n h, λ r. reached r); once = spread.once },
  spread.ticks ∙ ap (λ l. before + sum_by (look_ups dependents) l) (take_all at marked all),
)
  where
    reached : {n : ℕ} → IsReached dependents from n → Contains marked n
    reached {n} (first h) = spread.begun n h
    reached {n} (further {m} r d) = spread.done m n (subst (λ l. Contains l m) (sym (take_all at marked all)) (reached r)) d

-- what rests on a number is a node
pub dependents_are_nodes : {K : Type 0} (eq : K → K → Bool) (g : Graph K) (m n : ℕ) → IsWhole eq g → Contains (list_at g.dependents m) n → IsNode g n
dependents_are_nodes {K} eq g m n whole h = by (slice_get_cases g.keys n).1
  where
    often : 0 < times m (list_at g.rests n)
    often = subst (λ k. 0 < k) (sym (whole.mirrored n m)) (times-there n h.0 (list_at g.dependents m) (slice_get-get_or (list_at g.dependents m) h.0 n h.1 ∙ ap Some h.2))

    known : (o : Option K) → slice_get g.keys n ≡ Some o → IsNode g n
    known (Some k) e = (k, e)
    known None e = absurd (omega (arith, subst (λ l. 0 < times m l) (whole.unlinked n e).0 often))

    by : ((o : Option K) × (n < length g.keys) × (slice_get g.keys n ≡ Some o) × (get_or g.keys n o ≡ o)) ⊎ ((length g.keys ≤ n) × (slice_get g.keys n ≡ None)) → IsNode g n
    by (inl there) = known there.0 there.2
    by (inr past) = absurd (omega (arith, past.0, whole.rests_len, list_there g.rests n m often))

none_some : {X : Type 0} (o : Option X) (x : X) → o ≡ None → o ≡ Some x → ⊥
none_some o x a b = cc

node_below : {K : Type 0} (g : Graph K) (q : ℕ) → IsNode g q → q < length g.keys
node_below {K} g q node = elim ((slice_get_cases g.keys q).1) [ inl there ↦ there.1 | inr past ↦ absurd (none_some (slice_get g.keys q) (Some node.0) past.1 node.1) ]

-- distinct nodes are no more than there are numbers
pub nodes_within : {K : Type 0} (g : Graph K) (marked : List ℕ) → Differ marked → ((n : ℕ) → Contains marked n → IsNode g n) → length marked ≤ length g.keys
nodes_within {K} g marked differ nodes = length-le_from_distinct_below marked (length g.keys) (IsDistinct-from_AllPairs Decides-eqb marked differ)
    (λ q h. node_below g q (nodes q (Contains-from_any (λ x y e. eqb-true x y e) q marked h)))

-- what joins the marks is a node
pub marks_are_nodes : {K : Type 0} (eq : K → K → Bool) (g : Graph K) (node : ℕ) (marked after : List ℕ) → IsWhole eq g → ((n : ℕ) → Contains marked n → IsNode g n) → Grows (list_at g.dependents node) marked after
    → (n : ℕ) → Contains after n → IsNode g n
marks_are_nodes eq g node marked after whole nodes grown n h = elim (Contains-append_cases marked grown.more n (subst (λ l. Contains l n) grown.behind h)) [
  | inl old ↦ nodes n old
  | inr new ↦ dependents_are_nodes eq g node n whole (grown.among n new)
]

-- what was looked up where memory ran out is no more than all that is reached
pub cost_so_far : (dependents : List (List ℕ)) (from marked all : List ℕ) (at before steps ticked node : ℕ) → HasSpread dependents from marked at before steps → at < length marked → node ≡ get_or marked at node
    → ticked ≤ steps + look_ups dependents node → AreReached dependents from all → ticked ≤ before + sum_by (look_ups dependents) all
cost_so_far dependents from marked all at before steps ticked node spread within is few reached =
    let fits : at + 1 ≤ length marked = omega (arith, within) in
    let front : take (at + 1) marked ≡ take at marked ++ node ∷ [] = take_more marked at node within ∙ ap (λ y. take at marked ++ y ∷ []) (sym is) in
    let part : sum_by (look_ups dependents) (take (at + 1) marked) ≤ sum_by (look_ups dependents) all =
    sum_within (look_ups dependents) (take (at + 1) marked) all (differ_front (at + 1) marked fits spread.once) (λ n h. (reached.exactly n).1 (spread.sound n (Contains-from_take (at + 1) marked n fits h))) in
    omega (arith, part, few, spread.ticks, ap (sum_by (look_ups dependents)) front, sum_by_push (look_ups dependents) (take at marked) node)

-- and where all is done
pub cost_at_end : (dependents : List (List ℕ)) (from marked all : List ℕ) (before steps : ℕ) → AreReached dependents from marked → steps ≡ before + sum_by (look_ups dependents) marked → AreReached dependents from all → steps ≤ before + sum_by (look_ups dependents) all
cost_at_end dependents from marked all before steps mine ticks reached =
    let part : sum_by (look_ups dependents) marked ≤ sum_by (look_ups dependents) all = sum_within (look_ups dependents) marked all mine.once (λ n h. (reached.exactly n).1 ((mine.exactly n).0 h)) in
    omega (arith, part, ticks)
