-- The links of marked numbers, counted from either end.
use Rattle.std.proofs.Common.{◌≡◌, ◌⊎◌, inl, inr, ℕ, ◌+◌, ◌<◌, ◌≤◌, Bool, List, [], ◌∷◌, ◌++◌, length, Some, refl, sym, ◌∙◌, ap, subst, arith}
use Rattle.std.specs.Prelude.{◌*◌, map}
use Rattle.std.specs.List.{Contains, flat_map, sum_by}
use Rattle.std.proofs.lemmas.List.{get_or_default, length-append, length-map}
use Rattle.std.proofs.lemmas.List.Elements.{Contains-append_left, Contains-append_right}
use Rattle.std.proofs.lemmas.List.Sums.{sum_by-cons}
use Rattle.std.proofs.lemmas.Option.{slice_get-get_or}
use Rattle.finite_chains.specs.Chains.{IsWithin}
use Rattle.item_index.specs.Graphs.{Graph, IsWhole}
use Rattle.item_index.specs.Shelves.{list_at, times}
use Rattle.item_index.proofs.Times.{hit-same, place_of, times-cons, times-there}
use Rattle.link_marks.specs.Reached.{AreReached, IsReached, first, further, look_ups}
use Rattle.plain_needs.proofs.FlatMembers.{Contains-flat_map}
use Rattle.look_up_bound.proofs.Counting.{Contains-from_flat_map, Contains-from_map, Contains-map, IsOnce, length-at_most, no_longer, once, once_append, once_map}

-- ---- numbers in lists

often : (xs : List ℕ) (x : ℕ) → Contains xs x → 0 < times x xs
often xs x h = times-there x h.0 xs (slice_get-get_or xs h.0 x h.1 ∙ ap Some h.2)

-- a list that has nothing twice
pub single_once : (xs : List ℕ) → ((x : ℕ) → times x xs ≤ 1) → IsOnce xs
single_once [] few = tt
single_once (x ∷ xs) few = (
  λ h. absurd (omega (arith, few x, times-cons x x xs, hit-same x, often xs x h)),
  single_once xs (λ y. omega (arith, few y, times-cons y x xs)),
)

-- ---- pairs

abbrev to_all : (ℕ → List ℕ) → ℕ → List (ℕ × ℕ)
to_all f m = map (λ n. (n, m)) (f m)

abbrev from_all : (ℕ → List ℕ) → ℕ → List (ℕ × ℕ)
from_all f n = map (λ m. (n, m)) (f n)

of_to : (f : ℕ → List ℕ) (xs : List ℕ) (p : ℕ × ℕ) → Contains (flat_map (to_all f) xs) p → Contains xs p.1 × Contains (f p.1) p.0
of_to f xs p h =
    let one = Contains-from_flat_map (to_all f) xs p h in
    let at = Contains-from_map (λ (n : ℕ). (n, one.0)) (f one.0) p one.2 in
    let e : one.0 ≡ p.1 = ap (λ (q : ℕ × ℕ). q.1) at.2 in
    let d : at.0 ≡ p.0 = ap (λ (q : ℕ × ℕ). q.0) at.2 in
    (subst (Contains xs) e one.1, subst (Contains (f p.1)) d (subst (λ m. Contains (f m) at.0) e at.1))

in_to : (f : ℕ → List ℕ) (xs : List ℕ) (n m : ℕ) → Contains xs m → Contains (f m) n → Contains (flat_map (to_all f) xs) (n, m)
in_to f xs n m h is = Contains-flat_map (to_all f) xs m (n, m) h (Contains-map (λ (k : ℕ). (k, m)) (f m) n is)

in_from : (f : ℕ → List ℕ) (xs : List ℕ) (n m : ℕ) → Contains xs n → Contains (f n) m → Contains (flat_map (from_all f) xs) (n, m)
in_from f xs n m h is = Contains-flat_map (from_all f) xs n (n, m) h (Contains-map (λ (k : ℕ). (n, k)) (f n) m is)

to_once : (f : ℕ → List ℕ) (xs : List ℕ) → IsOnce xs → ((m : ℕ) → IsOnce (f m)) → IsOnce (flat_map (to_all f) xs)
to_once f [] o each = tt
to_once f (m ∷ xs) o each =
    once_append (to_all f m) (flat_map (to_all f) xs) (once_map (λ (n : ℕ). (n, m)) (f m) (λ a b e. ap (λ (q : ℕ × ℕ). q.0) e) (each m)) (to_once f xs o.1 each)
    (λ p here later.
    let at = Contains-from_map (λ (n : ℕ). (n, m)) (f m) p here in
    let e : p.1 ≡ m = sym (ap (λ (q : ℕ × ℕ). q.1) at.2) in
    o.0 (subst (Contains xs) e (of_to f xs p later).0))

of_from : (f : ℕ → List ℕ) (xs : List ℕ) (p : ℕ × ℕ) → Contains (flat_map (from_all f) xs) p → Contains xs p.0 × Contains (f p.0) p.1
of_from f xs p h =
    let one = Contains-from_flat_map (from_all f) xs p h in
    let at = Contains-from_map (λ (n : ℕ). (one.0, n)) (f one.0) p one.2 in
    let e : one.0 ≡ p.0 = ap (λ (q : ℕ × ℕ). q.0) at.2 in
    let d : at.0 ≡ p.1 = ap (λ (q : ℕ × ℕ). q.1) at.2 in
    (subst (Contains xs) e one.1, subst (Contains (f p.0)) d (subst (λ m. Contains (f m) at.0) e at.1))

from_once : (f : ℕ → List ℕ) (xs : List ℕ) → IsOnce xs → ((m : ℕ) → IsOnce (f m)) → IsOnce (flat_map (from_all f) xs)
from_once f [] o each = tt
from_once f (m ∷ xs) o each =
    once_append (from_all f m) (flat_map (from_all f) xs) (once_map (λ (n : ℕ). (m, n)) (f m) (λ a b e. ap (λ (q : ℕ × ℕ). q.1) e) (each m)) (from_once f xs o.1 each)
    (λ p here later.
    let at = Contains-from_map (λ (n : ℕ). (m, n)) (f m) p here in
    let e : p.0 ≡ m = sym (ap (λ (q : ℕ × ℕ). q.0) at.2) in
    o.0 (subst (Contains xs) e (of_from f xs p later).0))

length-to : (f : ℕ → List ℕ) (xs : List ℕ) → length (flat_map (to_all f) xs) ≡ sum_by (λ n. length (f n)) xs
length-to f [] = refl
length-to f (m ∷ xs) = omega (arith, length-append (to_all f m) (flat_map (to_all f) xs), length-map {B = ℕ × ℕ} (f m) (λ (n : ℕ). (n, m)), length-to f xs, sum_by-cons (λ n. length (f n)) m xs)

length-from : (f : ℕ → List ℕ) (xs : List ℕ) → length (flat_map (from_all f) xs) ≡ sum_by (λ n. length (f n)) xs
length-from f [] = refl
length-from f (m ∷ xs) = omega (arith, length-append (from_all f m) (flat_map (from_all f) xs), length-map {B = ℕ × ℕ} (f m) (λ (n : ℕ). (m, n)), length-from f xs, sum_by-cons (λ n. length (f n)) m xs)

sum_at_most : (f : ℕ → ℕ) (b : ℕ) (xs : List ℕ) → ((n : ℕ) → f n ≤ b) → sum_by f xs ≤ b * length xs
sum_at_most f b [] each = omega arith
sum_at_most f b (x ∷ xs) each = omega (arith, sum_at_most f b xs each, each x, sum_by-cons f x xs)

pub one_more : (f : ℕ → ℕ) (xs : List ℕ) → sum_by (λ n. 1 + f n) xs ≡ length xs + sum_by f xs
one_more f [] = refl
one_more f (x ∷ xs) = omega (arith, one_more f xs, sum_by-cons f x xs, sum_by-cons (λ n. 1 + f n) x xs)

-- ---- marked numbers

-- Each marked number is a topic or another; a topic rests on none but others, which name it among their own topics, two at most; it is reached by way of
-- one of these, or one of the numbers that are begun with. No link stands twice.
pub record AreSorted {K : Type 0} (g : Graph K) (from marks own topics begun : List ℕ) (tops : ℕ → List ℕ) : Type 0 where
  pub single : (m n : ℕ) → times n (list_at g.rests m) ≤ 1
  pub sorted : (n : ℕ) → Contains marks n → Contains own n ⊎ Contains topics n
  pub marked : (n : ℕ) → Contains topics n → Contains marks n
  pub apart : (n : ℕ) → Contains own n → Contains topics n → ⊥
  pub topics_once : IsOnce topics
  pub begins : (n : ℕ) → Contains topics n → Contains from n → Contains begun n
  pub under : (m n : ℕ) → Contains topics m → Contains (list_at g.rests m) n → Contains marks n → Contains own n × Contains (tops n) m
  pub two : (n : ℕ) → length (tops n) ≤ 2

-- what rests on a number, the other way round
pub back : {K : Type 0} (eq : K → K → Bool) (g : Graph K) → IsWhole eq g → (m n : ℕ) → Contains (list_at g.dependents m) n → Contains (list_at g.rests n) m
back eq g whole m n h =
    let some : 0 < times m (list_at g.rests n) = omega (arith, often (list_at g.dependents m) n h, whole.mirrored n m) in
    let at = place_of m (list_at g.rests n) some in
    (at.0, at.1, get_or_default (list_at g.rests n) at.0 m 0 at.1 ∙ at.2)

module _ {K : Type 0} (eq : K → K → Bool) (g : Graph K) (whole : IsWhole eq g) (from marks own topics begun : List ℕ) (tops : ℕ → List ℕ) (reached : AreReached g.dependents from marks) (sorts : AreSorted g from marks own topics begun tops) where
  abbrev rests : ℕ → List ℕ
  rests n = list_at g.rests n

  abbrev dependents : ℕ → List ℕ
  dependents n = list_at g.dependents n

  single_dependents : (m : ℕ) → IsOnce (dependents m)
  single_dependents m = single_once (dependents m) (λ n. omega (arith, sorts.single n m, whole.mirrored n m))

  pub closed : (m n : ℕ) → Contains marks m → Contains (dependents m) n → Contains marks n
  closed m n h is = (reached.exactly n).1 (further ((reached.exactly m).0 h) is)

  -- each link to a marked number is one of another's, or one of a topic to another
  from_either_end : IsWithin (flat_map (to_all dependents) marks) (flat_map (from_all rests) own ++ flat_map (to_all tops) own)
  from_either_end p h =
      let link = of_to dependents marks p h in
      let rest = back eq g whole p.1 p.0 link.1 in
      elim (sorts.sorted p.0 (closed p.1 p.0 link.0 link.1)) [
        | inl o ↦ Contains-append_left (flat_map (from_all rests) own) (flat_map (to_all tops) own) p (in_from rests own p.0 p.1 o rest)
        | inr t ↦ (let under = sorts.under p.0 p.1 t rest link.0 in Contains-append_right (flat_map (from_all rests) own) (flat_map (to_all tops) own) p (in_to tops own p.0 p.1 under.0 under.1))
      ]

  pub links_few : sum_by (λ n. length (dependents n)) marks ≤ sum_by (λ n. length (rests n)) own + 2 * length own
  links_few =
      let pairs = flat_map (to_all dependents) marks in
      let mine = flat_map (from_all rests) own in
      let theirs = flat_map (to_all tops) own in
      omega (
        arith,
        no_longer pairs (mine ++ theirs) (to_once dependents marks (once marks reached.once) single_dependents) from_either_end,
        length-append mine theirs,
        length-to dependents marks,
        length-from rests own,
        length-to tops own,
        sum_at_most (λ n. length (tops n)) 2 own sorts.two,
      )

  topic_from : (n : ℕ) → Contains topics n → IsReached g.dependents from n → Contains begun n ⊎ Contains (flat_map tops own) n
  topic_from n t (first h) = inl (sorts.begins n t h)
  topic_from n t (further {m} way h) =
      let under = sorts.under n m t (back eq g whole m n h) ((reached.exactly m).1 way) in
      inr (Contains-flat_map tops own m n under.0 under.1)

  pub topics_few : length topics ≤ length begun + 2 * length own
  topics_few =
      let within : IsWithin topics (begun ++ flat_map tops own) = λ n t. elim (topic_from n t ((reached.exactly n).0 (sorts.marked n t))) [
        | inl f ↦ Contains-append_left begun (flat_map tops own) n f
        | inr o ↦ Contains-append_right begun (flat_map tops own) n o
      ] in
      omega (arith, no_longer topics (begun ++ flat_map tops own) sorts.topics_once within, length-append begun (flat_map tops own), length-at_most tops 2 own sorts.two)

  pub marks_few : length marks ≤ length own + length topics
  marks_few =
      let within : IsWithin marks (own ++ topics) = λ n h. elim (sorts.sorted n h) [ inl o ↦ Contains-append_left own topics n o | inr t ↦ Contains-append_right own topics n t ] in
      omega (arith, no_longer marks (own ++ topics) (once marks reached.once) within, length-append own topics)

  -- of what some topics rest on, what is marked
  pub some_rests : (sub : ℕ → List ℕ) (some : List ℕ) → IsOnce some → IsWithin some topics → ((m : ℕ) → IsOnce (sub m)) → ((m n : ℕ) → Contains some m → Contains (sub m) n → Contains (rests m) n × Contains marks n) → sum_by (λ n. length (sub n)) some ≤ 2 * length own
  some_rests sub some o of_topics each all =
      let pairs = flat_map (from_all sub) some in
      let theirs = flat_map (to_all tops) own in
      let within : IsWithin pairs theirs = λ p h.
      let link = of_from sub some p h in
      let rest = all p.0 p.1 link.0 link.1 in
      let under = sorts.under p.0 p.1 (of_topics p.0 link.0) rest.0 rest.1 in
      in_to tops own p.0 p.1 under.0 under.1 in
      omega (arith, no_longer pairs theirs (from_once sub some o each) within, length-from sub some, length-to tops own, sum_at_most (λ n. length (tops n)) 2 own sorts.two)

  -- what some topics rest on, where all of it is marked
  pub rests_of_topics : (some : List ℕ) → IsOnce some → IsWithin some topics → ((m n : ℕ) → Contains some m → Contains (rests m) n → Contains marks n) → sum_by (λ n. length (rests n)) some ≤ 2 * length own
  rests_of_topics some o of_topics all = some_rests rests some o of_topics (λ m. single_once (rests m) (sorts.single m)) (λ m n h rest. (rest, all m n h rest))

  -- what rests on topics
  pub dependents_of_topics : sum_by (λ n. length (dependents n)) topics ≤ sum_by (λ n. length (rests n)) own
  dependents_of_topics =
      let pairs = flat_map (to_all dependents) topics in
      let mine = flat_map (from_all rests) own in
      let within : IsWithin pairs mine = λ p h.
      let link = of_to dependents topics p h in
      let rest = back eq g whole p.1 p.0 link.1 in
      let marked = sorts.marked p.1 link.0 in
      elim (sorts.sorted p.0 (closed p.1 p.0 marked link.1)) [
        | inl o ↦ in_from rests own p.0 p.1 o rest
        | inr t ↦ absurd (sorts.apart p.1 (sorts.under p.0 p.1 t rest marked).0 link.0)
      ] in
      omega (arith, no_longer pairs mine (to_once dependents topics sorts.topics_once single_dependents) within, length-to dependents topics, length-from rests own)

  pub ticks_few : sum_by (look_ups g.dependents) marks ≤ length begun + sum_by (λ n. length (rests n)) own + 5 * length own
  ticks_few = omega (arith, one_more (λ n. length (dependents n)) marks, links_few, marks_few, topics_few)
