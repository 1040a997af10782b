-- Sums over all suspects, and over the items under the topics that one of them asks for.
use Rattle.std.proofs.Common.{◌+◌, ◌≡◌, inl, inr, ℕ, ◌≤◌, List, [], ◌∷◌, length, sym, refl, subst, ap, arith}
use Rattle.std.specs.Prelude.{◌≢◌, ◌*◌, map}
use Rattle.std.specs.List.{AllPairs, AllZip, Contains, flat_map, sum_by}
use Rattle.std.proofs.lemmas.List.{length-append, length-map}
use Rattle.std.proofs.lemmas.List.Sums.{sum_by-cons}
use Rattle.finite_chains.specs.Chains.{IsWithin}
use Rattle.finite_chains.proofs.Members.{Contains-nil, Contains-head, Contains-tail, Contains-cases, IsWithin-cons}
use Rattle.cat_items.specs.declared.item.Item.{Item}
use Rattle.cat_items.specs.declared.edit.Edit.{Edit}
use Rattle.cat_items.specs.Bound.{HasRelevant, IsBound, square}
use Rattle.cat_items.specs.Good.{IsGood}
use Rattle.cat_items.specs.Survivors.{IsSystemRight}
use Rattle.look_up_bound.specs.PossibleRights.{rights_on}
use Rattle.look_up_bound.specs.Touched.{IsPaidBy}
use Rattle.look_up_bound.proofs.RightsOn.{paid_for}
use Rattle.cascade_laws.specs.Topics.{Topic, IsUnder}
use Rattle.cascade_laws.specs.Asks.{Asks}
use Rattle.look_up_bound.proofs.AskedUnder.{under_asked}
use Rattle.plain_needs.proofs.FlatMembers.{Contains-flat_map}
use Rattle.look_up_bound.proofs.Counting.{sum_of_map, IsOnce, once, once_map, once_append, no_longer, no_more, remainder, Contains-map, Contains-from_map, Contains-from_flat_map, length-at_most}
use Rattle.look_up_bound.proofs.MoreAsked.{asks_more}
use Rattle.look_up_bound.proofs.Parts.{home_topics, at_most_two, under_home}

zip_total : (u : List Item) (cost : Item → ℕ) (xs : List Item) (ns : List ℕ) → AllZip (HasRelevant u) xs ns → ((x : Item) (n : ℕ) → Contains xs x → HasRelevant u x n → cost x ≤ 64 * square n) → sum_by cost xs ≤ 64 * sum_by square ns
zip_total u cost [] [] zip each = omega arith
zip_total u cost [] (n ∷ ns) zip each = absurd zip
zip_total u cost (x ∷ xs) [] zip each = absurd zip
zip_total u cost (x ∷ xs) (n ∷ ns) zip each =
    let rest = zip_total u cost xs ns zip.1 (λ y m is. each y m (Contains-tail x xs y is)) in
    omega (arith, rest, each x n (Contains-head x xs) zip.0, sum_by-cons cost x xs, sum_by-cons square n ns)

pub within_bound : (c edited : List Item) (edit : Edit) (bound : ℕ) (b : IsBound c edit edited bound) (cost : Item → ℕ) → ((x : Item) (n : ℕ) → Contains b.suspects x → HasRelevant b.u x n → cost x ≤ 64 * square n)
    → (xs : List Item) → AllPairs (λ x y. x ≢ y) xs → IsWithin xs b.suspects → sum_by cost xs ≤ bound
within_bound c edited edit bound b cost each xs differ within =
    omega (arith, no_more cost xs b.suspects (once xs differ) within, zip_total b.u cost b.suspects b.relevant b.counts each, b.is)

-- ---- suspects with their numbers

abbrev numbered : List Item → List ℕ → List (Item × ℕ)
numbered (x ∷ xs) (n ∷ ns) = (x, n) ∷ numbered xs ns
numbered xs ns = []

module _ (u : List Item) where
  number_of : (xs : List Item) (ns : List ℕ) → AllZip (HasRelevant u) xs ns → (x : Item) → Contains xs x → (n : ℕ) × Contains (numbered xs ns) (x, n)
  number_of [] ns zip x h = absurd (Contains-nil x h)
  number_of (y ∷ xs) [] zip x h = absurd zip
  number_of (y ∷ xs) (n ∷ ns) zip x h =
      elim (Contains-cases y xs x h) [
        | inl e ↦ (n, subst (λ z. Contains ((y, n) ∷ numbered xs ns) (z, n)) e (Contains-head (y, n) (numbered xs ns)))
        | inr later ↦ (let rest = number_of xs ns zip.1 x later in (rest.0, Contains-tail (y, n) (numbered xs ns) (x, rest.0) rest.1))
      ]

  has_number : (xs : List Item) (ns : List ℕ) → AllZip (HasRelevant u) xs ns → (p : Item × ℕ) → Contains (numbered xs ns) p → Contains xs p.0 × HasRelevant u p.0 p.1
  has_number [] ns zip p h = absurd (Contains-nil p h)
  has_number (y ∷ xs) [] zip p h = absurd zip
  has_number (y ∷ xs) (n ∷ ns) zip p h =
      elim (Contains-cases (y, n) (numbered xs ns) p h) [
        | inl e ↦ subst (λ (q : Item × ℕ). Contains (y ∷ xs) q.0 × HasRelevant u q.0 q.1) e (Contains-head y xs, zip.0)
        | inr later ↦ (let rest = has_number xs ns zip.1 p later in (Contains-tail y xs p.0 rest.0, rest.1))
      ]

  sum_of_items : (f : Item → ℕ) (xs : List Item) (ns : List ℕ) → AllZip (HasRelevant u) xs ns → sum_by (λ (p : Item × ℕ). f p.0) (numbered xs ns) ≡ sum_by f xs
  sum_of_items f [] [] zip = refl
  sum_of_items f [] (n ∷ ns) zip = absurd zip
  sum_of_items f (x ∷ xs) [] zip = absurd zip
  sum_of_items f (x ∷ xs) (n ∷ ns) zip = omega (arith, sum_of_items f xs ns zip.1, sum_by-cons f x xs, sum_by-cons (λ (p : Item × ℕ). f p.0) (x, n) (numbered xs ns))

  sum_of_numbers : (f : ℕ → ℕ) (xs : List Item) (ns : List ℕ) → AllZip (HasRelevant u) xs ns → sum_by (λ (p : Item × ℕ). f p.1) (numbered xs ns) ≡ sum_by f ns
  sum_of_numbers f [] [] zip = refl
  sum_of_numbers f [] (n ∷ ns) zip = absurd zip
  sum_of_numbers f (x ∷ xs) [] zip = absurd zip
  sum_of_numbers f (x ∷ xs) (n ∷ ns) zip = omega (arith, sum_of_numbers f xs ns zip.1, sum_by-cons f n ns, sum_by-cons (λ (p : Item × ℕ). f p.1) (x, n) (numbered xs ns))

  -- some of them with their numbers
  numbers_of : (xs : List Item) (ns : List ℕ) → AllZip (HasRelevant u) xs ns → (some : List Item) → IsWithin some xs → (ps : List (Item × ℕ)) × IsWithin ps (numbered xs ns) × (map (λ (p : Item × ℕ). p.0) ps ≡ some)
  numbers_of xs ns zip [] within = ([], λ p h. absurd (Contains-nil p h), refl)
  numbers_of xs ns zip (x ∷ some) within =
      let n = number_of xs ns zip x (within x (Contains-head x some)) in
      let rest = numbers_of xs ns zip some (λ y h. within y (Contains-tail x some y h)) in
      ((x, n.0) ∷ rest.0, IsWithin-cons (x, n.0) rest.0 (numbered xs ns) n.1 rest.1, ap (λ ys. x ∷ ys) rest.2)

once_of_map : {X Y : Type 0} (f : X → Y) (xs : List X) → IsOnce (map f xs) → IsOnce xs
once_of_map f [] o = tt
once_of_map f (x ∷ xs) o = (λ h. o.0 (Contains-map f xs x h), once_of_map f xs o.1)

sum_at_most : {X : Type 0} (f g : X → ℕ) (xs : List X) → ((x : X) → Contains xs x → f x ≤ g x) → sum_by f xs ≤ sum_by g xs
sum_at_most f g [] each = omega arith
sum_at_most f g (x ∷ xs) each = omega (arith, sum_at_most f g xs (λ y h. each y (Contains-tail x xs y h)), each x (Contains-head x xs), sum_by-cons f x xs, sum_by-cons g x xs)

sum_of_both : {X : Type 0} (f g : X → ℕ) (xs : List X) → sum_by (λ x. f x + g x) xs ≡ sum_by f xs + sum_by g xs
sum_of_both f g [] = refl
sum_of_both f g (x ∷ xs) = omega (arith, sum_of_both f g xs, sum_by-cons f x xs, sum_by-cons g x xs, sum_by-cons (λ y. f y + g y) x xs)

sum_times : {X : Type 0} (f : X → ℕ) (xs : List X) → sum_by (λ x. 64 * f x) xs ≡ 64 * sum_by f xs
sum_times f [] = omega arith
sum_times f (x ∷ xs) = omega (arith, sum_times f xs, sum_by-cons f x xs, sum_by-cons (λ y. 64 * f y) x xs)

-- the suspects with what some of them pay for
with_payers : (u : List Item) (own extra : Item → ℕ) (xs : List Item) (ns : List ℕ) → AllZip (HasRelevant u) xs ns → ((x : Item) (n : ℕ) → Contains xs x → HasRelevant u x n → own x ≤ 64 * square n)
    → (payers : List Item) → IsOnce payers → IsWithin payers xs → ((x : Item) (n : ℕ) → Contains payers x → HasRelevant u x n → own x + extra x ≤ 64 * square n) → sum_by own xs + sum_by extra payers ≤ 64 * sum_by square ns
with_payers u own extra xs ns zip each payers o within pays =
    let item : Item × ℕ → Item = λ p. p.0 in
    let most : Item × ℕ → ℕ = λ p. 64 * square p.1 in
    let some = numbers_of u xs ns zip payers within in
    let once_some : IsOnce some.0 = once_of_map item some.0 (subst IsOnce (sym some.2) o) in
    let rest = remainder some.0 (numbered xs ns) once_some some.1 in
    let of_payers = sum_at_most (λ p. own p.0 + extra p.0) most some.0 (λ p h. pays p.0 p.1 (subst (λ ys. Contains ys p.0) some.2 (Contains-map item some.0 p h)) (has_number u xs ns zip p (some.1 p h)).1) in
    let of_rest = sum_at_most (λ (p : Item × ℕ). own p.0) most rest.0 (λ p h. let number = has_number u xs ns zip p (rest.2 p h) in each p.0 p.1 number.0 number.1) in
    let extra_sum : sum_by extra payers ≡ sum_by (λ (p : Item × ℕ). extra p.0) some.0 = subst (λ ys. sum_by extra ys ≡ sum_by (λ (p : Item × ℕ). extra p.0) some.0) some.2 (sum_of_map item extra some.0) in
    omega (
      arith,
      of_payers,
      of_rest,
      extra_sum,
      sum_of_both (λ (p : Item × ℕ). own p.0) (λ (p : Item × ℕ). extra p.0) some.0,
      rest.1 (λ p. own p.0),
      rest.1 most,
      sum_of_items u own xs ns zip,
      sum_of_numbers u (λ n. 64 * square n) xs ns zip,
      sum_times square ns,
    )

-- and with what the rights cost that suspects pay for
pub all_within_bound : (c edited : List Item) (edit : Edit) (bound : ℕ) → IsGood c → (b : IsBound c edit edited bound) (own right : Item → ℕ) → ((x : Item) (n : ℕ) → Contains b.suspects x → HasRelevant b.u x n → own x ≤ 64 * square n)
    → (payers : List Item) → AllPairs (λ x y. x ≢ y) payers → IsWithin payers b.suspects → ((x : Item) (n : ℕ) → Contains payers x → HasRelevant b.u x n → own x + rights_on x * right x ≤ 64 * square n)
    → (some rights : List Item) (payer : Item → Item) → AllPairs (λ x y. x ≢ y) some → IsWithin some b.suspects → AllPairs (λ x y. x ≢ y) rights
    → ((x : Item) → Contains rights x → IsSystemRight c x × (¬ (Contains c x)) × IsPaidBy c (payer x) x × Contains payers (payer x)) → sum_by own some + sum_by (λ x. right (payer x)) rights ≤ bound
all_within_bound c edited edit bound good b own right each payers once_payers payers_within pays some rights payer differ within apart paid =
    let of_some = no_more own some b.suspects (once some differ) within in
    let of_rights = paid_for c good rights payers payer right apart paid in
    let all = with_payers b.u own (λ x. rights_on x * right x) b.suspects b.relevant b.counts each payers (once payers once_payers) payers_within pays in
    omega (arith, of_some, of_rights, all, b.is)

-- ---- pairs of a topic and an item under it

abbrev pairs_of : (Topic → List Item) → Topic → List (Topic × Item)
pairs_of under t = map (λ y. (t, y)) (under t)

abbrev homes_of : Item → List (Topic × Item)
homes_of y = map (λ t. (t, y)) (home_topics y)

first_is : (under : Topic → List Item) (topics : List Topic) (p : Topic × Item) → Contains (flat_map (pairs_of under) topics) p → Contains topics p.0 × Contains (under p.0) p.1
first_is under topics p h =
    let of_one = Contains-from_flat_map (pairs_of under) topics p h in
    let at = Contains-from_map (λ (y : Item). (of_one.0, y)) (under of_one.0) p of_one.2 in
    let e : of_one.0 ≡ p.0 = ap (λ (q : Topic × Item). q.0) at.2 in
    let f : at.0 ≡ p.1 = ap (λ (q : Topic × Item). q.1) at.2 in
    (subst (Contains topics) e of_one.1, subst (Contains (under p.0)) f (subst (λ t. Contains (under t) at.0) e at.1))

pairs_once : (under : Topic → List Item) (topics : List Topic) → IsOnce topics → ((t : Topic) → Contains topics t → IsOnce (under t)) → IsOnce (flat_map (pairs_of under) topics)
pairs_once under [] o each = tt
pairs_once under (t ∷ topics) o each =
    once_append (pairs_of under t) (flat_map (pairs_of under) topics)
    (once_map (λ (y : Item). (t, y)) (under t) (λ a b e. ap (λ (q : Topic × Item). q.1) e) (each t (Contains-head t topics)))
    (pairs_once under topics o.1 (λ s is. each s (Contains-tail t topics s is)))
    (λ p here later.
    let at = Contains-from_map (λ (y : Item). (t, y)) (under t) p here in
    let e : p.0 ≡ t = sym (ap (λ (q : Topic × Item). q.0) at.2) in
    o.0 (subst (Contains topics) e (first_is under topics p later).0))

length-pairs : (under : Topic → List Item) (topics : List Topic) → length (flat_map (pairs_of under) topics) ≡ sum_by (λ t. length (under t)) topics
length-pairs under [] = refl
length-pairs under (t ∷ topics) =
    omega (arith, length-append (pairs_of under t) (flat_map (pairs_of under) topics), length-map {B = Topic × Item} (under t) (λ (y : Item). (t, y)), length-pairs under topics, sum_by-cons (λ s. length (under s)) t topics)

pub items_few : (u c : List Item) (x : Item) (n : ℕ) (topics : List Topic) (under : Topic → List Item) → IsWithin c u → HasRelevant u x n → AllPairs (λ s t. s ≢ t) topics → ((t : Topic) → Contains topics t → AllPairs (λ y z. y ≢ z) (under t))
    → ((t : Topic) (y : Item) → Contains topics t → Contains (under t) y → Asks c x t × Contains u y × IsUnder t y) → sum_by (λ t. length (under t)) topics ≤ 2 * n
items_few u c x n topics under within h differ each asked =
    let pairs = flat_map (pairs_of under) topics in
    let homes = flat_map homes_of h.0 in
    let listed : IsWithin pairs homes = λ p is.
    let parts = first_is under topics p is in
    let a = asked p.0 p.1 parts.0 parts.1 in
    let there = (h.1.members p.1).1 (a.1, under_asked u x p.1 p.0 (asks_more c u within x p.0 a.0) a.2) in
    Contains-flat_map homes_of h.0 p.1 p there (Contains-map (λ (t : Topic). (t, p.1)) (home_topics p.1) p.0 (under_home p.0 p.1 a.2)) in
    let short = no_longer pairs homes (pairs_once under topics (once topics differ) (λ t is. once (under t) (each t is))) listed in
    let two = length-at_most homes_of 2 h.0 (λ y. omega (arith, length-map {B = Topic × Item} (home_topics y) (λ (t : Topic). (t, y)), at_most_two y)) in
    omega (arith, short, two, length-pairs under topics, h.2)
