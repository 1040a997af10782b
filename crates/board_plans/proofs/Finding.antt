-- Where a key is found, and where it is nowhere.
use Rattle.std.proofs.Common.{◌≡◌, ℕ, zero, suc, Bool, true, false, nat_eq, nat_lt, if◌then◌else◌, List, [], ◌∷◌, ◌++◌, length, map, get_or, slice_get, Some, None, append_assoc, inl, inr, refl, sym, ◌∙◌, ap, subst}
use Rattle.std.specs.Cmp.{IsEquivalence}
use Rattle.std.specs.List.{All, AllZip, Contains, fold, list_any, position, position_or_len}
use Rattle.std.proofs.lemmas.Bool.{both_ways, cases_Bool, cases_lt, cond-false, cond-true, eqb-true, le-ltb, lt-ltb}
use Rattle.std.proofs.lemmas.List.{append-nil}
use Rattle.std.proofs.lemmas.List.Elements.{Contains-append_cases, Contains-append_left, Contains-append_right}
use Rattle.std.proofs.lemmas.List.Sums.{passes_at_first}
use Rattle.std.proofs.lemmas.Map.Views.{Contains-from_any, list_any-from_Contains}
use Rattle.std.proofs.lemmas.Option.{slice_get-get_or, slice_get_within}
use Rattle.finite_chains.proofs.Members.{All-from_contains, Contains-cases, Contains-head, Contains-nil}
use Rattle.item_index.specs.Graphs.{Graph, HasKey, IsWhole, node_of}
use Rattle.item_index.proofs.NodeLemmas.{absent_from}
use Rattle.graph_steps.proofs.Numbers.{among}
use Rattle.cat_items.specs.declared.item.Item.{Item}
use Rattle.graph_changes.specs.declared.ends.End.{End}
use Rattle.graph_changes.specs.declared.ends.End.TheVariants.{Stays, Comes}
use Rattle.graph_changes.specs.Ends.{ArePlaced, IsPlaced}
use Rattle.indexmap.specs.IndexSet.{insert_key}
use Rattle.board_plans.specs.declared.arrivals.Arrival.{Arrival}
use Rattle.board_plans.specs.Ends.{AreEnds, Ends, IsEnd, IsNewKey, IsPlaceOf}
use Rattle.board_plans.proofs.Members.{Apart, apart_append, apart_of_pairs, pairs_of_apart, zip_append, zip_right, zip_weaker}

-- ---- places

position_at : {X : Type 0} (p : X → Bool) (xs : List X) (d : X) (i : ℕ) → position p xs ≡ Some i → (x : X) × (slice_get xs i ≡ Some x) × (p x ≡ true)
position_at {X} p xs d i e =
    elim (cases_lt (position_or_len p xs) (length xs)) [
      | inl lt ↦
          let at = cond-true (nat_lt (position_or_len p xs) (length xs)) (Some (position_or_len p xs)) None (lt-ltb (position_or_len p xs) (length xs) lt) in
          let here : position_or_len p xs ≡ i = cc in
          (get_or xs (position_or_len p xs) d, ap (slice_get xs) (sym here) ∙ slice_get-get_or xs (position_or_len p xs) d lt, passes_at_first p xs d lt)
      | inr ge ↦ let none = cond-false (nat_lt (position_or_len p xs) (length xs)) (Some (position_or_len p xs)) None (le-ltb (position_or_len p xs) (length xs) ge) in cc
    ]

position_some : {X : Type 0} (p : X → Bool) (xs : List X) (i : ℕ) → position p xs ≡ Some i → (x : X) × (slice_get xs i ≡ Some x) × (p x ≡ true)
position_some p [] i e = cc
position_some p (d ∷ rest) i e = position_at p (d ∷ rest) d i e

place_stays : (keys more : List Item) (place : ℕ) (j : Item) → slice_get keys place ≡ Some j → slice_get (keys ++ more) place ≡ Some j
place_stays [] more place j at = cc
place_stays (i ∷ keys) more zero j at = at
place_stays (i ∷ keys) more (suc place) j at = place_stays keys more place j at

place_kept : (eq : Item → Item → Bool) (keys : List Item) (k j : Item) (place : ℕ) → IsPlaceOf eq keys j place → IsPlaceOf eq (insert_key eq keys k) j place
place_kept eq keys k j place at =
    elim (cases_Bool (list_any (eq k) keys)) [
      | inl told ↦ subst (λ (ks : List Item). IsPlaceOf eq ks j place) (sym (ap (λ (b : Bool). if b then keys else keys ++ k ∷ []) told)) at
      | inr none ↦ subst (λ (ks : List Item). IsPlaceOf eq ks j place) (sym (ap (λ (b : Bool). if b then keys else keys ++ k ∷ []) none)) (at.0, place_stays keys (k ∷ []) place at.0 at.1, at.2)
    ]

-- the keys of arrivals, where one more is put in
pub first_more : (eq : Item → Item → Bool) (some : List Arrival) (a : Arrival) → fold (insert_key eq) [] (map (λ b. b.key) (some ++ a ∷ [])) ≡ insert_key eq (fold (insert_key eq) [] (map (λ b. b.key) some)) a.key
first_more eq some a = go [] some
  where
    go : (seen : List Item) (bs : List Arrival) → fold (insert_key eq) seen (map (λ b. b.key) (bs ++ a ∷ [])) ≡ insert_key eq (fold (insert_key eq) seen (map (λ b. b.key) bs)) a.key
    go seen [] = refl
    go seen (b ∷ bs) = go (insert_key eq seen b.key) bs

-- the places of arrivals' keys, where one more is put in
pub places_more : (eq : Item → Item → Bool) (keys : List Item) (some : List Arrival) (places : List ℕ) (a : Arrival) (place : ℕ) → AllZip (λ b p. IsPlaceOf eq keys b.key p) some places → IsPlaceOf eq (insert_key eq keys a.key) a.key place
    → AllZip (λ b p. IsPlaceOf eq (insert_key eq keys a.key) b.key p) (some ++ a ∷ []) (places ++ place ∷ [])
places_more eq keys some places a place all here =
    zip_append (λ b p. IsPlaceOf eq (insert_key eq keys a.key) b.key p) some places (a ∷ []) (place ∷ [])
    (zip_weaker (λ b p. IsPlaceOf eq keys b.key p) (λ b p. IsPlaceOf eq (insert_key eq keys a.key) b.key p) some places (λ b p at. place_kept eq keys a.key b.key p at) all) (here, tt)

module _ (eq : Item → Item → Bool) (laws : IsEquivalence eq) (g : Graph Item) (out : List ℕ) where
  -- ---- one key

  -- among those that come in
  pub found_among : (keys : List Item) (k : Item) (place : ℕ) → Some place ≡ position (eq k) keys → Ends eq g out keys keys k (Comes place)
  found_among keys k place e = record { at = position_some (eq k) keys place (sym e); keys = inl refl }

  pub not_among_keys : (keys : List Item) (k : Item) → list_any (eq k) keys ≡ false → Contains keys k → ⊥
  not_among_keys keys k none h = both_ways (list_any (eq k) keys) none (list_any-from_Contains laws k keys h)

  -- at a number that stays
  pub found_staying : (keys : List Item) (k : Item) (n : ℕ) → list_any (eq k) keys ≡ false → ((j : Item) × HasKey g n j × (eq k j ≡ true)) → list_any (nat_eq n) out ≡ false → Ends eq g out keys keys k (Stays n)
  found_staying keys k n none has stays = record {
    at = ((has.0, has.1, has.2, λ gone. both_ways (list_any (nat_eq n) out) stays (among n out gone)), not_among_keys keys k none);
    keys = inl refl;
  }

  -- nowhere
  pub gone_all : (k : Item) → node_of eq g k ≡ None → (n : ℕ) (j : Item) → HasKey g n j → eq k j ≡ true → Contains out n
  gone_all k none n j has same = absurd (both_ways (eq k j) (absent_from eq g.keys k none n j has) same)

  pub gone_one : IsWhole eq g → (k : Item) (m : ℕ) → ((j : Item) × HasKey g m j × (eq k j ≡ true)) → Contains out m → (n : ℕ) (j : Item) → HasKey g n j → eq k j ≡ true → Contains out n
  gone_one whole k m at gone n j has same = subst (Contains out) (whole.distinct m n at.0 j at.1 has (sym (laws.congr k at.0 j at.2) ∙ same)) gone

  pub gone_told : IsWhole eq g → (k : Item) (m : ℕ) → ((j : Item) × HasKey g m j × (eq k j ≡ true)) → list_any (nat_eq m) out ≡ true → (n : ℕ) (j : Item) → HasKey g n j → eq k j ≡ true → Contains out n
  gone_told whole k m at told = gone_one whole k m at (Contains-from_any (λ x y same. eqb-true x y same) m out told)

  pub found_new : (before after : List Item) (k : Item) (place : ℕ) → list_any (eq k) before ≡ false → after ≡ insert_key eq before k → IsPlaceOf eq after k place
      → ((n : ℕ) (j : Item) → HasKey g n j → eq k j ≡ true → Contains out n) → Ends eq g out before after k (Comes place)
  found_new before after k place none is at gone = record {
    at = at;
    keys = inr (is ∙ ap (λ (b : Bool). if b then before else before ++ k ∷ []) none, record { absent = not_among_keys before k none; gone = gone });
  }

  -- ---- keys that grow

  -- an end stays where keys join that are nowhere
  pub end_stays : (keys more : List Item) → ((k : Item) → Contains more k → IsNewKey eq g out keys k) → (k : Item) (end : End) → IsEnd eq g out keys k end → IsEnd eq g out (keys ++ more) k end
  end_stays keys more new k (Comes place) at = (at.0, place_stays keys more place at.0 at.1, at.2)
  end_stays keys more new k (Stays n) at = (
    at.0,
    λ h. elim (Contains-append_cases keys more k h) [
      | inl here ↦ at.1 here
      | inr there ↦ at.0.3 ((new k there).gone n at.0.0 at.0.1 at.0.2)
    ],
  )

  -- what joins for one key
  pub grown : (before after : List Item) (k : Item) (end : End) → Ends eq g out before after k end
      → (more : List Item) × (after ≡ before ++ more) × ((j : Item) → Contains more j → (j ≡ k) × IsNewKey eq g out before j) × (Apart before → Apart after)
  grown before after k end is =
      elim is.keys [
        | inl same ↦ ([], same ∙ sym (append-nil before), λ j h. absurd (Contains-nil j h), subst Apart (sym same))
        | inr joined ↦ (
          k ∷ [],
          joined.0,
          λ j h. elim (Contains-cases k [] j h) [ inl e ↦ (sym e, subst (IsNewKey eq g out before) e joined.1) | inr empty ↦ absurd (Contains-nil j empty) ],
          λ apart. subst Apart (sym joined.0) (apart_append before (k ∷ []) apart (λ h. Contains-nil k h, tt)
              (λ z here there. elim (Contains-cases k [] z there) [ inl e ↦ joined.1.absent (subst (Contains before) (sym e) here) | inr empty ↦ Contains-nil z empty ])),
        )
      ]

  -- ---- links in turn

  BothEnds : List Item → Item × Item → End × End → Type 0
  BothEnds keys l e = IsEnd eq g out keys l.0 e.0 × IsEnd eq g out keys l.1 e.1

  pub no_links : (keys : List Item) → AreEnds eq g out keys keys [] []
  no_links keys = record { more = []; behind = sym (append-nil keys); fresh = λ k h. absurd (Contains-nil k h); once = λ pairs. pairs; at = tt }

  -- an end that was found stays where more are
  pub end_kept : (before after : List Item) (wanted : List (Item × Item)) (ends : List (End × End)) → AreEnds eq g out before after wanted ends → (k : Item) (end : End) → IsEnd eq g out before k end → IsEnd eq g out after k end
  end_kept before after wanted ends are k end is = subst (λ (ks : List Item). IsEnd eq g out ks k end) (sym are.behind) (end_stays before are.more (λ x h. (are.fresh x h).1) k end is)

  -- the link l, of whose ends one is known to be at own, and the other joined
  module _ (before after : List Item) (k other : Item) (own end : End) (at : IsEnd eq g out before k own) (is : Ends eq g out before after other end) where
    joined : (more : List Item) × (after ≡ before ++ more) × ((j : Item) → Contains more j → (j ≡ other) × IsNewKey eq g out before j) × (Apart before → Apart after)
    joined = grown before after other end is

    own_end : IsEnd eq g out after k own
    own_end = subst (λ (ks : List Item). IsEnd eq g out ks k own) (sym joined.1) (end_stays before joined.0 (λ x h. (joined.2 x h).1) k own at)

    pub link_to : AreEnds eq g out before after ((k, other) ∷ []) ((own, end) ∷ [])
    link_to = record {
      more = joined.0;
      behind = joined.1;
      fresh = λ j h. let r = joined.2 j h in (((k, other), Contains-head (k, other) [], inr (sym r.0)), r.1);
      once = λ pairs. pairs_of_apart after (joined.3 (apart_of_pairs before pairs));
      at = ((own_end, is.at), tt);
    }

    pub link_from : AreEnds eq g out before after ((other, k) ∷ []) ((end, own) ∷ [])
    link_from = record {
      more = joined.0;
      behind = joined.1;
      fresh = λ j h. let r = joined.2 j h in (((other, k), Contains-head (other, k) [], inl (sym r.0)), r.1);
      once = λ pairs. pairs_of_apart after (joined.3 (apart_of_pairs before pairs));
      at = ((is.at, own_end), tt);
    }

  still_new : (before more : List Item) (k : Item) → IsNewKey eq g out (before ++ more) k → IsNewKey eq g out before k
  still_new before more k new = record { absent = λ h. new.absent (Contains-append_left before more k h); gone = new.gone }

  pub links_then : (before mid after : List Item) (some others : List (Item × Item)) (first second : List (End × End))
      → AreEnds eq g out before mid some first → AreEnds eq g out mid after others second → AreEnds eq g out before after (some ++ others) (first ++ second)
  unfolding BothEnds
  links_then before mid after some others first second one two = record {
    more = one.more ++ two.more;
    behind = two.behind ∙ ap (λ (ks : List Item). ks ++ two.more) one.behind ∙ append_assoc before one.more two.more;
    fresh = λ k h. elim (Contains-append_cases one.more two.more k h) [
      | inl old ↦ let was = one.fresh k old in ((was.0.0, Contains-append_left some others was.0.0 was.0.1, was.0.2), was.1)
      | inr new ↦
          let is = two.fresh k new in (
            (is.0.0, Contains-append_right some others is.0.0 is.0.1, is.0.2),
            still_new before one.more k (subst (λ (ks : List Item). IsNewKey eq g out ks k) one.behind is.1),
          )
    ];
    once = λ pairs. two.once (one.once pairs);
    at = zip_append (BothEnds after) some first others second (zip_weaker (BothEnds mid) (BothEnds after) some first (λ l e h. (end_kept mid after others second two l.0 e.0 h.0, end_kept mid after others second two l.1 e.1 h.1)) one.at) two.at;
  }

-- each place is one of the keys
pub ends_placed : (eq : Item → Item → Bool) (g : Graph Item) (out : List ℕ) (before keys : List Item) (wanted : List (Item × Item)) (ends : List (End × End)) → AreEnds eq g out before keys wanted ends → All (ArePlaced (length keys)) ends
ends_placed eq g out before keys wanted ends are =
    All-from_contains (ArePlaced (length keys)) ends (λ e h.
    let l = zip_right (λ l e. IsEnd eq g out keys l.0 e.0 × IsEnd eq g out keys l.1 e.1) wanted ends are.at e h in
    (placed l.0.0 e.0 l.2.0, placed l.0.1 e.1 l.2.1))
  where
    placed : (k : Item) (end : End) → IsEnd eq g out keys k end → IsPlaced (length keys) end
    placed k (Stays n) at = tt
    placed k (Comes place) at = slice_get_within keys place at.0 at.1
