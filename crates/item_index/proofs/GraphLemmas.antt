-- What each call keeps true of the keys, the free numbers and the links.
use Rattle.std.proofs.Common.{◌≡◌, ℕ, ◌+◌, ◌<◌, ◌≢◌, Bool, true, false, ◌||◌, cond, nat_eq, List, [], ◌∷◌, ◌++◌, length, map, reverse, take, get_or, slice_get, Option, Some, None, sym, ◌∙◌, ap, refl, inl, inr, subst, arith, eq-eqb}
use Rattle.std.specs.List.{slice_set, count_by, filter}
use Rattle.std.specs.Cmp.{IsEquivalence}
use Rattle.std.proofs.Math.Logic.{∥∥₁_map}
use Rattle.std.proofs.lemmas.List.{append-nil, length-set, length-append, get_or-set_same, get_or-set_other, map-append}
use Rattle.std.proofs.lemmas.List.Elements.{filter-append}
use Rattle.std.proofs.lemmas.List.Sums.{sum_by_push, sum_by-set}
use Rattle.std.proofs.lemmas.Option.{slice_get_within, get_or_from_slice_get, slice_get_past}
use Rattle.std.proofs.lemmas.Bool.{cases_eq, ne_eqb}
use Rattle.item_index.specs.Graphs.{AreLinksOf, AreWhole, cut_off, dependents_of, is_free, is_none, links_without, rests_of}
use Rattle.item_index.specs.Shelves.{list_at, times, without}
use Rattle.item_index.proofs.Places.{length-cut_off, list_at-cut_off_other, list_at-cut_off_same, list_at-push_nil, reverse-last, slice_get-push_last, slice_get-push_other, slice_get-set_other, slice_get-set_same}
use Rattle.item_index.proofs.Times.{hit-same, hit-other, times-push, times-cons, times-without_other, times-without_same, without-cons_other, without-cons_same}

-- the links of a list, with one more

pub rests_of-push_same : (links : List (ℕ × ℕ)) (n m : ℕ) → rests_of (links ++ (n, m) ∷ []) n ≡ rests_of links n ++ m ∷ []
rests_of-push_same links n m =
    ap (map (λ (l : ℕ × ℕ). l.1)) (filter-append (λ l. nat_eq l.0 n) links ((n, m) ∷ []))
    ∙ map-append (λ (l : ℕ × ℕ). l.1) (filter (λ l. nat_eq l.0 n) links) (filter (λ l. nat_eq l.0 n) ((n, m) ∷ []))
    ∙ ap (λ (b : Bool). rests_of links n ++ map (λ (l : ℕ × ℕ). l.1) (cond b ((n, m) ∷ []) [])) (eq-eqb n n refl)

pub rests_of-push_other : (links : List (ℕ × ℕ)) (n m k : ℕ) → (n ≡ k → ⊥) → rests_of (links ++ (n, m) ∷ []) k ≡ rests_of links k
rests_of-push_other links n m k ne =
    ap (map (λ (l : ℕ × ℕ). l.1)) (filter-append (λ l. nat_eq l.0 k) links ((n, m) ∷ []))
    ∙ map-append (λ (l : ℕ × ℕ). l.1) (filter (λ l. nat_eq l.0 k) links) (filter (λ l. nat_eq l.0 k) ((n, m) ∷ []))
    ∙ ap (λ (b : Bool). rests_of links k ++ map (λ (l : ℕ × ℕ). l.1) (cond b ((n, m) ∷ []) [])) (ne_eqb n k ne)
    ∙ append-nil (rests_of links k)

pub dependents_of-push_same : (links : List (ℕ × ℕ)) (n m : ℕ) → dependents_of (links ++ (n, m) ∷ []) m ≡ dependents_of links m ++ n ∷ []
dependents_of-push_same links n m =
    ap (map (λ (l : ℕ × ℕ). l.0)) (filter-append (λ l. nat_eq l.1 m) links ((n, m) ∷ []))
    ∙ map-append (λ (l : ℕ × ℕ). l.0) (filter (λ l. nat_eq l.1 m) links) (filter (λ l. nat_eq l.1 m) ((n, m) ∷ []))
    ∙ ap (λ (b : Bool). dependents_of links m ++ map (λ (l : ℕ × ℕ). l.0) (cond b ((n, m) ∷ []) [])) (eq-eqb m m refl)

pub dependents_of-push_other : (links : List (ℕ × ℕ)) (n m k : ℕ) → (m ≡ k → ⊥) → dependents_of (links ++ (n, m) ∷ []) k ≡ dependents_of links k
dependents_of-push_other links n m k ne =
    ap (map (λ (l : ℕ × ℕ). l.0)) (filter-append (λ l. nat_eq l.1 k) links ((n, m) ∷ []))
    ∙ map-append (λ (l : ℕ × ℕ). l.0) (filter (λ l. nat_eq l.1 k) links) (filter (λ l. nat_eq l.1 k) ((n, m) ∷ []))
    ∙ ap (λ (b : Bool). dependents_of links k ++ map (λ (l : ℕ × ℕ). l.0) (cond b ((n, m) ∷ []) [])) (ne_eqb m k ne)
    ∙ append-nil (dependents_of links k)

-- a link more, both ways
module _ (rests dependents : List (List ℕ)) (n m : ℕ) (n_there : n < length rests) (m_there : m < length dependents) where
  abbrev next_rests : List (List ℕ)
  next_rests = slice_set rests n (list_at rests n ++ m ∷ [])

  abbrev next_dependents : List (List ℕ)
  next_dependents = slice_set dependents m (list_at dependents m ++ n ∷ [])

  rests_here : list_at next_rests n ≡ list_at rests n ++ m ∷ []
  rests_here = get_or-set_same rests n (list_at rests n ++ m ∷ []) [] n_there

  rests_else : (k : ℕ) → k ≢ n → list_at next_rests k ≡ list_at rests k
  rests_else k ne = get_or-set_other rests n k (list_at rests n ++ m ∷ []) [] ne

  dependents_here : list_at next_dependents m ≡ list_at dependents m ++ n ∷ []
  dependents_here = get_or-set_same dependents m (list_at dependents m ++ n ∷ []) [] m_there

  dependents_else : (k : ℕ) → k ≢ m → list_at next_dependents k ≡ list_at dependents k
  dependents_else k ne = get_or-set_other dependents m k (list_at dependents m ++ n ∷ []) [] ne

  pub AreLinksOf-push : (links : List (ℕ × ℕ)) → AreLinksOf rests dependents links → AreLinksOf next_rests next_dependents (links ++ (n, m) ∷ [])
  AreLinksOf-push links are = record {
    rests_are = λ k. elim (cases_eq k n) [
      | inl e ↦ rw e (rests_here ∙ ap (λ (r : List ℕ). r ++ m ∷ []) (are.rests_are n) ∙ sym (rests_of-push_same links n m))
      | inr ne ↦ rests_else k ne ∙ are.rests_are k ∙ sym (rests_of-push_other links n m k (λ e. ne (sym e)))
    ];
    dependents_are = λ k. elim (cases_eq k m) [
      | inl e ↦ rw e (dependents_here ∙ ap (λ (r : List ℕ). r ++ n ∷ []) (are.dependents_are m) ∙ sym (dependents_of-push_same links n m))
      | inr ne ↦ dependents_else k ne ∙ are.dependents_are k ∙ sym (dependents_of-push_other links n m k (λ e. ne (sym e)))
    ];
  }

  pushed_mirrored : ((x y : ℕ) → times y (list_at rests x) ≡ times x (list_at dependents y)) → (x y : ℕ) → times y (list_at next_rests x) ≡ times x (list_at next_dependents y)
  pushed_mirrored was x y = elim (cases_eq x n) [
    | inl ex ↦ elim (cases_eq y m) [
      | inl ey ↦
          let w = was n m in
          let left = times-push m m (list_at rests n) in
          let right = times-push n n (list_at dependents m) in
          let one = hit-same m in
          let one_too = hit-same n in
          let same : times m (list_at rests n ++ m ∷ []) ≡ times n (list_at dependents m ++ n ∷ []) = omega arith in
          rw (ex, ey) (ap (times m) rests_here ∙ same ∙ sym (ap (times n) dependents_here))
      | inr ny ↦
          let w = was n y in
          let left = times-push y m (list_at rests n) in
          let none = hit-other y m (λ e. ny (sym e)) in
          let same : times y (list_at rests n ++ m ∷ []) ≡ times n (list_at dependents y) = omega arith in
          rw ex (ap (times y) rests_here ∙ same ∙ sym (ap (times n) (dependents_else y ny)))
    ]
    | inr nx ↦ elim (cases_eq y m) [
      | inl ey ↦
          let w = was x m in
          let right = times-push x n (list_at dependents m) in
          let none = hit-other x n (λ e. nx (sym e)) in
          let same : times m (list_at rests x) ≡ times x (list_at dependents m ++ n ∷ []) = omega arith in
          rw ey (ap (times m) (rests_else x nx) ∙ same ∙ sym (ap (times x) dependents_here))
      | inr ny ↦ ap (times y) (rests_else x nx) ∙ was x y ∙ sym (ap (times x) (dependents_else y ny))
    ]
  ]

  pub AreWhole-linked : {K : Type 0} (eq : K → K → Bool) (keys : List (Option K)) (free : List ℕ) (j k : K) → slice_get keys n ≡ Some (Some j) → slice_get keys m ≡ Some (Some k)
      → AreWhole eq keys free rests dependents → AreWhole eq keys free next_rests next_dependents
  AreWhole-linked eq keys free j k n_is m_is whole = record {
    rests_len = length-set rests n (list_at rests n ++ m ∷ []) ∙ whole.rests_len;
    dependents_len = length-set dependents m (list_at dependents m ++ n ∷ []) ∙ whole.dependents_len;
    links = ∥∥₁_map whole.links (λ p. (p.0 ++ (n, m) ∷ [], AreLinksOf-push p.0 p.1));
    mirrored = pushed_mirrored whole.mirrored;
    distinct = whole.distinct;
    free_once = whole.free_once;
    free_count = whole.free_count;
    unlinked = λ f is.
        let nf : f ≢ n = λ e. let h : slice_get keys n ≡ Some None = ap (slice_get keys) (sym e) ∙ is in cc in
        let mf : f ≢ m = λ e. let h : slice_get keys m ≡ Some None = ap (slice_get keys) (sym e) ∙ is in cc in
        (rests_else f nf ∙ (whole.unlinked f is).0, dependents_else f mf ∙ (whole.unlinked f is).1);
  }

-- what `is_free` tells
pub free_is : {K : Type 0} (o : Option (Option K)) → is_free o ≡ true → o ≡ Some None
free_is None is = cc
free_is (Some None) is = refl
free_is (Some (Some k)) is = cc

-- a number that stands among the free ones has no key
pub free_has_none : {K : Type 0} (keys : List (Option K)) (free : List ℕ) (n : ℕ) → times n free ≡ cond (is_free (slice_get keys n)) 1 0 → 0 < times n free → slice_get keys n ≡ Some None
free_has_none keys free n once some = free_is (slice_get keys n) (go (is_free (slice_get keys n)) once)
  where
    go : (b : Bool) → times n free ≡ cond b 1 0 → b ≡ true
    go true e = refl
    go false e = absurd (omega arith)

-- a test that is 1 where a number stands once, and 0 where it doesn't stand
abbrev none_of : {K : Type 0} → Option K → ℕ
none_of o = cond (is_none o) 1 0

-- a key that isn't there differs from each that is, either way round
module _ {K : Type 0} (eq : K → K → Bool) (laws : IsEquivalence eq) (keys : List (Option K)) (k : K) (absent : (n : ℕ) (j : K) → slice_get keys n ≡ Some (Some j) → eq k j ≡ false) where
  not_before : (n : ℕ) (j l : K) → slice_get keys n ≡ Some (Some j) → l ≡ k → eq j l ≡ true → ⊥
  not_before n j l here same e =
      let a = absent n j here in
      let b : eq j k ≡ true = subst (λ (x : K). eq j x ≡ true) same e in
      let s = laws.symm j k in
      cc

  not_after : (n : ℕ) (j l : K) → slice_get keys n ≡ Some (Some l) → j ≡ k → eq j l ≡ true → ⊥
  not_after n j l here same e =
      let a = absent n l here in
      let b : eq k l ≡ true = subst (λ (x : K). eq x l ≡ true) same e in
      cc

  -- keys that differ stay so where one place has the new key and the others stay
  distinct_with : (now : List (Option K)) (at : ℕ) → slice_get now at ≡ Some (Some k) → ((n : ℕ) → n ≢ at → slice_get now n ≡ slice_get keys n)
      → ((m n : ℕ) (j l : K) → slice_get keys m ≡ Some (Some j) → slice_get keys n ≡ Some (Some l) → eq j l ≡ true → m ≡ n)
      → (m n : ℕ) (j l : K) → slice_get now m ≡ Some (Some j) → slice_get now n ≡ Some (Some l) → eq j l ≡ true → m ≡ n
  distinct_with now at here else was m n j l hm hn e = elim (cases_eq m at) [
    | inl em ↦
        let jk : j ≡ k = let h : slice_get now at ≡ Some (Some j) = rw (← em) hm in cc in
        elim (cases_eq n at) [
          | inl en ↦ em ∙ sym en
          | inr nn ↦ absurd (not_after n j l (sym (else n nn) ∙ hn) jk e)
        ]
    | inr nm ↦ elim (cases_eq n at) [
      | inl en ↦
          let lk : l ≡ k = let h : slice_get now at ≡ Some (Some l) = rw (← en) hn in cc in
          absurd (not_before m j l (sym (else m nm) ∙ hm) lk e)
      | inr nn ↦ was m n j l (sym (else m nm) ∙ hm) (sym (else n nn) ∙ hn) e
    ]
  ]

  -- a key at the next new number
  pub AreWhole-new : (free : List ℕ) (rests dependents : List (List ℕ)) → AreWhole eq keys free rests dependents → AreWhole eq (keys ++ Some k ∷ []) free (rests ++ [] ∷ []) (dependents ++ [] ∷ [])
  AreWhole-new free rests dependents whole = record {
    rests_len = length-append rests ([] ∷ []) ∙ ap (λ (n : ℕ). n + 1) whole.rests_len ∙ sym (length-append keys (Some k ∷ []));
    dependents_len = length-append dependents ([] ∷ []) ∙ ap (λ (n : ℕ). n + 1) whole.dependents_len ∙ sym (length-append keys (Some k ∷ []));
    links = ∥∥₁_map whole.links (λ p. (
      p.0,
      record {
        rests_are = λ n. list_at-push_nil rests n ∙ p.1.rests_are n;
        dependents_are = λ n. list_at-push_nil dependents n ∙ p.1.dependents_are n;
      },
    ));
    mirrored = λ n m. ap (times m) (list_at-push_nil rests n) ∙ whole.mirrored n m ∙ sym (ap (times n) (list_at-push_nil dependents m));
    distinct = distinct_with (keys ++ Some k ∷ []) (length keys) (slice_get-push_last keys (Some k)) (slice_get-push_other keys (Some k)) whole.distinct;
    free_once = λ n. whole.free_once n ∙ elim (cases_eq n (length keys)) [
      | inl e ↦
          let past : slice_get keys n ≡ None = slice_get_past keys n (omega arith) in
          let last : slice_get (keys ++ Some k ∷ []) n ≡ Some (Some k) = rw e (slice_get-push_last keys (Some k)) in
          rw (past, last) refl
      | inr ne ↦ ap (λ (o : Option (Option K)). cond (is_free o) 1 0) (sym (slice_get-push_other keys (Some k) n ne))
    ];
    free_count = whole.free_count ∙ (let e = sum_by_push none_of keys (Some k) in let r : count_by is_none keys ≡ count_by is_none (keys ++ Some k ∷ []) = omega arith in r);
    unlinked = λ n is. elim (cases_eq n (length keys)) [
      | inl e ↦
          let last : slice_get (keys ++ Some k ∷ []) n ≡ Some (Some k) = rw e (slice_get-push_last keys (Some k)) in
          cc
      | inr ne ↦
          let u = whole.unlinked n (sym (slice_get-push_other keys (Some k) n ne) ∙ is) in
          (list_at-push_nil rests n ∙ u.0, list_at-push_nil dependents n ∙ u.1)
    ];
  }

  -- a key at the first free number
  module _ (at : ℕ) (free : List ℕ) (rests dependents : List (List ℕ)) (whole : AreWhole eq keys (at ∷ free) rests dependents) where
    first_times : times at (at ∷ free) ≡ 1 + times at free
    first_times = let a = times-cons at at free in let h = hit-same at in omega arith

    pub first_is_free : slice_get keys at ≡ Some None
    first_is_free = free_has_none keys (at ∷ free) at (whole.free_once at) (let f = first_times in omega arith)

    pub first_within : at < length keys
    first_within = slice_get_within keys at None first_is_free

    again_here : slice_get (slice_set keys at (Some k)) at ≡ Some (Some k)
    again_here = slice_get-set_same keys at (Some k) first_within

    again_else : (n : ℕ) → n ≢ at → slice_get (slice_set keys at (Some k)) n ≡ slice_get keys n
    again_else n ne = slice_get-set_other keys at n (Some k) ne

    pub AreWhole-again : AreWhole eq (slice_set keys at (Some k)) free rests dependents
    AreWhole-again = record {
      rests_len = whole.rests_len ∙ sym (length-set keys at (Some k));
      dependents_len = whole.dependents_len ∙ sym (length-set keys at (Some k));
      links = whole.links;
      mirrored = whole.mirrored;
      distinct = distinct_with (slice_set keys at (Some k)) at again_here again_else whole.distinct;
      free_once = λ n. elim (cases_eq n at) [
        | inl e ↦
            let f = first_times in
            let once : times at (at ∷ free) ≡ 1 = rw first_is_free at (whole.free_once at) in
            let none : times at free ≡ 0 = omega arith in
            rw (e, again_here) none
        | inr ne ↦
            let t = times-cons n at free in
            let h = hit-other n at (λ f. ne (sym f)) in
            let same : times n free ≡ times n (at ∷ free) = omega arith in
            same ∙ whole.free_once n ∙ ap (λ (o : Option (Option K)). cond (is_free o) 1 0) (sym (again_else n ne))
      ];
      free_count =
          let e = sum_by-set none_of keys at (Some k) None first_within in
          let g : get_or keys at None ≡ None = get_or_from_slice_get keys at None None first_is_free in
          let g1 : none_of (get_or keys at None) ≡ 1 = ap none_of g in
          let f = whole.free_count in
          omega arith;
      unlinked = λ n is. elim (cases_eq n at) [
        | inl e ↦ let h : slice_get (slice_set keys at (Some k)) n ≡ Some (Some k) = rw e again_here in cc
        | inr ne ↦ whole.unlinked n (sym (again_else n ne) ∙ is)
      ];
    }

-- the links without those of a number

abbrev pub has_part : ℕ → ℕ × ℕ → Bool
has_part n l = nat_eq l.0 n || nat_eq l.1 n

pub kept_link : (n a b : ℕ) (links : List (ℕ × ℕ)) → (a ≡ n → ⊥) → (b ≡ n → ⊥) → links_without n ((a, b) ∷ links) ≡ (a, b) ∷ links_without n links
kept_link n a b links na nb = rw (ne_eqb a n na, ne_eqb b n nb) refl

pub left_link_from : (n a b : ℕ) (links : List (ℕ × ℕ)) → a ≡ n → links_without n ((a, b) ∷ links) ≡ links_without n links
left_link_from n a b links e = rw (eq-eqb a n e) refl

pub left_link_to : (n a b : ℕ) (links : List (ℕ × ℕ)) → (a ≡ n → ⊥) → b ≡ n → links_without n ((a, b) ∷ links) ≡ links_without n links
left_link_to n a b links na e = rw (ne_eqb a n na, eq-eqb b n e) refl

pub rests_of-cons_same : (m a b : ℕ) (links : List (ℕ × ℕ)) → a ≡ m → rests_of ((a, b) ∷ links) m ≡ b ∷ rests_of links m
rests_of-cons_same m a b links e = rw (eq-eqb a m e) refl

pub rests_of-cons_other : (m a b : ℕ) (links : List (ℕ × ℕ)) → (a ≡ m → ⊥) → rests_of ((a, b) ∷ links) m ≡ rests_of links m
rests_of-cons_other m a b links ne = rw (ne_eqb a m ne) refl

pub dependents_of-cons_same : (m a b : ℕ) (links : List (ℕ × ℕ)) → b ≡ m → dependents_of ((a, b) ∷ links) m ≡ a ∷ dependents_of links m
dependents_of-cons_same m a b links e = rw (eq-eqb b m e) refl

pub dependents_of-cons_other : (m a b : ℕ) (links : List (ℕ × ℕ)) → (b ≡ m → ⊥) → dependents_of ((a, b) ∷ links) m ≡ dependents_of links m
dependents_of-cons_other m a b links ne = rw (ne_eqb b m ne) refl

pub rests_of-without_same : (links : List (ℕ × ℕ)) (n : ℕ) → rests_of (links_without n links) n ≡ []
rests_of-without_same [] n = refl
rests_of-without_same ((a, b) ∷ links) n = elim (cases_eq a n) [
  | inl ea ↦ ap (λ (ls : List (ℕ × ℕ)). rests_of ls n) (left_link_from n a b links ea) ∙ rests_of-without_same links n
  | inr na ↦ elim (cases_eq b n) [
    | inl eb ↦ ap (λ (ls : List (ℕ × ℕ)). rests_of ls n) (left_link_to n a b links na eb) ∙ rests_of-without_same links n
    | inr nb ↦ ap (λ (ls : List (ℕ × ℕ)). rests_of ls n) (kept_link n a b links na nb) ∙ rests_of-cons_other n a b (links_without n links) na ∙ rests_of-without_same links n
  ]
]

pub dependents_of-without_same : (links : List (ℕ × ℕ)) (n : ℕ) → dependents_of (links_without n links) n ≡ []
dependents_of-without_same [] n = refl
dependents_of-without_same ((a, b) ∷ links) n = elim (cases_eq a n) [
  | inl ea ↦ ap (λ (ls : List (ℕ × ℕ)). dependents_of ls n) (left_link_from n a b links ea) ∙ dependents_of-without_same links n
  | inr na ↦ elim (cases_eq b n) [
    | inl eb ↦ ap (λ (ls : List (ℕ × ℕ)). dependents_of ls n) (left_link_to n a b links na eb) ∙ dependents_of-without_same links n
    | inr nb ↦ ap (λ (ls : List (ℕ × ℕ)). dependents_of ls n) (kept_link n a b links na nb) ∙ dependents_of-cons_other n a b (links_without n links) nb ∙ dependents_of-without_same links n
  ]
]

pub rests_of-without_other : (links : List (ℕ × ℕ)) (n m : ℕ) → (m ≡ n → ⊥) → rests_of (links_without n links) m ≡ without n (rests_of links m)
rests_of-without_other [] n m ne = refl
rests_of-without_other ((a, b) ∷ links) n m ne =
    let rest = rests_of-without_other links n m ne in
    elim (cases_eq a m) [
      | inl am ↦
          let na : a ≡ n → ⊥ = λ e. ne (sym am ∙ e) in
          elim (cases_eq b n) [
            | inl eb ↦ ap (λ (ls : List (ℕ × ℕ)). rests_of ls m) (left_link_to n a b links na eb) ∙ rest
                ∙ sym (ap (without n) (rests_of-cons_same m a b links am) ∙ rw eb (without-cons_same n (rests_of links m)))
            | inr nb ↦ ap (λ (ls : List (ℕ × ℕ)). rests_of ls m) (kept_link n a b links na nb) ∙ rests_of-cons_same m a b (links_without n links) am ∙ ap (λ (r : List ℕ). b ∷ r) rest
                ∙ sym (ap (without n) (rests_of-cons_same m a b links am) ∙ without-cons_other n b (rests_of links m) nb)
          ]
      | inr am ↦
          let right = sym (ap (without n) (rests_of-cons_other m a b links am)) in
          elim (cases_eq a n) [
            | inl ea ↦ ap (λ (ls : List (ℕ × ℕ)). rests_of ls m) (left_link_from n a b links ea) ∙ rest ∙ right
            | inr na ↦ elim (cases_eq b n) [
              | inl eb ↦ ap (λ (ls : List (ℕ × ℕ)). rests_of ls m) (left_link_to n a b links na eb) ∙ rest ∙ right
              | inr nb ↦ ap (λ (ls : List (ℕ × ℕ)). rests_of ls m) (kept_link n a b links na nb) ∙ rests_of-cons_other m a b (links_without n links) am ∙ rest ∙ right
            ]
          ]
    ]

pub dependents_of-without_other : (links : List (ℕ × ℕ)) (n m : ℕ) → (m ≡ n → ⊥) → dependents_of (links_without n links) m ≡ without n (dependents_of links m)
dependents_of-without_other [] n m ne = refl
dependents_of-without_other ((a, b) ∷ links) n m ne =
    let rest = dependents_of-without_other links n m ne in
    elim (cases_eq b m) [
      | inl bm ↦
          let nb : b ≡ n → ⊥ = λ e. ne (sym bm ∙ e) in
          elim (cases_eq a n) [
            | inl ea ↦ ap (λ (ls : List (ℕ × ℕ)). dependents_of ls m) (left_link_from n a b links ea) ∙ rest
                ∙ sym (ap (without n) (dependents_of-cons_same m a b links bm) ∙ rw ea (without-cons_same n (dependents_of links m)))
            | inr na ↦ ap (λ (ls : List (ℕ × ℕ)). dependents_of ls m) (kept_link n a b links na nb) ∙ dependents_of-cons_same m a b (links_without n links) bm ∙ ap (λ (r : List ℕ). a ∷ r) rest
                ∙ sym (ap (without n) (dependents_of-cons_same m a b links bm) ∙ without-cons_other n a (dependents_of links m) na)
          ]
      | inr bm ↦
          let right = sym (ap (without n) (dependents_of-cons_other m a b links bm)) in
          elim (cases_eq a n) [
            | inl ea ↦ ap (λ (ls : List (ℕ × ℕ)). dependents_of ls m) (left_link_from n a b links ea) ∙ rest ∙ right
            | inr na ↦ elim (cases_eq b n) [
              | inl eb ↦ ap (λ (ls : List (ℕ × ℕ)). dependents_of ls m) (left_link_to n a b links na eb) ∙ rest ∙ right
              | inr nb ↦ ap (λ (ls : List (ℕ × ℕ)). dependents_of ls m) (kept_link n a b links na nb) ∙ dependents_of-cons_other m a b (links_without n links) bm ∙ rest ∙ right
            ]
          ]
    ]

pub AreLinksOf-cut_off : (rests dependents : List (List ℕ)) (n : ℕ) (links : List (ℕ × ℕ)) → AreLinksOf rests dependents links → AreLinksOf (cut_off n rests) (cut_off n dependents) (links_without n links)
AreLinksOf-cut_off rests dependents n links are = record {
  rests_are = λ m. elim (cases_eq m n) [
    | inl e ↦ rw e (list_at-cut_off_same n rests ∙ sym (rests_of-without_same links n))
    | inr ne ↦ list_at-cut_off_other n m rests ne ∙ ap (without n) (are.rests_are m) ∙ sym (rests_of-without_other links n m ne)
  ];
  dependents_are = λ m. elim (cases_eq m n) [
    | inl e ↦ rw e (list_at-cut_off_same n dependents ∙ sym (dependents_of-without_same links n))
    | inr ne ↦ list_at-cut_off_other n m dependents ne ∙ ap (without n) (are.dependents_are m) ∙ sym (dependents_of-without_other links n m ne)
  ];
}

cut_off_mirrored : (rests dependents : List (List ℕ)) (n : ℕ) → ((x y : ℕ) → times y (list_at rests x) ≡ times x (list_at dependents y))
    → (x y : ℕ) → times y (list_at (cut_off n rests) x) ≡ times x (list_at (cut_off n dependents) y)
cut_off_mirrored rests dependents n was x y = elim (cases_eq x n) [
  | inl ex ↦
      let left : times y (list_at (cut_off n rests) n) ≡ 0 = ap (times y) (list_at-cut_off_same n rests) in
      elim (cases_eq y n) [
        | inl ey ↦ rw ex (left ∙ sym (rw ey (ap (times n) (list_at-cut_off_same n dependents))))
        | inr ny ↦ rw ex (left ∙ sym (ap (times n) (list_at-cut_off_other n y dependents ny) ∙ times-without_same n (list_at dependents y)))
      ]
  | inr nx ↦ elim (cases_eq y n) [
    | inl ey ↦ rw ey (ap (times n) (list_at-cut_off_other n x rests nx) ∙ times-without_same n (list_at rests x) ∙ sym (ap (times x) (list_at-cut_off_same n dependents)))
    | inr ny ↦ ap (times y) (list_at-cut_off_other n x rests nx) ∙ times-without_other n y (list_at rests x) ny ∙ was x y
        ∙ sym (ap (times x) (list_at-cut_off_other n y dependents ny) ∙ times-without_other n x (list_at dependents y) nx)
  ]
]

-- a number without its key and its links
module _ {K : Type 0} (eq : K → K → Bool) (keys : List (Option K)) (free : List ℕ) (rests dependents : List (List ℕ)) (at : ℕ) (k : K) (is : slice_get keys at ≡ Some (Some k)) (whole : AreWhole eq keys free rests dependents) where
  is_within : at < length keys
  is_within = slice_get_within keys at (Some k) is

  gone_here : slice_get (slice_set keys at None) at ≡ Some None
  gone_here = slice_get-set_same keys at None is_within

  gone_else : (n : ℕ) → n ≢ at → slice_get (slice_set keys at None) n ≡ slice_get keys n
  gone_else n ne = slice_get-set_other keys at n None ne

  still_there : (n : ℕ) (j : K) → slice_get (slice_set keys at None) n ≡ Some (Some j) → slice_get keys n ≡ Some (Some j)
  still_there n j has = elim (cases_eq n at) [
    | inl e ↦ let h : slice_get (slice_set keys at None) n ≡ Some None = rw e gone_here in cc
    | inr ne ↦ sym (gone_else n ne) ∙ has
  ]

  pub none_more : count_by is_none (slice_set keys at None) ≡ count_by is_none keys + 1
  none_more =
      let e = sum_by-set none_of keys at None None is_within in
      let g : get_or keys at None ≡ Some k = get_or_from_slice_get keys at (Some k) None is in
      let g0 : none_of (get_or keys at None) ≡ 0 = ap none_of g in
      omega arith

  pub AreWhole-removed : AreWhole eq (slice_set keys at None) (at ∷ free) (cut_off at rests) (cut_off at dependents)
  AreWhole-removed = record {
    rests_len = length-cut_off at rests ∙ whole.rests_len ∙ sym (length-set keys at None);
    dependents_len = length-cut_off at dependents ∙ whole.dependents_len ∙ sym (length-set keys at None);
    links = ∥∥₁_map whole.links (λ p. (links_without at p.0, AreLinksOf-cut_off rests dependents at p.0 p.1));
    mirrored = cut_off_mirrored rests dependents at whole.mirrored;
    distinct = λ m n j l hm hn e. whole.distinct m n j l (still_there m j hm) (still_there n l hn) e;
    free_once = λ n. elim (cases_eq n at) [
      | inl e ↦
          let t = times-cons at at free in
          let h = hit-same at in
          let w : times at free ≡ 0 = rw is at (whole.free_once at) in
          let one : times at (at ∷ free) ≡ 1 = omega arith in
          subst (λ (x : ℕ). times x (at ∷ free) ≡ cond (is_free (slice_get (slice_set keys at None) x)) 1 0) (sym e) (one ∙ sym (ap (λ (o : Option (Option K)). cond (is_free o) 1 0) gone_here))
      | inr ne ↦
          let t = times-cons n at free in
          let h = hit-other n at (λ f. ne (sym f)) in
          let same : times n (at ∷ free) ≡ times n free = omega arith in
          same ∙ whole.free_once n ∙ ap (λ (o : Option (Option K)). cond (is_free o) 1 0) (sym (gone_else n ne))
    ];
    free_count = let f = whole.free_count in let m = none_more in omega arith;
    unlinked = λ n no. elim (cases_eq n at) [
      | inl e ↦ rw e (list_at-cut_off_same at rests, list_at-cut_off_same at dependents)
      | inr ne ↦
          let u = whole.unlinked n (sym (gone_else n ne) ∙ no) in
          (list_at-cut_off_other at n rests ne ∙ ap (without at) u.0, list_at-cut_off_other at n dependents ne ∙ ap (without at) u.1)
    ];
  }

pub AreWhole-nothing : {K : Type 0} (eq : K → K → Bool) → AreWhole eq [] [] [] []
AreWhole-nothing eq = record {
  rests_len = refl;
  dependents_len = refl;
  links = ∣ ([], record { rests_are = λ n. refl; dependents_are = λ n. refl }) ∣₁;
  mirrored = λ n m. refl;
  distinct = λ m n j k hm hn e. absurd (let h = slice_get_within [] m (Some j) hm in omega arith);
  free_once = λ n. refl;
  free_count = refl;
  unlinked = λ n is. (refl, refl);
}

-- the number that was freed last has no key
pub last_is_free : {K : Type 0} (eq : K → K → Bool) (keys : List (Option K)) (free : List ℕ) (rests dependents : List (List ℕ)) (last number : ℕ) → last + 1 ≡ length free → number ≡ get_or free last number
    → AreWhole eq keys (reverse free) rests dependents → slice_get keys number ≡ Some None
last_is_free eq keys free rests dependents last number len is whole =
    let first = reverse-last free last number len is in
    let once = rw first at (whole.free_once number) in
    let one = times-cons number number (reverse (take last free)) in
    let here = hit-same number in
    free_has_none keys (number ∷ reverse (take last free)) number once (omega arith)
