-- Links that are taken away one after the other, at both ends.
use Rattle.std.proofs.Common.{◌≡◌, ℕ, ◌+◌, ◌<◌, ◌≢◌, List, [], length, map, slice_get, Some, sym, ◌∙◌, ap, refl, inl, inr, arith}
use Rattle.std.specs.List.{slice_set, remove}
use Rattle.std.proofs.lemmas.List.{same_lists, length-map, length-set, get_or-map, get_or-set_same, get_or-set_other, get_or_past, get_or_default, map-set, set-set, set-get_or}
use Rattle.std.proofs.lemmas.List.Edits.{length-remove}
use Rattle.std.proofs.lemmas.Option.{slice_get_within}
use Rattle.std.proofs.lemmas.Bool.{cases_eq, cases_lt}
use Rattle.item_index.specs.Graphs.{cut_off}
use Rattle.item_index.specs.Shelves.{Shelf, list_at, taken_out, times, without}
use Rattle.item_index.proofs.Times.{hit-same, hit-other, times-remove, times-there, without-none, without-remove}

-- each link of the one stands in the other, as often
abbrev pub Mirror : List (List ℕ) → List (List ℕ) → Type 0
Mirror ends back = (n m : ℕ) → times m (list_at ends n) ≡ times n (list_at back m)

-- a list that has a number is one of the lists
pub list_there : (lists : List (List ℕ)) (m x : ℕ) → 0 < times x (list_at lists m) → m < length lists
list_there lists m x some = elim (cases_lt m (length lists)) [
  | inl h ↦ h
  | inr h ↦ let e : times x (list_at lists m) ≡ 0 = ap (times x) (get_or_past lists m [] h) in absurd (omega arith)
]

-- after some links of a node are gone
pub record IsUnlinking (node : ℕ) (ends back now then : Shelf) : Type 0 where
  pub there : node < length now.lists
  pub ends_are : now.lists ≡ slice_set ends.lists node (list_at now.lists node)
  pub back_are : map (without node) then.lists ≡ map (without node) back.lists
  pub mirrored : Mirror now.lists then.lists
  pub ends_spare : now.spare + length (list_at now.lists node) ≡ ends.spare + length (list_at ends.lists node)
  pub back_spare : then.spare + length (list_at now.lists node) ≡ back.spare + length (list_at ends.lists node)
  pub ends_room : now.spare_lists ≡ ends.spare_lists
  pub back_room : then.spare_lists ≡ back.spare_lists

pub nothing_unlinked : (node : ℕ) (ends back : Shelf) → node < length ends.lists → Mirror ends.lists back.lists → IsUnlinking node ends back ends back
nothing_unlinked node ends back there mirrored = record {
  there = there;
  ends_are = sym (set-get_or ends.lists node []);
  back_are = refl;
  mirrored = mirrored;
  ends_spare = refl;
  back_spare = refl;
  ends_room = refl;
  back_room = refl;
}

module _ (node : ℕ) (ends back now then : Shelf) (k other : ℕ) (so_far : IsUnlinking node ends back now then) (last : length (list_at now.lists node) ≡ k + 1) (got : slice_get (list_at now.lists node) k ≡ Some other) where
  -- the other end has the node
  pub other_has : 0 < times node (list_at then.lists other)
  other_has = let e = so_far.mirrored node other in let h = times-there other k (list_at now.lists node) got in omega arith

  pub other_there : other < length then.lists
  other_there = list_there then.lists other node other_has

  module _ (j : ℕ) (its : slice_get (list_at then.lists other) j ≡ Some node) where
    next : List (List ℕ)
    next = slice_set now.lists node (remove (list_at now.lists node) k)

    after : List (List ℕ)
    after = slice_set then.lists other (remove (list_at then.lists other) j)

    next_here : list_at next node ≡ remove (list_at now.lists node) k
    unfolding next
    next_here = get_or-set_same now.lists node (remove (list_at now.lists node) k) [] so_far.there

    next_else : (n : ℕ) → n ≢ node → list_at next n ≡ list_at now.lists n
    unfolding next
    next_else n ne = get_or-set_other now.lists node n (remove (list_at now.lists node) k) [] ne

    after_here : list_at after other ≡ remove (list_at then.lists other) j
    unfolding after
    after_here = get_or-set_same then.lists other (remove (list_at then.lists other) j) [] other_there

    after_else : (m : ℕ) → m ≢ other → list_at after m ≡ list_at then.lists m
    unfolding after
    after_else m ne = get_or-set_other then.lists other m (remove (list_at then.lists other) j) [] ne

    cut_mirrored : Mirror next after
    cut_mirrored n m =
        elim (cases_eq n node) [
          | inl en ↦ elim (cases_eq m other) [
            | inl em ↦
                let was = so_far.mirrored node other in
                let left = times-remove other other k (list_at now.lists node) got in
                let right = times-remove node node j (list_at then.lists other) its in
                let one = hit-same other in
                let one_too = hit-same node in
                let same : times other (remove (list_at now.lists node) k) ≡ times node (remove (list_at then.lists other) j) = omega arith in
                rw (en, em) (ap (times other) next_here ∙ same ∙ sym (ap (times node) after_here))
            | inr nm ↦
                let was = so_far.mirrored node m in
                let left = times-remove m other k (list_at now.lists node) got in
                let none = hit-other m other (λ e. nm (sym e)) in
                let same : times m (remove (list_at now.lists node) k) ≡ times node (list_at then.lists m) = omega arith in
                rw en (ap (times m) next_here ∙ same ∙ sym (ap (times node) (after_else m nm)))
          ]
          | inr nn ↦ elim (cases_eq m other) [
            | inl em ↦
                let was = so_far.mirrored n other in
                let right = times-remove n node j (list_at then.lists other) its in
                let none = hit-other n node (λ e. nn (sym e)) in
                let same : times other (list_at now.lists n) ≡ times n (remove (list_at then.lists other) j) = omega arith in
                rw em (ap (times other) (next_else n nn) ∙ same ∙ sym (ap (times n) after_here))
            | inr nm ↦ ap (times m) (next_else n nn) ∙ so_far.mirrored n m ∙ sym (ap (times n) (after_else m nm))
          ]
        ]

    pub one_unlinked : (new_ends new_back : Shelf) → new_ends ≡ taken_out now node k → new_back ≡ taken_out then other j → IsUnlinking node ends back new_ends new_back
    unfolding next after
    one_unlinked new_ends new_back ends_is back_is =
        let shorter = length-remove (list_at now.lists node) k (slice_get_within _ _ _ got) in
        let here = ap length next_here in
        let was_ends = so_far.ends_spare in
        let was_back = so_far.back_spare in
        rw (ends_is, back_is) (record {
          there = rw (length-set now.lists node (remove (list_at now.lists node) k)) so_far.there;
          ends_are = ap (λ (ls : List (List ℕ)). slice_set ls node (remove (list_at now.lists node) k)) so_far.ends_are ∙ set-set ends.lists node (list_at now.lists node) (remove (list_at now.lists node) k)
              ∙ ap (slice_set ends.lists node) (sym next_here);
          back_are = map-set (without node) then.lists other (remove (list_at then.lists other) j)
              ∙ ap (λ (r : List ℕ). slice_set (map (without node) then.lists) other r) (without-remove node j (list_at then.lists other) its)
              ∙ ap (λ (r : List ℕ). slice_set (map (without node) then.lists) other r) (sym (get_or-map (without node) then.lists other [] [] other_there))
              ∙ set-get_or (map (without node) then.lists) other [] ∙ so_far.back_are;
          mirrored = cut_mirrored;
          ends_spare = omega arith;
          back_spare = omega arith;
          ends_room = so_far.ends_room;
          back_room = so_far.back_room;
        })

    pub fewer : (new_ends : Shelf) → new_ends ≡ taken_out now node k → length (list_at new_ends.lists node) < length (list_at now.lists node)
    unfolding next
    fewer new_ends ends_is =
        let shorter = length-remove (list_at now.lists node) k (slice_get_within _ _ _ got) in
        let here = ap length next_here in
        rw ends_is (omega arith)

-- where a node has no links left, no other end has it
pub all_unlinked : (node : ℕ) (ends back now then : Shelf) → IsUnlinking node ends back now then → list_at now.lists node ≡ [] → then.lists ≡ map (without node) back.lists
all_unlinked node ends back now then so_far none =
    same_lists _ _ (sym (length-map then.lists (without node))) (λ m d h.
    let e : times node (list_at then.lists m) ≡ 0 = sym (so_far.mirrored node m) ∙ ap (times m) none in
    get_or_default then.lists m d [] h ∙ sym (without-none node (list_at then.lists m) e) ∙ sym (get_or-map (without node) then.lists m [] d h))
    ∙ so_far.back_are

-- the two lists once the links from a node are gone, and then those to it
pub cut_off-ends : (n : ℕ) (rests once twice : List (List ℕ)) → once ≡ slice_set rests n [] → twice ≡ map (without n) once → twice ≡ cut_off n rests
cut_off-ends n rests once twice first second = second ∙ ap (map (without n)) first ∙ map-set (without n) rests n []

pub cut_off-back : (n : ℕ) (dependents once twice : List (List ℕ)) → once ≡ map (without n) dependents → twice ≡ slice_set once n [] → twice ≡ cut_off n dependents
cut_off-back n dependents once twice first second = second ∙ ap (λ (ls : List (List ℕ)). slice_set ls n []) first
