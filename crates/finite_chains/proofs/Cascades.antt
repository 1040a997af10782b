-- The two halves of the cascade, from the laws of a change alone; and rounds over a part of what the new survivors are taken of.
use Rattle.std.proofs.Common.{◌≡◌, ◌⊎◌, Bool, true, false, not, List, [], ◌∷◌, sym, subst, inl, inr}
use Rattle.std.specs.List.{Contains, filter}
use Rattle.std.proofs.lemmas.Bool.{cases_Bool, both_ways, not-true, not_from_false, false_from_ne_true}
use Rattle.finite_chains.specs.Chains.{IsWithin, IsChain, Survives, HasSurvivors, IsMonotone}
use Rattle.finite_chains.specs.Changes.{LawsOfChange, IsRescued}
use Rattle.finite_chains.proofs.Members.{Contains-nil, Contains-head, Contains-tail, Contains-cases, Contains-filter, filter_passes_one, All-from_contains}
use Rattle.finite_chains.proofs.Chains.{IsChain-within, Survives-step}

module _ {X : Type 0} (old new : List X → X → Type 0) (concerns : X → X → Type 0) (suspect : X → Bool) (g c f : List X) (laws : LawsOfChange old new concerns suspect g c f) (mono : IsMonotone new) where
  -- those of a chain that are no suspects
  clear_of : List X → List X
  clear_of chain = filter (λ x. not (suspect x)) chain

  clear_one : (chain : List X) (z : X) → Contains (clear_of chain) z → Contains chain z × (suspect z ≡ false)
  unfolding clear_of
  clear_one chain z hz = let r = filter_passes_one (λ v. not (suspect v)) chain z hz in (r.0, not-true (suspect z) r.1)

  -- what concerns an item that is no suspect is among them
  clear_kept : (chain : List X) (x : X) → Contains g x → suspect x ≡ false → (z : X) → Contains chain z → concerns z x → Contains (clear_of chain) z
  unfolding clear_of
  clear_kept chain x gx nx z hz r = Contains-filter (λ v. not (suspect v)) chain z hz (not_from_false (suspect z) (false_from_ne_true (suspect z) (λ was. both_ways (suspect x) nx (laws.spreads z x gx r was))))

  old_is_known : (x : X) → Contains c x → Contains g x
  old_is_known x h = let s = (laws.good x).0 h in IsChain-within old g s.0 s.1 x s.2

  kept_of_chain : (chain : List X) → IsWithin chain c → IsChain old g chain → (y : X) → Contains chain y → suspect y ≡ false → Survives new f y
  kept_of_chain [] w p y h clear = absurd (Contains-nil y h)
  kept_of_chain (x ∷ chain) w p y h clear =
      let rest : IsWithin chain c = λ z hz. w z (Contains-tail x chain z hz) in
      let below : (z : X) → Contains chain z → suspect z ≡ false → Survives new f z = kept_of_chain chain rest p.2 in
      let t : List X = clear_of chain in
      let t_old : IsWithin t c = λ z hz. rest z (clear_one chain z hz).0 in
      let in_c : Contains c x = w x (Contains-head x chain) in
      let head : suspect x ≡ false → Survives new f x = λ nx.
      let still : old t x = laws.old_local chain t x rest t_old in_c (clear_kept chain x p.0 nx) p.1 in
      Survives-step new mono f t x (All-from_contains (Survives new f) t (λ z hz. let o = clear_one chain z hz in below z o.0 o.1))
      (laws.stays x nx in_c)
      (laws.stable_new t x in_c nx still) in
      elim (Contains-cases x chain y h) [
        | inl e ↦ subst (λ z. Survives new f z) e (head (subst (λ z. suspect z ≡ false) (sym e) clear))
        | inr later ↦ below y later clear
      ]

  -- the first half: an old item that is no suspect survives
  pub clear_survives : (x : X) → Contains c x → suspect x ≡ false → Survives new f x
  clear_survives x h clear =
      let s = (laws.good x).0 h in
      let w : IsWithin s.0 c = λ y hy. (laws.good y).1 (s.0, s.1, hy) in
      kept_of_chain s.0 w s.1 x s.2 clear

  module _ (mono_old : IsMonotone old) where
    -- each item of a new chain stands, and is an old one where it is no suspect
    stands_of_chain : (standing : List X) → IsRescued new suspect c f standing → (chain : List X) → IsChain new f chain → (y : X) → Contains chain y → Contains standing y × (suspect y ≡ false → Contains c y)
    stands_of_chain standing rescued [] p y h = absurd (Contains-nil y h)
    stands_of_chain standing rescued (x ∷ chain) p y h =
        let below : (z : X) → Contains chain z → Contains standing z × (suspect z ≡ false → Contains c z) = stands_of_chain standing rescued chain p.2 in
        let chain_f : IsWithin chain f = IsChain-within new f chain p.2 in
        let t : List X = clear_of chain in
        let t_f : IsWithin t f = λ z hz. chain_f z (clear_one chain z hz).0 in
        let old_one : suspect x ≡ false → Contains c x = λ nx.
        let still : new t x = laws.new_local chain t x chain_f t_f p.0 (clear_kept chain x (laws.known x nx p.0) nx) p.1 in
        (laws.good x).1 (Survives-step old mono_old g t x
        (All-from_contains (Survives old g) t (λ z hz. let o = clear_one chain z hz in (laws.good z).0 ((below z o.0).1 o.1)))
        (laws.known x nx p.0)
        (laws.stable_old t x p.0 nx still)) in
        let head : Contains standing x × (suspect x ≡ false → Contains c x) =
        elim (cases_Bool (suspect x)) [
          | inl was ↦ (rescued.closed x p.0 was (mono.more chain standing x (λ z hz. (below z hz).0) p.1), old_one)
          | inr clear ↦ (rescued.kept x (old_one clear) clear, old_one)
        ] in
        elim (Contains-cases x chain y h) [
          | inl e ↦ subst (λ z. Contains standing z × (suspect z ≡ false → Contains c z)) e head
          | inr later ↦ below y later
        ]

    -- the second half, and with it the whole: what stands after the rescue is what survives
    pub rescued_survivors : (standing : List X) → IsRescued new suspect c f standing → HasSurvivors new f standing
    rescued_survivors standing rescued x = (
      rescued.sound x,
      λ s. (stands_of_chain standing rescued s.0 s.1 x s.2).0,
    )

    -- the new survivors are what stands at the end of a rescue
    survivors_rescued : (n : List X) → HasSurvivors new f n → IsRescued new suspect c f n
    survivors_rescued n is = record {
      sound = λ x h. (is x).0 h;
      kept = λ x h clear. (is x).1 (clear_survives x h clear);
      closed = λ x h was support. (is x).1 (Survives-step new mono f n x (All-from_contains (Survives new f) n (λ y hy. (is y).0 hy)) h support);
    }

    -- a new survivor that is no suspect is an old item
    pub clear_was : (n : List X) → HasSurvivors new f n → (x : X) → Contains n x → suspect x ≡ false → Contains c x
    clear_was n is x h clear = let s = (is x).0 h in (stands_of_chain n (survivors_rescued n is) s.0 s.1 x s.2).1 clear

    -- Rounds over a part of f: `part` has the suspects of f and of the other items those that touch them; `near` is support in it.
    -- An item that all of f wouldn't support needs nothing. `found` are those of the part that were found to stand: of its items that are no suspects all, and nothing more is supported.
    module _ (near : List X → X → Type 0) (touches : X → X → Type 0) (part found standing : List X) (within : IsWithin part f)
        (local : (s t : List X) (x : X) → IsWithin s f → IsWithin t f → Contains f x → ((y : X) → Contains s y → touches y x → Contains t y) → new s x → new t x)
        (suspects : (x : X) → Contains f x → suspect x ≡ true → Contains part x)
        (gathered : (x : X) → Contains part x → suspect x ≡ true → (¬ (new f x)) ⊎ ((y : X) → Contains c y → suspect y ≡ false → touches y x → Contains part y))
        (far : (s : List X) (x : X) → Contains part x → suspect x ≡ true → near s x → new s x)
        (nearer : (s : List X) (x : X) → IsWithin s f → Contains part x → suspect x ≡ true → new s x → near s x)
        (clear : (x : X) → Contains part x → suspect x ≡ false → Contains c x → Contains found x)
        (found_part : IsWithin found part)
        (sound : (x : X) → Contains found x → Survives new f x)
        (closed : (x : X) → Contains part x → suspect x ≡ true → near found x → Contains found x)
        (members : (x : X) → Contains standing x → Contains found x ⊎ (Contains c x × (suspect x ≡ false)))
        (all_found : IsWithin found standing)
        (all_clear : (x : X) → Contains c x → suspect x ≡ false → Contains standing x) where
      standing_within : IsWithin standing f
      standing_within x h = elim (members x h) [ inl is ↦ within x (found_part x is) | inr old ↦ laws.stays x old.1 old.0 ]

      stands_near : (x y : X) → ((y : X) → Contains c y → suspect y ≡ false → touches y x → Contains part y) → Contains standing y → touches y x → Contains found y
      stands_near x y all h r =
          elim (members y h) [
            | inl is ↦ is
            | inr old ↦ clear y (all y old.0 old.1 r) old.1 old.0
          ]

      found_f : IsWithin found f
      found_f z hz = within z (found_part z hz)

      pub local_rounds : IsRescued new suspect c f standing
      local_rounds = record {
        sound = λ x h. elim (members x h) [ inl is ↦ sound x is | inr old ↦ clear_survives x old.0 old.1 ];
        kept = all_clear;
        closed = λ x fx sx support.
            let px = suspects x fx sx in
            elim (gathered x px sx) [
              | inl never ↦ absurd (never (mono.more standing f x standing_within support))
              | inr all ↦ all_found x (closed x px sx (nearer found x found_f px sx (local standing found x standing_within found_f fx (λ y h r. stands_near x y all h r) support)))
            ];
      }
