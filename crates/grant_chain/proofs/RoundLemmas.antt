-- A round over marks, place by place.
use Rattle.std.proofs.Common.{◌≡◌, ◌⊎◌, ℕ, zero, suc, ◌+◌, ◌<◌, ◌≤◌, Bool, true, false, not, cond, List, [], ◌∷◌, ◌++◌, length, take, get_or, set, count_by, sym, ◌∙◌, ap, subst, refl, inl, inr, arith, below_more, replicate, get_or-set_other, Ordering}
use Rattle.std.specs.List.{Contains, All, AllPairs}
use Rattle.std.specs.declared.cmp.Ordering.TheVariants.{Less}
use Rattle.std.proofs.Math.ListN.{length-set}
use Rattle.std.proofs.lemmas.Bool.{cases_Bool, cases_eq, both_ways}
use Rattle.std.proofs.lemmas.List.{append-nil}
use Rattle.std.proofs.lemmas.List.Sums.{sum_by-set}
use Rattle.std.proofs.lemmas.List.Elements.{All-contains}
use Rattle.finite_chains.specs.Chains.{IsMonotone, Survives}
use Rattle.finite_chains.specs.StrictOrder.{IsRising}
use Rattle.finite_chains.proofs.Chains.{Survives-step}
use Rattle.finite_chains.proofs.Members.{All-from_contains}
use Rattle.finite_chains.proofs.StrictOrders.{IsRising-from_pairs}
use Rattle.cat_items.proofs.Rising.{pairs_from_rising}
use Rattle.role_graph.specs.Marked.{marked}
use Rattle.role_graph.proofs.MarkedLemmas.{Contains-marked, place_of_marked}
use Rattle.grant_chain.specs.Rounds.{HaveClosed, IsTried, Survive}

-- how many places are not marked
abbrev pub unmarked : List Bool → ℕ
unmarked m = count_by not m

-- a new mark leaves one place less
unmarked-set : (m : List Bool) (k : ℕ) → k < length m → get_or m k false ≡ false → unmarked (set m k true) + 1 ≡ unmarked m
unmarked-set m k low off =
    let e = sum_by-set (λ x. cond (not x) 1 0) m k true false low in
    omega (arith, rw off at e)

-- what is marked after one mark more was marked, or is at the new place
marked_set_cases : {X : Type 0} (xs : List X) (m : List Bool) (at : ℕ) (y : X) → at < length m → Contains (marked xs (set m at true)) y → Contains (marked xs m) y ⊎ (get_or xs at y ≡ y)
marked_set_cases xs m at y low h =
    let r = place_of_marked xs (set m at true) y h in
    elim (cases_eq r.0 at) [
      | inl e ↦ inr (subst (λ k. get_or xs k y ≡ y) e r.1.is)
      | inr ne ↦ inl (subst (λ z. Contains (marked xs m) z) r.1.is (Contains-marked xs m r.0 y r.1.low (sym (get_or-set_other m at r.0 true false ne) ∙ r.1.mark)))
    ]

-- A round that began at m0, and that has tried the places below k.
pub record IsRound {X : Type 0} (sup : List X → X → Type 0) (xs : List X) (m0 m : List Bool) (more : Bool) (k : ℕ) : Type 0 where
  pub size : length m ≡ length xs
  pub sound : Survive sup xs m0 → Survive sup xs m
  pub no_more : unmarked m ≤ unmarked m0
  pub fewer : more ≡ true → unmarked m < unmarked m0
  pub same : more ≡ false → m ≡ m0
  pub tried : more ≡ false → (j : ℕ) → j < k → get_or m0 j false ≡ false → (d : X) → sup (marked xs m0) (get_or xs j d) → ⊥

pub round_begins : {X : Type 0} (sup : List X → X → Type 0) (xs : List X) (m0 : List Bool) → length m0 ≡ length xs → IsRound sup xs m0 m0 false 0
round_begins sup xs m0 size = record {
  size = size;
  sound = λ h. h;
  no_more = omega arith;
  fewer = λ e. absurd (both_ways false refl e);
  same = λ _. refl;
  tried = λ _ j low. absurd (omega (arith, low));
}

pub round_goes : {X : Type 0} (sup : List X → X → Type 0) → IsMonotone sup → (xs : List X) (m0 m new : List Bool) (more put : Bool) (k : ℕ) → k < length xs → IsRound sup xs m0 m more k → IsTried sup xs m k put new → IsRound sup xs m0 new (cond put true more) (k + 1)
round_goes {X} sup mono xs m0 m new more true k low r t =
    let in_m : k < length m = omega (arith, low, r.size) in
    let count = unmarked-set m k in_m t.0 in
    record {
      size = ap length t.2 ∙ length-set m k true ∙ r.size;
      sound = λ h. subst (λ z. Survive sup xs z) (sym t.2)
          (All-from_contains (Survives sup xs) (marked xs (set m k true)) (λ y hy.
          elim (marked_set_cases xs m k y in_m hy) [
            | inl old ↦ All-contains (Survives sup xs) (marked xs m) y (r.sound h) old
            | inr e ↦ Survives-step sup mono xs (marked xs m) y (r.sound h) (k, low, e) (subst (λ z. sup (marked xs m) z) e (t.1 y))
          ]));
      no_more = subst (λ z. unmarked z ≤ unmarked m0) (sym t.2) (omega (arith, r.no_more, count));
      fewer = λ _. subst (λ z. unmarked z < unmarked m0) (sym t.2) (omega (arith, r.no_more, count));
      same = λ e. absurd (both_ways true e refl);
      tried = λ e. absurd (both_ways true e refl);
    }
round_goes {X} sup mono xs m0 m new more false k low r t = record {
  size = ap length t.0 ∙ r.size;
  sound = λ h. subst (λ z. Survive sup xs z) (sym t.0) (r.sound h);
  no_more = subst (λ z. unmarked z ≤ unmarked m0) (sym t.0) r.no_more;
  fewer = λ e. subst (λ z. unmarked z < unmarked m0) (sym t.0) (r.fewer e);
  same = λ e. t.0 ∙ r.same e;
  tried = λ e. below_more _ _ (r.tried e) (λ o d s. t.1 (ap (λ z. get_or z k false) (r.same e) ∙ o) d (subst (λ z. sup (marked xs z) (get_or xs k d)) (sym (r.same e)) s));
}

-- a round that marked nothing leaves a closed set
pub round_ends : {X : Type 0} (sup : List X → X → Type 0) (xs : List X) (m0 m : List Bool) (k : ℕ) → length xs ≤ k → IsRound sup xs m0 m false k → HaveClosed sup xs m
round_ends sup xs m0 m k all r x here s =
    let low : here.0 < k = omega (arith, here.1, all) in
    elim (cases_Bool (get_or m here.0 false)) [
      | inl on ↦ subst (λ z. Contains (marked xs m) z) here.2 (Contains-marked xs m here.0 x here.1 on)
      | inr off ↦ absurd (r.tried refl here.0 low (ap (λ z. get_or z here.0 false) (sym (r.same refl)) ∙ off) x
          (subst (λ z. sup z (get_or xs here.0 x)) (ap (marked xs) (r.same refl)) (subst (λ z. sup (marked xs m) z) (sym here.2) s)))
    ]

-- no marks
none_marked : {X : Type 0} (xs : List X) (n : ℕ) → marked xs (replicate n false) ≡ []
none_marked [] n = refl
none_marked (x ∷ xs) zero = refl
none_marked (x ∷ xs) (suc n) = none_marked xs n

pub none_survive : {X : Type 0} (sup : List X → X → Type 0) (xs : List X) (m : List Bool) (n : ℕ) → m ≡ replicate n false → Survive sup xs m
none_survive sup xs m n e = subst (λ l. All (Survives sup xs) l) (sym (ap (marked xs) e ∙ none_marked xs n)) (λ k d low. absurd (omega (arith, low)))

-- the marked items, one place after the other

marked_next : {X : Type 0} (xs : List X) (m : List Bool) (k : ℕ) (d : X) → k < length xs → k < length m → marked (take (suc k) xs) m ≡ marked (take k xs) m ++ cond (get_or m k false) (get_or xs k d ∷ []) []
marked_next [] m k d low below = absurd (omega (arith, low))
marked_next (x ∷ xs) [] k d low below = absurd (omega (arith, below))
marked_next (x ∷ xs) (true ∷ m) zero d low below = refl
marked_next (x ∷ xs) (false ∷ m) zero d low below = refl
marked_next (x ∷ xs) (true ∷ m) (suc k) d low below = ap (λ l. x ∷ l) (marked_next xs m k d (omega (arith, low)) (omega (arith, below)))
marked_next (x ∷ xs) (false ∷ m) (suc k) d low below = marked_next xs m k d (omega (arith, low)) (omega (arith, below))

pub marked_kept : {X : Type 0} (xs shown : List X) (m : List Bool) (k n : ℕ) (x : X) → shown ≡ xs → n ≡ suc k → k < length xs → k < length m → x ≡ get_or shown k x → get_or m k false ≡ true → marked (take k xs) m ++ x ∷ [] ≡ marked (take n xs) m
marked_kept xs shown m k n x same e low below is on =
    let here : x ≡ get_or xs k x = subst (λ l. x ≡ get_or l k x) same is in
    ap (λ y. marked (take k xs) m ++ y ∷ []) here ∙ sym (ap (λ j. marked (take j xs) m) e ∙ marked_next xs m k x low below ∙ ap (λ b. marked (take k xs) m ++ cond b (get_or xs k x ∷ []) []) on)

pub marked_left : {X : Type 0} (xs : List X) (m : List Bool) (k n : ℕ) (d : X) → n ≡ suc k → k < length xs → k < length m → get_or m k false ≡ false → marked (take k xs) m ≡ marked (take n xs) m
marked_left xs m k n d e low below off =
    sym (ap (λ j. marked (take j xs) m) e ∙ marked_next xs m k d low below ∙ ap (λ b. marked (take k xs) m ++ cond b (get_or xs k d ∷ []) []) off ∙ append-nil _)

-- in the order of the list

marked_within : {X : Type 0} (xs : List X) (m : List Bool) (y : X) → Contains (marked xs m) y → Contains xs y
marked_within xs m y h = let p = place_of_marked xs m y h in (p.0, p.1.low, p.1.is)

rising_marked : {X : Type 0} (R : X → X → Ordering) (xs : List X) (m : List Bool) → IsRising R xs → IsRising R (marked xs m)
rising_marked R [] m h = tt
rising_marked R (x ∷ xs) [] h = tt
rising_marked R (x ∷ xs) (true ∷ m) h = (λ y c. h.0 y (marked_within xs m y c), rising_marked R xs m h.1)
rising_marked R (x ∷ xs) (false ∷ m) h = rising_marked R xs m h.1

pub order_of_marked : {X : Type 0} (R : X → X → Ordering) (xs : List X) (m : List Bool) → AllPairs (λ a b. R a b ≡ Less) xs → AllPairs (λ a b. R a b ≡ Less) (marked xs m)
order_of_marked R xs m h = pairs_from_rising R (marked xs m) (rising_marked R xs m (IsRising-from_pairs R xs h))
