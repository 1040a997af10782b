-- Which items of a part are no suspects, place by place.
use Rattle.std.proofs.Common.{◌≡◌, ◌↔◌, ℕ, ◌+◌, ◌<◌, ◌≤◌, Bool, true, false, cond, List, length, get_or, set, sym, ◌∙◌, ap, subst, refl, arith, replicate, below_more, get_or-set_other}
use Rattle.std.specs.List.{Contains}
use Rattle.std.proofs.lemmas.Bool.{both_ways}
use Rattle.std.proofs.lemmas.List.{get_or-set_same, get_or-replicate, get_or_default, length-replicate}
use Rattle.std.proofs.Math.ListN.{length-set}
use Rattle.cat_items.specs.declared.item.Item.{Item}
use Rattle.role_graph.specs.Marked.{marked}
use Rattle.role_graph.proofs.MarkedLemmas.{Contains-marked, place_of_marked}
use Rattle.part_rescue.specs.Rescued.{AreUnsuspected}

-- the places below k were gone through
pub record IsClearTo (suspects part : List Item) (marks : List Bool) (k : ℕ) : Type 0 where
  pub size : length marks ≡ length part
  pub below : (j : ℕ) → j < k → (d : Item) → (get_or marks j false ≡ true) ↔ (¬ (Contains suspects (get_or part j d)))
  pub above : (j : ℕ) → k ≤ j → j < length part → get_or marks j false ≡ false

pub clear_begins : (suspects part : List Item) (marks : List Bool) → marks ≡ replicate (length part) false → IsClearTo suspects part marks 0
clear_begins suspects part marks e = record {
  size = ap length e ∙ length-replicate (length part) false;
  below = λ j low. absurd (omega (arith, low));
  above = λ j from low. ap (λ m. get_or m j false) e ∙ get_or-replicate (length part) j false false low;
}

pub clear_put : (suspects part : List Item) (m : List Bool) (k : ℕ) → k < length part → IsClearTo suspects part m k → ((d : Item) → ¬ (Contains suspects (get_or part k d))) → IsClearTo suspects part (set m k true) (k + 1)
clear_put suspects part m k low is other =
    let in_m : k < length m = omega (arith, low, is.size) in
    let on : get_or (set m k true) k false ≡ true = get_or-set_same m k true false in_m in
    record {
      size = length-set m k true ∙ is.size;
      below = below_more _ _
          (λ j lower d. subst (λ b. (b ≡ true) ↔ (¬ (Contains suspects (get_or part j d)))) (sym (get_or-set_other m k j true false (λ e. omega (arith, lower, e)))) (is.below j lower d))
          (λ d. (λ _. other d, λ _. on));
      above = λ j from inside. get_or-set_other m k j true false (λ e. omega (arith, from, e)) ∙ is.above j (omega (arith, from)) inside;
    }

pub clear_left : (suspects part : List Item) (m : List Bool) (k : ℕ) → k < length part → IsClearTo suspects part m k → ((d : Item) → (¬ (Contains suspects (get_or part k d))) → ⊥) → IsClearTo suspects part m (k + 1)
clear_left suspects part m k low is one = record {
  size = is.size;
  below = below_more _ _ is.below (λ d. (λ on. absurd (both_ways (get_or m k false) (is.above k (omega arith) low) on), λ other. absurd (one d other)));
  above = λ j from inside. is.above j (omega (arith, from)) inside;
}

-- an item of the part is looked for among the suspects
pub clear_goes : (suspects part : List Item) (m new : List Bool) (k : ℕ) (stands : Bool) (x : Item) → k < length part → x ≡ get_or part k x → IsClearTo suspects part m k → ((stands ≡ true) ↔ Contains suspects x) → new ≡ cond stands m (set m k true)
    → IsClearTo suspects part new (k + 1)
clear_goes suspects part m new k true x low at is test e =
    subst (λ z. IsClearTo suspects part z (k + 1)) (sym e)
    (clear_left suspects part m k low is (λ d other. other (subst (λ z. Contains suspects z) (at ∙ get_or_default part k x d low) (test.0 refl))))
clear_goes suspects part m new k false x low at is test e =
    subst (λ z. IsClearTo suspects part z (k + 1)) (sym e)
    (clear_put suspects part m k low is (λ d h. both_ways false refl (test.1 (subst (λ z. Contains suspects z) (sym (at ∙ get_or_default part k x d low)) h))))

pub clear_ends : (suspects part : List Item) (m : List Bool) (k : ℕ) → length part ≤ k → IsClearTo suspects part m k → AreUnsuspected suspects part m
clear_ends suspects part m k all is = record {
  size = is.size;
  members = λ x. (
    λ h.
        let p = place_of_marked part m x h in
        ((p.0, p.1.low, p.1.is), subst (λ z. ¬ (Contains suspects z)) p.1.is ((is.below p.0 (omega (arith, p.1.low, all)) x).0 p.1.mark)),
    λ h.
        let at = h.0 in
        let on = (is.below at.0 (omega (arith, at.1, all)) x).1 (subst (λ z. ¬ (Contains suspects z)) (sym at.2) h.1) in
        subst (λ z. Contains (marked part m) z) at.2 (Contains-marked part m at.0 x at.1 on),
  );
}
