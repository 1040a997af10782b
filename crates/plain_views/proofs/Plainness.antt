-- Names that differ, and the base of a plain view.
use Rattle.std.proofs.Common.{◌≡◌, ◌≢◌, ℕ, zero, suc, ◌<◌, Bool, true, false, not, ◌&&◌, List, [], ◌∷◌, Option, Some, None, length, get_or, sym, subst, ◌∙◌, refl, inl, inr, arith}
use Rattle.std.specs.Prelude.{bytes_eq}
use Rattle.std.specs.List.{AllPairs, list_any}
use Rattle.std.proofs.lemmas.List.Folds.{list_any_none, list_any_at}
use Rattle.std.proofs.lemmas.Slice.Eq.{bytes_eq-Decides}
use Rattle.sql_names.specs.NameBytes.{NameBytes}
use Rattle.cat_items.specs.Plain.{Base, HasBase}
use Rattle.plain_views.specs.Bases.{differ}

abbrev Differ : List NameBytes → Type 0
Differ names = AllPairs (λ a b. a ≢ b) names

parts : (a b : Bool) → (not a && b) ≡ true → (a ≡ false) × (b ≡ true)
parts true b e = absurd (let odd : false ≡ true = e in cc)
parts false b e = (refl, e)

no_name : (name : NameBytes) (names : List NameBytes) → list_any (bytes_eq name) names ≡ false → (k : ℕ) (d : NameBytes) → k < length names → name ≢ get_or names k d
no_name name names none k d low same =
    let found : list_any (bytes_eq name) names ≡ true = list_any_at (bytes_eq name) names k d low ((bytes_eq-Decides name (get_or names k d)).1 same) in
    let odd : true ≡ false = sym found ∙ none in cc

pub they_differ : (names : List NameBytes) → differ names ≡ true → Differ names
they_differ [] e i j d low high = absurd (omega (arith, high))
they_differ (n ∷ ns) e zero zero d low high = absurd (omega (arith, low))
they_differ (n ∷ ns) e zero (suc j) d low high = no_name n ns (parts (list_any (bytes_eq n) ns) (differ ns) e).0 j d (omega (arith, high))
they_differ (n ∷ ns) e (suc i) zero d low high = absurd (omega (arith, low))
they_differ (n ∷ ns) e (suc i) (suc j) d low high = they_differ ns (parts (list_any (bytes_eq n) ns) (differ ns) e).1 i j d (omega (arith, low)) (omega (arith, high))

is_or_not : (a b : NameBytes) → a ≢ b → bytes_eq a b ≡ false
is_or_not a b other = by (bytes_eq a b) refl
  where
    by : (r : Bool) → bytes_eq a b ≡ r → bytes_eq a b ≡ false
    by true e = absurd (other ((bytes_eq-Decides a b).0 e))
    by false e = e

both : (a b : Bool) → a ≡ false → b ≡ true → (not a && b) ≡ true
both a b e f = rw (e, f) refl

pub it_tells : (names : List NameBytes) → Differ names → differ names ≡ true
it_tells [] pairs = refl
it_tells (n ∷ ns) pairs =
    both (list_any (bytes_eq n) ns) (differ ns)
    (list_any_none (bytes_eq n) ns (λ k d low. is_or_not n (get_or ns k d) (pairs 0 (suc k) d (omega arith) (omega (arith, low)))))
    (it_tells ns (λ i j d low high. pairs (suc i) (suc j) d (omega (arith, low)) (omega (arith, high))))

pub has_none : (b : Option Base) → b ≡ None → HasBase b None []
has_none b e = subst (λ z. HasBase z None []) (sym e) (refl, refl)

pub has_plain : (b : Option Base) (plain : Base) → b ≡ Some plain → differ plain.columns ≡ true → HasBase b (Some plain.table) plain.columns
has_plain b plain e is = subst (λ z. HasBase z (Some plain.table) plain.columns) (sym e) (inl (they_differ plain.columns is, refl, refl))

pub has_twice : (b : Option Base) (plain : Base) → b ≡ Some plain → differ plain.columns ≡ false → HasBase b None []
has_twice b plain e is = subst (λ z. HasBase z None []) (sym e) (inr ((λ pairs. let odd : true ≡ false = sym (it_tells plain.columns pairs) ∙ is in cc), refl, refl))
