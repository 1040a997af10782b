-- What many links add.
use Rattle.std.proofs.Common.{◌≡◌, ℕ, ◌<◌, List, [], ◌∷◌, ◌++◌, length, Some, sym, ◌∙◌, ap, refl, inl, inr, arith}
use Rattle.std.specs.List.{All}
use Rattle.std.proofs.lemmas.Bool.{cases_eq}
use Rattle.std.proofs.lemmas.List.{append-nil, append_assoc, get_or-set_other, get_or-set_same, length-set}
use Rattle.std.proofs.lemmas.List.Elements.{All-head, All-tail}
use Rattle.std.proofs.lemmas.Option.{slice_get_within}
use Rattle.item_index.specs.Graphs.{Graph, IsNode, dependents_of, linked, rests_of}
use Rattle.item_index.specs.Shelves.{list_at}
use Rattle.item_index.specs.Undo.{linked_all}
use Rattle.item_index.proofs.GraphLemmas.{dependents_of-cons_other, dependents_of-cons_same, rests_of-cons_other, rests_of-cons_same}
use Rattle.graph_steps.specs.Steps.{HasLists}

module _ {K : Type 0} where
  abbrev HasEnds : Graph K → ℕ × ℕ → Type 0
  HasEnds g l = IsNode g l.0 × IsNode g l.1

  pub same_keys : (g : Graph K) (links : List (ℕ × ℕ)) → (linked_all g links).keys ≡ g.keys
  same_keys g [] = refl
  same_keys g (l ∷ links) = same_keys (linked g l.0 l.1) links

  lists-linked : (g : Graph K) (n m : ℕ) → HasLists g → HasLists (linked g n m)
  lists-linked g n m has = record {
    rests_len = length-set g.rests n (list_at g.rests n ++ m ∷ []) ∙ has.rests_len;
    dependents_len = length-set g.dependents m (list_at g.dependents m ++ n ∷ []) ∙ has.dependents_len;
  }

  pub more_lists : (g : Graph K) (links : List (ℕ × ℕ)) → HasLists g → HasLists (linked_all g links)
  more_lists g [] has = has
  more_lists g (l ∷ links) has = more_lists (linked g l.0 l.1) links (lists-linked g l.0 l.1 has)

  more_rest : (g : Graph K) (a b : ℕ) (links : List (ℕ × ℕ)) (n : ℕ) → a < length g.rests → list_at (linked g a b).rests n ++ rests_of links n ≡ list_at g.rests n ++ rests_of ((a, b) ∷ links) n
  more_rest g a b links n there = elim (cases_eq n a) [
    | inl e ↦
        let here : list_at (linked g a b).rests n ≡ list_at g.rests n ++ b ∷ [] = rw e (get_or-set_same g.rests a (list_at g.rests a ++ b ∷ []) [] there) in
        ap (λ (xs : List ℕ). xs ++ rests_of links n) here ∙ append_assoc (list_at g.rests n) (b ∷ []) (rests_of links n) ∙ sym (ap (λ (xs : List ℕ). list_at g.rests n ++ xs) (rests_of-cons_same n a b links (sym e)))
    | inr ne ↦
        ap (λ (xs : List ℕ). xs ++ rests_of links n) (get_or-set_other g.rests a n (list_at g.rests a ++ b ∷ []) [] ne)
        ∙ sym (ap (λ (xs : List ℕ). list_at g.rests n ++ xs) (rests_of-cons_other n a b links (λ e. ne (sym e))))
  ]

  more_dependent : (g : Graph K) (a b : ℕ) (links : List (ℕ × ℕ)) (n : ℕ) → b < length g.dependents → list_at (linked g a b).dependents n ++ dependents_of links n ≡ list_at g.dependents n ++ dependents_of ((a, b) ∷ links) n
  more_dependent g a b links n there = elim (cases_eq n b) [
    | inl e ↦
        let here : list_at (linked g a b).dependents n ≡ list_at g.dependents n ++ a ∷ [] = rw e (get_or-set_same g.dependents b (list_at g.dependents b ++ a ∷ []) [] there) in
        ap (λ (xs : List ℕ). xs ++ dependents_of links n) here ∙ append_assoc (list_at g.dependents n) (a ∷ []) (dependents_of links n)
        ∙ sym (ap (λ (xs : List ℕ). list_at g.dependents n ++ xs) (dependents_of-cons_same n a b links (sym e)))
    | inr ne ↦
        ap (λ (xs : List ℕ). xs ++ dependents_of links n) (get_or-set_other g.dependents b n (list_at g.dependents b ++ a ∷ []) [] ne)
        ∙ sym (ap (λ (xs : List ℕ). list_at g.dependents n ++ xs) (dependents_of-cons_other n a b links (λ e. ne (sym e))))
  ]

  pub more_rests : (g : Graph K) (links : List (ℕ × ℕ)) → HasLists g → All (λ l. IsNode g l.0 × IsNode g l.1) links → (n : ℕ) → list_at (linked_all g links).rests n ≡ list_at g.rests n ++ rests_of links n
  more_rests g [] has ends n = sym (append-nil (list_at g.rests n))
  more_rests g (l ∷ links) has ends n =
      let here = All-head (HasEnds g) l links ends in
      let within = slice_get_within g.keys l.0 (Some here.0.0) here.0.1 in
      let len = has.rests_len in
      more_rests (linked g l.0 l.1) links (lists-linked g l.0 l.1 has) (All-tail (HasEnds g) l links ends) n ∙ more_rest g l.0 l.1 links n (omega arith)

  pub more_dependents : (g : Graph K) (links : List (ℕ × ℕ)) → HasLists g → All (λ l. IsNode g l.0 × IsNode g l.1) links → (n : ℕ) → list_at (linked_all g links).dependents n ≡ list_at g.dependents n ++ dependents_of links n
  more_dependents g [] has ends n = sym (append-nil (list_at g.dependents n))
  more_dependents g (l ∷ links) has ends n =
      let here = All-head (HasEnds g) l links ends in
      let within = slice_get_within g.keys l.1 (Some here.1.0) here.1.1 in
      let len = has.dependents_len in
      more_dependents (linked g l.0 l.1) links (lists-linked g l.0 l.1 has) (All-tail (HasEnds g) l links ends) n ∙ more_dependent g l.0 l.1 links n (omega arith)
