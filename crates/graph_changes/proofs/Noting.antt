-- The numbers of keys as they are put in, and links by them.
use Rattle.std.proofs.Common.{◌≡◌, ℕ, suc, List, [], ◌∷◌, ◌++◌, length, map, sym, ◌∙◌, ap, refl, append_assoc}
use Rattle.std.specs.List.{All}
use Rattle.std.proofs.lemmas.List.{append-nil}
use Rattle.item_index.specs.Graphs.{Graph, inserted, linked, next_number}
use Rattle.item_index.specs.Undo.{linked_all, numbers_given}
use Rattle.graph_changes.specs.declared.ends.End.{End}
use Rattle.graph_changes.specs.Ends.{link_of, number_of}
use Rattle.graph_changes.proofs.Turning.{HasEnds, ends_rest, linked_next}

module _ {K : Type 0} where
  pub given_next : (g next : Graph K) (xs rest : List K) (k : K) (before after : List ℕ) (n : ℕ) → xs ≡ k ∷ rest → next ≡ inserted g k → n ≡ next_number g → after ≡ before ++ n ∷ []
      → after ++ numbers_given next rest ≡ before ++ numbers_given g xs
  given_next g next xs rest k before after n e is number items =
      ap (λ (ns : List ℕ). ns ++ numbers_given next rest) items ∙ append_assoc before (n ∷ []) (numbers_given next rest)
      ∙ ap (λ (m : ℕ). before ++ m ∷ numbers_given next rest) number
      ∙ ap (λ (h : Graph K). before ++ next_number g ∷ numbers_given h rest) is
      ∙ sym (ap (λ (ks : List K). before ++ numbers_given g ks) e)

  pub all_given : (g : Graph K) (numbers : List ℕ) (left : List K) → left ≡ [] → numbers ≡ numbers ++ numbers_given g left
  all_given g numbers left none = sym (append-nil numbers) ∙ sym (ap (λ (ks : List K). numbers ++ numbers_given g ks) none)

  -- links by these numbers
  module _ (g next : Graph K) (given : List ℕ) (xs rest : List (End × End)) (a b : End) (m n : ℕ) (e : xs ≡ (a, b) ∷ rest) (from : m ≡ number_of given a) (to : n ≡ number_of given b) (is : next ≡ linked g m n) where
    by_numbers : next ≡ linked g (number_of given a) (number_of given b)
    by_numbers = is ∙ ap (λ (i : ℕ). linked g i n) from ∙ ap (λ (i : ℕ). linked g (number_of given a) i) to

    pub linked_more : linked_all next (map (link_of given) rest) ≡ linked_all g (map (link_of given) xs)
    linked_more = linked_next g next (map (link_of given) xs) (map (link_of given) rest) (link_of given (a, b)) (ap (map (link_of given)) e) by_numbers

    pub ends_more : All (HasEnds g) (map (link_of given) xs) → All (HasEnds next) (map (link_of given) rest)
    ends_more ends = ends_rest g next (map (link_of given) xs) (map (link_of given) rest) (link_of given (a, b)) (ap (map (link_of given)) e) by_numbers ends

  pub length-given : (g : Graph K) (keys : List K) → length (numbers_given g keys) ≡ length keys
  length-given g [] = refl
  length-given g (k ∷ keys) = ap (λ (n : ℕ). suc n) (length-given (inserted g k) keys)

  -- what was noted in place of nothing
  pub noted : (index g : Graph K) (keys : List K) (before after : List ℕ) → index ≡ g → before ≡ [] → after ≡ before ++ numbers_given index keys → after ≡ numbers_given g keys
  noted index g keys before after is none items = items ∙ ap (λ (ns : List ℕ). ns ++ numbers_given index keys) none ∙ ap (λ (h : Graph K). numbers_given h keys) is
