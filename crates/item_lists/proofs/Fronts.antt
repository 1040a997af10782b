-- The front of a list, a part behind it, and the rest.
use Rattle.std.proofs.Common.{◌≡◌, ℕ, ◌+◌, ◌-◌, ◌<◌, ◌≤◌, List, [], ◌∷◌, ◌++◌, length, take, drop, get_or, sym, ◌∙◌, ap, arith}
use Rattle.std.specs.List.{between}
use Rattle.std.proofs.lemmas.List.{drop-drop, drop_more, take-append-drop, take-take, take_more}
use Rattle.std.proofs.lemmas.Slice.{between_is}

module _ {X : Type 0} (xs : List X) where
  pub front_more : (from to : ℕ) → from ≤ to → take to xs ≡ take from xs ++ between from to xs
  front_more from to up = sym (take-append-drop from (take to xs)) ∙ ap (λ l. l ++ drop from (take to xs)) (take-take from to xs up) ∙ ap (λ l. take from xs ++ l) (sym (between_is xs from to))

  pub rest_more : (from to : ℕ) → from ≤ to → drop from xs ≡ between from to xs ++ drop to xs
  rest_more from to up =
      let same : from + (to - from) ≡ to = omega (arith, up) in
      sym (take-append-drop (to - from) (drop from xs)) ∙ ap (λ l. between from to xs ++ l) (drop-drop (to - from) from xs ∙ ap (λ n. drop n xs) same)

  module _ (at : ℕ) (x : X) (low : at < length xs) (is : x ≡ get_or xs at x) where
    pub front_next : take (at + 1) xs ≡ take at xs ++ x ∷ []
    front_next = take_more xs at x low ∙ ap (λ y. take at xs ++ y ∷ []) (sym is)

    pub rest_next : drop at xs ≡ x ∷ drop (at + 1) xs
    rest_next = drop_more xs at x low ∙ ap (λ y. y ∷ drop (at + 1) xs) (sym is)
