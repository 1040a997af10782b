-- Lists that loops go through.
use Rattle.std.proofs.Common.{◌≡◌, ℕ, ◌+◌, ◌<◌, ◌≤◌, List, [], ◌∷◌, ◌++◌, length, take, get_or, sym, ap, subst, ◌∙◌}
use Rattle.std.proofs.lemmas.List.{take_more, take_all}

module _ {X : Type 0} (xs shown : List X) (i : ℕ) (same : shown ≡ xs) where
  -- one element more
  pub take_next : (x : X) → i < length shown → x ≡ get_or shown i x → take (i + 1) xs ≡ take i xs ++ x ∷ []
  take_next x low is =
      subst (λ l. take (i + 1) l ≡ take i l ++ x ∷ []) same (take_more shown i x low ∙ ap (λ z. take i shown ++ z ∷ []) (sym is))

  -- all elements
  pub take_whole : length shown ≤ i → take i xs ≡ xs
  take_whole done = subst (λ l. take i l ≡ l) same (take_all i shown done)
