-- What a look-up by place says of the place.
use Rattle.std.proofs.Common.{◌≡◌, ℕ, ◌+◌, ◌<◌, ◌≤◌, List, [], ◌∷◌, ◌++◌, length, get_or, take, Some, None, slice_get, refl, sym, ◌∙◌, ap, inl, inr, arith}
use Rattle.std.specs.List.{Contains}
use Rattle.std.proofs.lemmas.List.{get_or-take, length-take-le, take_more}
use Rattle.std.proofs.lemmas.Option.{get_or_from_slice_get, slice_get_cases}

pub place_of_some : (xs : List ℕ) (i x : ℕ) → Some x ≡ slice_get xs i → (i < length xs) × (take (i + 1) xs ≡ take i xs ++ x ∷ [])
place_of_some xs i x e = elim ((slice_get_cases xs i).1) [
  | inl there ↦ (there.1, take_more xs i x there.1 ∙ ap (λ y. take i xs ++ y ∷ []) (get_or_from_slice_get xs i x x (sym e)))
  | inr past ↦ absurd (never (sym past.1 ∙ sym e))
]
  where
    never : None ≡ Some x → ⊥
    never e = cc

pub past_of_none : (xs : List ℕ) (i : ℕ) → None ≡ slice_get xs i → length xs ≤ i
past_of_none xs i e = elim ((slice_get_cases xs i).1) [ inl there ↦ absurd (never there.0 (sym there.2 ∙ sym e)) | inr past ↦ past.0 ]
  where
    never : (x : ℕ) → Some x ≡ None → ⊥
    never x e = cc

pub Contains-from_take : (n : ℕ) (xs : List ℕ) (x : ℕ) → n ≤ length xs → Contains (take n xs) x → Contains xs x
Contains-from_take n xs x fits (k, within, is) = (k, omega (arith, within, length-take-le n xs fits), sym (get_or-take n xs k x (omega (arith, within, length-take-le n xs fits))) ∙ is)

pub read_of_some : (xs : List ℕ) (i x : ℕ) → Some x ≡ slice_get xs i → x ≡ get_or xs i x
read_of_some xs i x e = sym (get_or_from_slice_get xs i x x (sym e))

pub Contains-of_some : (xs : List ℕ) (i x : ℕ) → Some x ≡ slice_get xs i → Contains xs x
Contains-of_some xs i x e = (i, (place_of_some xs i x e).0, sym (read_of_some xs i x e))

pub nothing_of_none : (xs : List ℕ) → length xs ≡ 0 → xs ≡ []
nothing_of_none [] e = refl
nothing_of_none (x ∷ xs) e = absurd (omega (arith, e))
