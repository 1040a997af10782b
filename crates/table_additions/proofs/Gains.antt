-- Lists that gain what is so, piece by piece.
use Rattle.std.proofs.Common.{◌≡◌, ◌⊎◌, ◌↔◌, ℕ, ◌+◌, ◌<◌, ◌≤◌, List, [], ◌∷◌, ◌++◌, length, get_or, take, sym, ◌∙◌, ap, subst, inl, inr, arith}
use Rattle.std.specs.List.{Any, Contains}
use Rattle.std.proofs.lemmas.List.{take_more, take_all}
use Rattle.std.proofs.lemmas.List.Elements.{Contains-append_left, Contains-append_right, Contains-append_cases}
use Rattle.table_needs.proofs.Searches.{any_push}

-- a list has what another one had, and what is so
abbrev pub Gain : {X : Type 0} → List X → List X → (X → Type 0) → Type 0
Gain {X} old new P = (x : X) → Contains new x ↔ (Contains old x ⊎ P x)

module _ {X : Type 0} where
  pub gains_list : (old new more : List X) (P : X → Type 0) → new ≡ old ++ more → ((x : X) → Contains more x ↔ P x) → Gain old new P
  gains_list old new more P is same x = (
    λ h. elim (Contains-append_cases old more x (subst (λ l. Contains l x) is h)) [ inl was ↦ inl was | inr here ↦ inr ((same x).0 here) ],
    λ h. subst (λ l. Contains l x) (sym is) (elim h [ inl was ↦ Contains-append_left old more x was | inr so ↦ Contains-append_right old more x ((same x).1 so) ]),
  )

  -- one gain after another
  pub gains_both : (old mid new : List X) (P Q : X → Type 0) → Gain old mid P → Gain mid new Q → Gain old new (λ x. P x ⊎ Q x)
  gains_both old mid new P Q first second x = (
    λ h. elim ((second x).0 h) [
      | inl was ↦ elim ((first x).0 was) [ inl o ↦ inl o | inr p ↦ inr (inl p) ]
      | inr q ↦ inr (inr q)
    ],
    λ h. elim h [
      | inl o ↦ (second x).1 (inl ((first x).1 (inl o)))
      | inr so ↦ elim so [ inl p ↦ (second x).1 (inl ((first x).1 (inr p))) | inr q ↦ (second x).1 (inr q) ]
    ],
  )

  -- the same, said otherwise
  pub gains_as : (old new : List X) (P Q : X → Type 0) → ((x : X) → P x ↔ Q x) → Gain old new P → Gain old new Q
  gains_as old new P Q same gains x = (
    λ h. elim ((gains x).0 h) [ inl o ↦ inl o | inr p ↦ inr ((same x).0 p) ],
    λ h. (gains x).1 (elim h [ inl o ↦ inl o | inr q ↦ inr ((same x).1 q) ]),
  )

  pub gains_none : (old : List X) (P : X → Type 0) → ((x : X) → ¬ (P x)) → Gain old old P
  gains_none old P none x = (λ h. inl h, λ h. elim h [ inl o ↦ o | inr p ↦ absurd (none x p) ])

  -- member by member of a list
  module _ {Y : Type 0} (P : X → Y → Type 0) (ys : List Y) where
    pub gain_begin : (start : List X) → Gain start start (λ x. Any (P x) (take 0 ys))
    gain_begin start x = (λ h. inl h, λ h. elim h [ inl was ↦ was | inr some ↦ absurd (omega (arith, some.2)) ])

    pub gain_more : (start mid new : List X) (i : ℕ) (y : Y) → i < length ys → y ≡ get_or ys i y → Gain start mid (λ x. Any (P x) (take i ys)) → Gain mid new (λ x. P x y) → Gain start new (λ x. Any (P x) (take (i + 1) ys))
    gain_more start mid new i y within is before here x =
        subst (λ l. Contains new x ↔ (Contains start x ⊎ Any (P x) l)) (sym (take_more ys i y within ∙ ap (λ z. take i ys ++ z ∷ []) (sym is))) (
          λ h. elim ((here x).0 h) [
            | inl was ↦ elim ((before x).0 was) [ inl s ↦ inl s | inr some ↦ inr ((any_push (P x) (take i ys) y).1 (inl some)) ]
            | inr so ↦ inr ((any_push (P x) (take i ys) y).1 (inr so))
          ],
          λ h. (here x).1 (elim h [
            | inl s ↦ inl ((before x).1 (inl s))
            | inr some ↦ elim ((any_push (P x) (take i ys) y).0 some) [ inl early ↦ inl ((before x).1 (inr early)) | inr so ↦ inr so ]
          ]),
        )

    pub gain_all : (start new : List X) (i : ℕ) → length ys ≤ i → Gain start new (λ x. Any (P x) (take i ys)) → Gain start new (λ x. Any (P x) ys)
    gain_all start new i all gains x = subst (λ l. Contains new x ↔ (Contains start x ⊎ Any (P x) l)) (take_all i ys all) (gains x)
