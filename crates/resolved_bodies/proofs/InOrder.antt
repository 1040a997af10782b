-- Parts that resolve in order, and what holds of each.
use Rattle.std.proofs.Common.{◌≡◌, suc, List, [], ◌∷◌, ◌++◌, append_assoc, Ok, length, ap, sym, ◌∙◌, subst, refl}
use Rattle.name_scopes.specs.Outcomes.{Outcome}
use Rattle.resolved_trees.proofs.Everies.{Every}
use Rattle.resolved_trees.proofs.Outcomes.{bound, ok_is}
use Rattle.routine_deps.specs.BodyNames.{in_order}

-- each part comes to the one at its place
abbrev pub Come : {A B : Type 0} → (A → Outcome B) → List A → List B → Type 0
Come f [] [] = Unit {0}
Come f (x ∷ xs) (y ∷ ys) = (f x ≡ Ok y) × Come f xs ys
Come f xs ys = ⊥

module _ {A B : Type 0} (f : A → Outcome B) where
  behind : (before : List B) (xs : List A) (ys : List B) → in_order f before xs ≡ Ok ys → (zs : List B) × (ys ≡ before ++ zs) × Come f xs zs
  behind before [] ys e = ([], sym (ok_is before ys e) ∙ empty before, tt)
    where
      empty : (zs : List B) → zs ≡ zs ++ []
      empty [] = refl
      empty (z ∷ zs) = ap (λ l. z ∷ l) (empty zs)
  behind before (x ∷ xs) ys e =
      let b = bound (f x) (λ y. in_order f (before ++ y ∷ []) xs) ys e in
      let rest = behind (before ++ b.0 ∷ []) xs ys b.2 in
      (b.0 ∷ rest.0, rest.1 ∙ append_assoc before (b.0 ∷ []) rest.0, (b.1, rest.2))

  pub come : (xs : List A) (ys : List B) → in_order f [] xs ≡ Ok ys → Come f xs ys
  come xs ys e = let all = behind [] xs ys e in subst (Come f xs) (sym all.1) all.2

  pub come_length : (xs : List A) (ys : List B) → Come f xs ys → length ys ≡ length xs
  come_length [] [] all = refl
  come_length (x ∷ xs) (y ∷ ys) all = let rest = come_length xs ys all.1 in cons_length ys xs rest
    where
      cons_length : (ys : List B) (xs : List A) → length ys ≡ length xs → length (y ∷ ys) ≡ length (x ∷ xs)
      cons_length ys xs e = ap (λ n. suc n) e
  come_length [] (y ∷ ys) all = absurd all
  come_length (x ∷ xs) [] all = absurd all

  pub come_every : (P : A → Type 0) (Q R : B → Type 0) → ((x : A) (y : B) → f x ≡ Ok y → P x → Q y → R y) → (xs : List A) (ys : List B) → Come f xs ys → Every P xs → Every Q ys → Every R ys
  come_every P Q R each [] [] all p q = tt
  come_every P Q R each (x ∷ xs) (y ∷ ys) all p q = (each x y all.0 p.0 q.0, come_every P Q R each xs ys all.1 p.1 q.1)
  come_every P Q R each [] (y ∷ ys) all p q = absurd all
  come_every P Q R each (x ∷ xs) [] all p q = absurd all
