-- Lists that grow at their end.
use Rattle.std.proofs.Common.{◌≡◌, ◌⊎◌, ℕ, ◌<◌, List, [], ◌∷◌, ◌++◌, length, get_or, sym, ◌∙◌, ap, subst, refl, inl, inr, append_assoc}
use Rattle.std.specs.List.{Contains}
use Rattle.std.proofs.lemmas.List.{append-nil, get_or_append_left}
use Rattle.std.proofs.lemmas.List.Elements.{All-nil, All-cons, All-append, All-weaker, All-contains, Contains-append_left, Contains-append_cases}
use Rattle.role_graph.specs.Trails.{GrewBy}

pub grew_none : {X : Type 0} (P : X → Type 0) (xs : List X) → GrewBy P xs xs
grew_none P xs = ([], sym (append-nil xs), All-nil P)

pub grew_one : {X : Type 0} (P : X → Type 0) (xs : List X) (x : X) → P x → GrewBy P xs (xs ++ x ∷ [])
grew_one P xs x p = (x ∷ [], refl, All-cons P x [] p (All-nil P))

pub grew_more : {X : Type 0} (P Q : X → Type 0) (a b c : List X) → GrewBy P a b → GrewBy Q b c → ((x : X) → Q x → P x) → GrewBy P a c
grew_more P Q a b c first then weaker =
    (first.0 ++ then.0, then.1 ∙ ap (λ l. l ++ then.0) first.1 ∙ append_assoc a first.0 then.0, All-append P first.0 then.0 first.2 (All-weaker Q P weaker then.0 then.2))

pub grew_keeps : {X : Type 0} (P : X → Type 0) (a b : List X) → GrewBy P a b → (x : X) → Contains a x → Contains b x
grew_keeps P a b grew x c = subst (λ l. Contains l x) (sym grew.1) (Contains-append_left a grew.0 x c)

pub grew_cases : {X : Type 0} (P : X → Type 0) (a b : List X) → GrewBy P a b → (x : X) → Contains b x → Contains a x ⊎ P x
grew_cases P a b grew x c =
    elim (Contains-append_cases a grew.0 x (subst (λ l. Contains l x) grew.1 c)) [
      | inl old ↦ inl old
      | inr new ↦ inr (All-contains P grew.0 x grew.2 new)
    ]

pub grew_at : {X : Type 0} (P : X → Type 0) (a b : List X) → GrewBy P a b → (j : ℕ) (d : X) → j < length a → get_or b j d ≡ get_or a j d
grew_at P a b grew j d low = ap (λ l. get_or l j d) grew.1 ∙ get_or_append_left a grew.0 d j low
