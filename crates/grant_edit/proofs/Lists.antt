-- Lists that loops go through.
use Rattle.std.proofs.Common.{◌==◌, Bool, true, false, not, Option, Some, None, ◌≡◌, ◌⊎◌, ◌↔◌, inl, inr, ℕ, ◌+◌, ◌<◌, List, [], ◌∷◌, ◌++◌, length, take, get_or, map, append_assoc, sym, ap, subst, refl, ◌∙◌}
use Rattle.std.specs.List.{Contains, flat_map}
use Rattle.std.specs.Option.{is_some}
use Rattle.std.specs.Result.{OnOk}
use Rattle.std.specs.declared.result.Result.{Result}
use Rattle.std.specs.declared.result.Result.TheVariants.{Ok, Err}
use Rattle.std.proofs.lemmas.List.{append-nil, map-append}
use Rattle.std.proofs.lemmas.List.Concat.{flat_map-append}
use Rattle.std.proofs.lemmas.List.Elements.{Contains-append_left, Contains-append_right, Contains-append_cases, Contains-push, Contains-push_cases}
use Rattle.finite_chains.proofs.Members.{Contains-nil, Contains-head, Contains-tail, Contains-cases}
use Rattle.edit_rules.proofs.Lists.{take_next}

module _ {X : Type 0} (xs shown : List X) (i : ℕ) (same : shown ≡ xs) where
  -- the element is in the list
  pub contains_at : (x : X) → i < length shown → x ≡ get_or shown i x → Contains xs x
  contains_at x low is = subst (λ l. Contains l x) same (i, low, sym is)

  -- one element more of what is made of each
  pub map_next : {Y : Type 0} → (f : X → Y) (base : List Y) (x : X) → i < length shown → x ≡ get_or shown i x → (base ++ map f (take i xs)) ++ f x ∷ [] ≡ base ++ map f (take (i + 1) xs)
  map_next f base x low is =
      append_assoc base (map f (take i xs)) (f x ∷ []) ∙ ap (λ l. base ++ l) (sym (map-append f (take i xs) (x ∷ []))) ∙ ap (λ l. base ++ map f l) (sym (take_next xs shown i same x low is))

  pub flat_next : {Y : Type 0} → (f : X → List Y) (x : X) → i < length shown → x ≡ get_or shown i x → flat_map f (take i xs) ++ f x ≡ flat_map f (take (i + 1) xs)
  flat_next f x low is =
      ap (λ l. flat_map f (take i xs) ++ l) (sym (append-nil (f x))) ∙ sym (flat_map-append f (take i xs) (x ∷ [])) ∙ ap (λ l. flat_map f l) (sym (take_next xs shown i same x low is))

-- what is made of the elements
pub contains_map : {X Y : Type 0} (f : X → Y) (xs : List X) (y : Y) → Contains (map f xs) y ↔ ((x : X) × Contains xs x × (f x ≡ y))
contains_map {X} {Y} f xs y = (to xs, λ h. subst (Contains (map f xs)) h.2 (from xs h.0 h.1))
  where
    to : (xs : List X) → Contains (map f xs) y → (x : X) × Contains xs x × (f x ≡ y)
    to [] h = absurd (Contains-nil y h)
    to (x ∷ xs) h =
        elim (Contains-cases (f x) (map f xs) y h) [
          | inl e ↦ (x, Contains-head x xs, e)
          | inr later ↦ let r = to xs later in (r.0, Contains-tail x xs r.0 r.1, r.2)
        ]

    from : (xs : List X) (x : X) → Contains xs x → Contains (map f xs) (f x)
    from [] x h = absurd (Contains-nil x h)
    from (z ∷ xs) x h =
        elim (Contains-cases z xs x h) [
          | inl e ↦ subst (λ w. Contains (f z ∷ map f xs) (f w)) e (Contains-head (f z) (map f xs))
          | inr later ↦ Contains-tail (f z) (map f xs) (f x) (from xs x later)
        ]

-- what is made of some element
pub contains_flat : {X Y : Type 0} (f : X → List Y) (xs : List X) (y : Y) → Contains (flat_map f xs) y → (x : X) × Contains xs x × Contains (f x) y
contains_flat f [] y h = absurd (Contains-nil y h)
contains_flat f (x ∷ xs) y h =
    elim (Contains-append_cases (f x) (flat_map f xs) y h) [
      | inl here ↦ (x, Contains-head x xs, here)
      | inr later ↦ let r = contains_flat f xs y later in (r.0, Contains-tail x xs r.0 r.1, r.2)
    ]

-- a list of one
pub contains_one : {X : Type 0} (x y : X) → Contains (x ∷ []) y → x ≡ y
contains_one x y h = elim (Contains-cases x [] y h) [ inl e ↦ e | inr none ↦ absurd (Contains-nil y none) ]

pub contains_push : {X : Type 0} (xs : List X) (x y : X) → Contains (xs ++ x ∷ []) y ↔ (Contains xs y ⊎ (x ≡ y))
contains_push xs x y = (Contains-push_cases xs x y, from)
  where
    from : Contains xs y ⊎ (x ≡ y) → Contains (xs ++ x ∷ []) y
    from (inl h) = Contains-append_left xs (x ∷ []) y h
    from (inr e) = subst (Contains (xs ++ x ∷ [])) e (Contains-push xs x)

pub contains_both : {X : Type 0} (xs ys : List X) (y : X) → Contains (xs ++ ys) y ↔ (Contains xs y ⊎ Contains ys y)
contains_both xs ys y = (Contains-append_cases xs ys y, from)
  where
    from : Contains xs y ⊎ Contains ys y → Contains (xs ++ ys) y
    from (inl h) = Contains-append_left xs ys y h
    from (inr h) = Contains-append_right xs ys y h

-- a list that is not empty has an element
pub some_of : {X : Type 0} (xs : List X) → (xs ≡ [] → ⊥) → (x : X) × Contains xs x
some_of [] other = absurd (other refl)
some_of (x ∷ xs) other = (x, Contains-head x xs)

-- ---- options and results

pub none_if : {X : Type 0} (o : Option X) → is_some o ≡ false → o ≡ None
none_if None e = refl
none_if (Some x) e = cc

pub some_if : {X : Type 0} (o : Option X) (none : Bool) → is_some o ≡ not none → none ≡ false → o ≡ None → ⊥
some_if None true e f g = cc
some_if None false e f g = cc
some_if (Some x) none e f g = cc

pub on_ok_more : {T E : Type 0} (r : Result T E) (P Q : Type 0) → (P → Q) → OnOk r P → OnOk r Q
on_ok_more (Ok x) P Q more h = more h
on_ok_more (Err e) P Q more h = tt

pub some_shown : {X : Type 0} (xs shown : List X) → shown ≡ xs → false ≡ (length shown == 0) → (x : X) × Contains xs x
some_shown xs [] same e = cc
some_shown xs (x ∷ shown) same e = (x, subst (λ l. Contains l x) same (Contains-head x shown))
