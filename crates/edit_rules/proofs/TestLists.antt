-- Tests of the members of a list, which a loop tries one after the other.
use Rattle.std.proofs.Common.{◌≡◌, ℕ, ◌+◌, ◌<◌, ◌≤◌, List, [], ◌∷◌, ◌++◌, length, take, drop, get_or, map, append_assoc, sym, ap, subst, refl, ◌∙◌}
use Rattle.std.specs.Result.{IsErrAnd}
use Rattle.std.specs.declared.result.Result.{Result}
use Rattle.std.specs.declared.result.Result.TheVariants.{Ok, Err}
use Rattle.std.proofs.lemmas.List.{append-nil, take-append-drop}
use Rattle.cat_items.specs.declared.edit.EditError.{EditError}
use Rattle.cat_items.specs.declared.edit.EditError.TheVariants.{Refused, Memory}
use Rattle.cat_items.specs.declared.edit.Refusal.{Refusal}
use Rattle.edit_rules.specs.First.{First, HasPassed, Passes, tests_of}
use Rattle.edit_rules.proofs.FirstLaws.{first_left, first_right, passes_both}
use Rattle.edit_rules.proofs.Lists.{take_next, take_whole}

tests_of-append : {X : Type 0} (tests : X → List (Refusal → Type 0)) (xs ys : List X) → tests_of tests (xs ++ ys) ≡ tests_of tests xs ++ tests_of tests ys
tests_of-append tests [] ys = refl
tests_of-append tests (x ∷ xs) ys = ap (λ l. tests x ++ l) (tests_of-append tests xs ys) ∙ sym (append_assoc (tests x) (tests_of tests xs) (tests_of tests ys))

-- all tests of the members before a place pass
abbrev pub PassBelow : {X : Type 0} → (X → List (Refusal → Type 0)) → List X → ℕ → Type 0
PassBelow tests xs i = Passes (First (tests_of tests (take i xs)))

module _ {X : Type 0} (tests : X → List (Refusal → Type 0)) (xs shown : List X) (i : ℕ) (same : shown ≡ xs) where
  next : (x : X) → i < length shown → x ≡ get_or shown i x → tests_of tests (take i xs) ++ tests x ≡ tests_of tests (take (i + 1) xs)
  next x low is =
      ap (λ l. tests_of tests (take i xs) ++ l) (sym (append-nil (tests x))) ∙ sym (tests_of-append tests (take i xs) (x ∷ [])) ∙ ap (λ l. tests_of tests l) (sym (take_next xs shown i same x low is))

  -- one member more
  pub pass_next : (x : X) → i < length shown → x ≡ get_or shown i x → PassBelow tests xs i → Passes (First (tests x)) → PassBelow tests xs (i + 1)
  pass_next x low is before here = subst (λ l. Passes (First l)) (next x low is) (passes_both (tests_of tests (take i xs)) (tests x) before here)

  -- all members
  pub pass_all : length shown ≤ i → PassBelow tests xs i → Passes (First (tests_of tests xs))
  pass_all done before = subst (λ l. Passes (First (tests_of tests l))) (take_whole xs shown i same done) before

  -- the first member that is refused
  pub fails_at : (x : X) (refusal : Refusal) → i < length shown → x ≡ get_or shown i x → PassBelow tests xs i → First (tests x) refusal → First (tests_of tests xs) refusal
  fails_at x refusal low is before here =
      let whole : tests_of tests (take (i + 1) xs) ++ tests_of tests (drop (i + 1) xs) ≡ tests_of tests xs = sym (tests_of-append tests (take (i + 1) xs) (drop (i + 1) xs)) ∙ ap (λ l. tests_of tests l) (take-append-drop (i + 1) xs) in
      let front : First (tests_of tests (take (i + 1) xs)) refusal = subst (λ l. First l refusal) (next x low is) (first_right (tests_of tests (take i xs)) (tests x) refusal before here) in
      subst (λ l. First l refusal) whole (first_left (tests_of tests (take (i + 1) xs)) (tests_of tests (drop (i + 1) xs)) refusal front)

  error_at : (T U : Type 0) (x : X) (e : EditError) → i < length shown → x ≡ get_or shown i x → PassBelow tests xs i → HasPassed {T = T} (tests x) (Err e) → HasPassed {T = U} (tests_of tests xs) (Err e)
  error_at T U x (Refused refusal) low is before here = (fails_at x refusal low is before here.0, tt)
  error_at T U x Memory low is before here = tt

  -- the exit of a `?` with an error of a member's tests
  pub exit_at : (T U : Type 0) (x : X) (e : EditError) (exit : Result U EditError) → IsErrAnd exit (λ error. error ≡ e) → i < length shown → x ≡ get_or shown i x → PassBelow tests xs i
      → HasPassed {T = T} (tests x) (Err e) → HasPassed {T = U} (tests_of tests xs) exit
  exit_at T U x e (Ok value) err low is before here = absurd err
  exit_at T U x e (Err error) err low is before here = subst (λ z. HasPassed {T = U} (tests_of tests xs) (Err z)) (sym err) (error_at T U x e low is before here)

-- ---- one test for each member

map_each : {X : Type 0} (test : X → Refusal → Type 0) (xs : List X) → tests_of (λ x. test x ∷ []) xs ≡ map test xs
map_each test [] = refl
map_each test (x ∷ xs) = ap (λ l. test x ∷ l) (map_each test xs)

module _ {X : Type 0} (test : X → Refusal → Type 0) (xs shown : List X) (i : ℕ) (same : shown ≡ xs) where
  -- the tests of the members before a place pass
  abbrev pub EachBelow : Type 0
  EachBelow = Passes (First (map test (take i xs)))

  below : EachBelow → PassBelow (λ x. test x ∷ []) xs i
  below before = subst (λ l. Passes (First l)) (sym (map_each test (take i xs))) before

  pub each_next : (x : X) → i < length shown → x ≡ get_or shown i x → EachBelow → Passes (First (test x ∷ [])) → Passes (First (map test (take (i + 1) xs)))
  each_next x low is before here = subst (λ l. Passes (First l)) (map_each test (take (i + 1) xs)) (pass_next (λ y. test y ∷ []) xs shown i same x low is (below before) here)

  pub each_pass_all : length shown ≤ i → EachBelow → Passes (First (map test xs))
  each_pass_all done before = subst (λ l. Passes (First (map test l))) (take_whole xs shown i same done) before

  pub each_fails_at : (x : X) (refusal : Refusal) → i < length shown → x ≡ get_or shown i x → EachBelow → First (test x ∷ []) refusal → First (map test xs) refusal
  each_fails_at x refusal low is before here = subst (λ l. First l refusal) (map_each test xs) (fails_at (λ y. test y ∷ []) xs shown i same x refusal low is (below before) here)

  pub each_exit_at : (T U : Type 0) (x : X) (e : EditError) (exit : Result U EditError) → IsErrAnd exit (λ error. error ≡ e) → i < length shown → x ≡ get_or shown i x → EachBelow
      → HasPassed {T = T} (test x ∷ []) (Err e) → HasPassed {T = U} (map test xs) exit
  each_exit_at T U x e exit err low is before here = subst (λ l. HasPassed {T = U} l exit) (map_each test xs) (exit_at (λ y. test y ∷ []) xs shown i same T U x e exit err low is (below before) here)
