-- Which refusal comes first.
use Rattle.std.proofs.Common.{◌≡◌, List, [], ◌∷◌, ◌++◌, map, sym, subst, inl, inr}
use Rattle.cat_items.specs.declared.edit.Refusal.{Refusal}
use Rattle.std.specs.Result.{IsErrAnd}
use Rattle.std.specs.declared.result.Result.{Result}
use Rattle.std.specs.declared.result.Result.TheVariants.{Ok, Err}
use Rattle.cat_items.specs.declared.edit.EditError.{EditError}
use Rattle.cat_items.specs.declared.edit.EditError.TheVariants.{Refused, Memory}
use Rattle.edit_rules.specs.First.{First, Passes, Tested, IsTested, tests_of}

-- where no test is left, nothing refuses
pub passes_none : Passes (First [])
passes_none refusal h = h

-- where a test passes and the others do, all do
pub passes_more : (test : Refusal → Type 0) (tests : List (Refusal → Type 0)) → Passes test → Passes (First tests) → Passes (First (test ∷ tests))
passes_more test tests here later refusal h = elim h [ inl r ↦ here refusal r | inr r ↦ later refusal r.1 ]

-- and the other way round
pub passes_first : (test : Refusal → Type 0) (tests : List (Refusal → Type 0)) → Passes (First (test ∷ tests)) → Passes test
passes_first test tests all refusal r = all refusal (inl r)

pub passes_rest : (test : Refusal → Type 0) (tests : List (Refusal → Type 0)) → Passes (First (test ∷ tests)) → Passes (First tests)
passes_rest test tests all refusal r = all refusal (inr (passes_first test tests all, r))

-- two refusals of one test are one
abbrev pub IsSettled : (Refusal → Type 0) → Type 0
IsSettled test = (a b : Refusal) → test a → test b → a ≡ b

abbrev pub AreSettled : List (Refusal → Type 0) → Type 0
AreSettled [] = Unit {0}
AreSettled (test ∷ tests) = IsSettled test × AreSettled tests

pub first_settled : (tests : List (Refusal → Type 0)) → AreSettled tests → IsSettled (First tests)
first_settled [] all a b p q = absurd p
first_settled (test ∷ tests) all a b p q =
    elim p [
      | inl x ↦ elim q [ inl y ↦ all.0 a b x y | inr y ↦ absurd (y.0 a x) ]
      | inr x ↦ elim q [ inl y ↦ absurd (x.0 b y) | inr y ↦ first_settled tests all.1 a b x.1 y.1 ]
    ]

-- tests behind others
pub settled_append : (a b : List (Refusal → Type 0)) → AreSettled a → AreSettled b → AreSettled (a ++ b)
settled_append [] b p q = q
settled_append (test ∷ a) b p q = (p.0, settled_append a b p.1 q)

-- one test for each member of a list
pub settled_map : {X : Type 0} (test : X → Refusal → Type 0) → ((x : X) → IsSettled (test x)) → (xs : List X) → AreSettled (map test xs)
settled_map test each [] = tt
settled_map test each (x ∷ xs) = (each x, settled_map test each xs)

-- the tests of each member
pub settled_each : {X : Type 0} (tests : X → List (Refusal → Type 0)) → ((x : X) → AreSettled (tests x)) → (xs : List X) → AreSettled (tests_of tests xs)
settled_each tests each [] = tt
settled_each tests each (x ∷ xs) = settled_append (tests x) (tests_of tests xs) (each x) (settled_each tests each xs)

-- a refusal by tests in front of others, and by tests behind those that pass
pub first_left : (tests others : List (Refusal → Type 0)) (refusal : Refusal) → First tests refusal → First (tests ++ others) refusal
first_left [] others refusal h = absurd h
first_left (test ∷ tests) others refusal h = elim h [ inl r ↦ inl r | inr r ↦ inr (r.0, first_left tests others refusal r.1) ]

pub first_right : (tests others : List (Refusal → Type 0)) (refusal : Refusal) → Passes (First tests) → First others refusal → First (tests ++ others) refusal
first_right [] others refusal all h = h
first_right (test ∷ tests) others refusal all h = inr (passes_first test tests all, first_right tests others refusal (passes_rest test tests all) h)

pub passes_both : (tests others : List (Refusal → Type 0)) → Passes (First tests) → Passes (First others) → Passes (First (tests ++ others))
passes_both [] others all more = more
passes_both (test ∷ tests) others all more =
    passes_more test (tests ++ others) (passes_first test tests all) (passes_both tests others (passes_rest test tests all) more)

-- where a list of tests passes, its beginning and its rest pass
pub passes_front : (tests others : List (Refusal → Type 0)) → Passes (First (tests ++ others)) → Passes (First tests)
passes_front tests others all refusal h = all refusal (first_left tests others refusal h)

pub passes_behind : (tests others : List (Refusal → Type 0)) → Passes (First (tests ++ others)) → Passes (First others)
passes_behind tests others all refusal h = all refusal (first_right tests others refusal (passes_front tests others all) h)

-- one test
pub passes_one : (test : Refusal → Type 0) → Passes test → Passes (First (test ∷ []))
passes_one test here = passes_more test [] here passes_none

pub passes_that : (test : Refusal → Type 0) → Passes (First (test ∷ [])) → Passes test
passes_that test all = passes_first test [] all

-- an error of the first tests is one of all
pub error_of_first : {T U : Type 0} → (tests others : List (Refusal → Type 0)) (Done : T → Type 0) (AllDone : U → Type 0) (e : EditError)
    → IsTested tests Done (Err e) → IsTested (tests ++ others) AllDone (Err e)
error_of_first tests others Done AllDone (Refused refusal) h = (first_left tests others refusal h.0, tt)
error_of_first tests others Done AllDone Memory h = tt

-- an error of the others, where the first pass
pub error_of_others : {T U : Type 0} → (tests others : List (Refusal → Type 0)) (Done : T → Type 0) (AllDone : U → Type 0) (e : EditError)
    → Passes (First tests) → IsTested others Done (Err e) → IsTested (tests ++ others) AllDone (Err e)
error_of_others tests others Done AllDone (Refused refusal) passed h = (first_right tests others refusal passed h.0, tt)
error_of_others tests others Done AllDone Memory passed h = tt

-- what comes of the others, where the first pass
pub tested_by_others : {T : Type 0} → (tests others : List (Refusal → Type 0)) (Done : T → Type 0) (tested : Result T EditError)
    → Passes (First tests) → IsTested others Done tested → IsTested (tests ++ others) Done tested
tested_by_others tests others Done (Ok value) passed h = (passes_both tests others passed h.0, h.1)
tested_by_others tests others Done (Err e) passed h = error_of_others tests others Done Done e passed h

-- the exit of a `?` with an error of the first tests
pub exit_of_first : {T U : Type 0} → (tests others : List (Refusal → Type 0)) (Done : T → Type 0) (AllDone : U → Type 0) (e : EditError) (exit : Result U EditError)
    → IsErrAnd exit (λ error. error ≡ e) → IsTested tests Done (Err e) → IsTested (tests ++ others) AllDone exit
exit_of_first tests others Done AllDone e (Ok value) is h = absurd is
exit_of_first tests others Done AllDone e (Err error) is h = subst (λ x. IsTested (tests ++ others) AllDone (Err x)) (sym is) (error_of_first tests others Done AllDone e h)

-- the same with an error of the others, where the first pass
pub exit_of_others : {T U : Type 0} → (tests others : List (Refusal → Type 0)) (Done : T → Type 0) (AllDone : U → Type 0) (e : EditError) (exit : Result U EditError)
    → IsErrAnd exit (λ error. error ≡ e) → Passes (First tests) → IsTested others Done (Err e) → IsTested (tests ++ others) AllDone exit
exit_of_others tests others Done AllDone e (Ok value) is passed h = absurd is
exit_of_others tests others Done AllDone e (Err error) is passed h = subst (λ x. IsTested (tests ++ others) AllDone (Err x)) (sym is) (error_of_others tests others Done AllDone e passed h)
