-- Results of tests.
use Rattle.std.proofs.Common.{◌≡◌, ◌≢◌, ◌↔◌, List, [], ◌∷◌, ◌++◌, subst, sym, inl, inr}
use Rattle.std.specs.Result.{IsErrAnd}
use Rattle.std.specs.declared.result.Result.{Result}
use Rattle.std.specs.declared.result.Result.TheVariants.{Ok, Err}
use Rattle.sql_names.specs.declared.object.Object.{Object}
use Rattle.cat_items.specs.declared.edit.EditError.{EditError}
use Rattle.cat_items.specs.declared.edit.EditError.TheVariants.{Refused, Memory}
use Rattle.cat_items.specs.declared.edit.Refusal.{Refusal}
use Rattle.cat_items.specs.declared.item.Item.{Item}
use Rattle.edit_rules.specs.First.{First, HasPassed, IsTested, Passes}
use Rattle.edit_rules.specs.Names.{unknown_base_table}
use Rattle.edit_rules.proofs.FirstLaws.{first_left, first_right, passes_both}
use Rattle.table_names.specs.Given.{unknown_referenced_table}

-- tests that refuse alike
pub passed_as : {T : Type 0} (tests others : List (Refusal → Type 0)) (result : Result T EditError) → ((refusal : Refusal) → First tests refusal ↔ First others refusal) → HasPassed tests result → HasPassed others result
passed_as tests others (Ok value) same h = (λ refusal f. h.0 refusal ((same refusal).1 f), h.1)
passed_as tests others (Err (Refused refusal)) same h = ((same refusal).0 h.0, h.1)
passed_as tests others (Err Memory) same h = h

-- a refusal that goes on to the caller
pub refused_as : (T U : Type 0) (tests others : List (Refusal → Type 0)) (error : EditError) (result : Result U EditError) → IsErrAnd result (λ e. e ≡ error)
    → ((refusal : Refusal) → First tests refusal → First others refusal) → HasPassed {T = T} tests (Err error) → HasPassed {T = U} others result
refused_as T U tests others error (Ok value) is goes h = absurd is
refused_as T U tests others error (Err e) is goes h =
    subst (λ x. HasPassed {T = U} others (Err x)) (sym is) (at_error error h)
  where
    at_error : (x : EditError) → HasPassed {T = T} tests (Err x) → HasPassed {T = U} others (Err x)
    at_error (Refused refusal) g = (goes refusal g.0, g.1)
    at_error Memory g = g

-- a target that isn't the table that is made
pub target_passed : {T : Type 0} (c : List Item) (made table : Object) (result : Result T EditError) → table ≢ made → HasPassed (unknown_base_table c table ∷ []) result → HasPassed (unknown_referenced_table c made table ∷ []) result
target_passed c made table result other h =
    passed_as (unknown_base_table c table ∷ []) (unknown_referenced_table c made table ∷ []) result
    (λ refusal. (
      λ f. elim f [ inl r ↦ inl (other, r) | inr none ↦ absurd none.1 ],
      λ f. elim f [ inl r ↦ inl r.1 | inr none ↦ absurd none.1 ],
    )) h

-- tests behind others that pass
pub passed_behind : {T : Type 0} (tests others : List (Refusal → Type 0)) (result : Result T EditError) → Passes (First tests) → HasPassed others result → HasPassed (tests ++ others) result
passed_behind tests others (Ok value) passed h = (passes_both tests others passed h.0, h.1)
passed_behind tests others (Err (Refused refusal)) passed h = (first_right tests others refusal passed h.0, h.1)
passed_behind tests others (Err Memory) passed h = h

-- a refusal by tests in front of others
pub refused_before : (T U : Type 0) (tests others : List (Refusal → Type 0)) (error : EditError) (result : Result U EditError) → IsErrAnd result (λ e. e ≡ error)
    → HasPassed {T = T} tests (Err error) → HasPassed {T = U} (tests ++ others) result
refused_before T U tests others error result is h = refused_as T U tests (tests ++ others) error result is (λ refusal f. first_left tests others refusal f) h

-- an error tells of the tests alone
pub error_passes : {T : Type 0} (tests : List (Refusal → Type 0)) (Done : T → Type 0) (e : EditError) → IsTested tests Done (Err e) → HasPassed {T = T} tests (Err e)
error_passes tests Done (Refused r) h = h
error_passes tests Done Memory h = h

pub exit_tested : {U : Type 0} (tests : List (Refusal → Type 0)) (Done : U → Type 0) (e : EditError) (exit : Result U EditError) → IsErrAnd exit (λ x. x ≡ e) → HasPassed {T = U} tests exit → IsTested tests Done exit
exit_tested tests Done e (Ok v) is h = absurd is
exit_tested tests Done e (Err (Refused r)) is h = h
exit_tested tests Done e (Err Memory) is h = h
