-- Constraints without a condition.
use Rattle.std.proofs.Common.{◌≡◌, List, None, Ok, Err, Option, subst, sym}
use Rattle.std.specs.Result.{IsErrAnd}
use Rattle.std.specs.declared.result.Result.{Result}
use Rattle.sql_tree.specs.declared.table.TableConstraintKind.{TableConstraintKind}
use Rattle.cat_items.specs.declared.edit.EditError.{EditError}
use Rattle.cat_items.specs.declared.edit.EditError.TheVariants.{Refused, Memory}
use Rattle.cat_items.specs.declared.edit.Refusal.{Refusal}
use Rattle.cat_items.specs.declared.edit.Who.{Who}
use Rattle.cat_items.specs.declared.item.Item.{Item}
use Rattle.edit_rules.specs.First.{First, HasPassed, IsTested, Passes}
use Rattle.view_deps.specs.declared.resolve.ResolvedExpr.{ResolvedExpr}
use Rattle.table_work.specs.declared.work.Work.{Work}
use Rattle.table_elements.specs.Found.{IsFoundOf}
use Rattle.table_elements.specs.Names.{unknown_in_kind}

-- the exit of a `?` with an error of the tests
exit_refused : (T U : Type 0) (tests : List (Refusal → Type 0)) (Done : U → Type 0) (e : EditError) (exit : Result U EditError) → IsErrAnd exit (λ x. x ≡ e) → HasPassed {T = T} tests (Err e) → IsTested tests Done exit
exit_refused T U tests Done e (Ok v) is h = absurd is
exit_refused T U tests Done e (Err x) is h = subst (λ z. IsTested tests Done (Err z)) (sym is) (at_error e h)
  where
    at_error : (z : EditError) → HasPassed {T = T} tests (Err z) → IsTested {T = U} tests Done (Err z)
    at_error (Refused r) g = g
    at_error Memory g = g

module _ (c : List Item) (who : Who) (w : Work) (kind : TableConstraintKind) where
  abbrev pub IsTestedKind : Result (Option ResolvedExpr) EditError → Type 0
  IsTestedKind result = IsTested (unknown_in_kind c who w kind) (IsFoundOf c who w kind) result

  pub kind_exit : (other : TableConstraintKind) (e : EditError) (exit : Result (Option ResolvedExpr) EditError) → kind ≡ other → IsErrAnd exit (λ x. x ≡ e) → HasPassed {T = Unit {0}} (unknown_in_kind c who w other) (Err e) → IsTestedKind exit
  kind_exit other e exit is err h =
      subst (λ (k : TableConstraintKind). IsTested (unknown_in_kind c who w k) (IsFoundOf c who w k) exit) (sym is) (exit_refused (Unit {0}) (Option ResolvedExpr) (unknown_in_kind c who w other) (IsFoundOf c who w other) e exit err h)

  pub kind_passes : (other : TableConstraintKind) → kind ≡ other → Passes (First (unknown_in_kind c who w other)) → IsFoundOf c who w other None → IsTestedKind (Ok None)
  kind_passes other is passed none = subst (λ (k : TableConstraintKind). IsTested (unknown_in_kind c who w k) (IsFoundOf c who w k) (Ok None)) (sym is) (passed, none)
