-- What the conditions of constraints come to, place by place.
use Rattle.std.proofs.Common.{◌≡◌, ◌↔◌, ℕ, zero, suc, ◌<◌, List, [], ◌∷◌, length, get_or, Option, None, Some, Ok, Err, ap, sym, subst, refl, ◌∙◌, arith}
use Rattle.sql_tree.specs.declared.table.TableConstraintKind.{TableConstraintKind}
use Rattle.sql_tree.specs.declared.table.TableConstraintKind.TheVariants as kinds
use Rattle.sql_tree.specs.declared.expr.Expr.{Expr}
use Rattle.cat_items.specs.declared.edit.Who.{Who}
use Rattle.cat_items.specs.declared.item.Item.{Item}
use Rattle.name_scopes.specs.declared.error.ResolveError.TheVariants.{TypeMismatch}
use Rattle.name_scopes.specs.Outcomes.{Outcome}
use Rattle.query_types.specs.declared.whole.TypedExpr.{TypedExpr}
use Rattle.view_deps.specs.declared.resolve.ResolvedExpr.{ResolvedExpr}
use Rattle.edit_conditions.specs.Conditions.{IsFound}
use Rattle.table_names.specs.declared.named.NamedConstraint.{NamedConstraint}
use Rattle.table_work.specs.declared.work.Work.{Work}
use Rattle.table_elements.specs.Conditions.{outcome_of}
use Rattle.table_elements.specs.Found.{AreFoundFor, IsFoundOf}
use Rattle.table_constraints.specs.Rules.{HasNoType, IsUntyped}

module _ (c : List Item) (who : Who) (w : Work) where
  pub found_length : (ns : List NamedConstraint) (fs : List (Option ResolvedExpr)) → AreFoundFor c who w ns fs → length fs ≡ length ns
  found_length [] [] all = refl
  found_length (n ∷ ns) (f ∷ fs) all = ap (λ k. suc k) (found_length ns fs all.1)
  found_length [] (f ∷ fs) all = absurd all
  found_length (n ∷ ns) [] all = absurd all

  at_place : (ns : List NamedConstraint) (fs : List (Option ResolvedExpr)) → AreFoundFor c who w ns fs → (i : ℕ) (n : NamedConstraint) (f : Option ResolvedExpr) → i < length ns → IsFoundOf c who w (get_or ns i n).kind (get_or fs i f)
  at_place [] [] all i m g low = absurd (omega (arith, low))
  at_place (n ∷ ns) (f ∷ fs) all zero m g low = all.0
  at_place (n ∷ ns) (f ∷ fs) all (suc i) m g low = at_place ns fs all.1 i m g (omega (arith, low))
  at_place [] (f ∷ fs) all i m g low = absurd all
  at_place (n ∷ ns) [] all i m g low = absurd all

  -- what the constraint at a place comes to, in lists that are shown as slices
  pub found_at : (ns shown : List NamedConstraint) (fs seen : List (Option ResolvedExpr)) (i : ℕ) (n : NamedConstraint) (f : Option ResolvedExpr) → AreFoundFor c who w ns fs → shown ≡ ns → seen ≡ fs → i < length shown
      → n ≡ get_or shown i n → f ≡ get_or seen i f → IsFoundOf c who w n.kind f
  found_at ns shown fs seen i n f all same_n same_f low is_n is_f =
      let there : AreFoundFor c who w shown seen = subst (λ l. AreFoundFor c who w l seen) (sym same_n) (subst (λ l. AreFoundFor c who w ns l) (sym same_f) all) in
      subst (λ (m : NamedConstraint). IsFoundOf c who w m.kind f) (sym is_n) (subst (λ g. IsFoundOf c who w (get_or shown i n).kind g) (sym is_f) (at_place shown seen there i n f low))

-- ---- conditions without a type

no_type : (t : TypedExpr) → ◌≡◌ {A = Outcome TypedExpr} (Ok t) (Err TypeMismatch) → ⊥
no_type t e = cc

pub none_found : (o : Outcome TypedExpr) (f : Option ResolvedExpr) → IsFound o f → (f ≡ None) ↔ (o ≡ Err TypeMismatch)
none_found o None is = (λ e. is, λ e. refl)
none_found o (Some r) is = (λ e. absurd (let odd : Some r ≡ None = e in cc), λ e. absurd (no_type (record { expr = r.expr; sort = r.sort }) (sym is.0 ∙ e)))

-- a check without a type is one whose condition isn't found
pub check_untyped : (c : List Item) (who : Who) (w : Work) (n : NamedConstraint) (condition : Expr) (f : Option ResolvedExpr) → n.kind ≡ kinds.Check condition → IsFoundOf c who w n.kind f → (f ≡ None) ↔ IsUntyped c who w n
check_untyped c who w n condition f kind is =
    subst (λ (k : TableConstraintKind). (f ≡ None) ↔ HasNoType c who w k) (sym kind) (none_found (outcome_of c who w condition) f (subst (λ (k : TableConstraintKind). IsFoundOf c who w k f) kind is))
