-- CREATE ASSERTION (SQL:2003 part 2, 11.37): its refusals in their order, and the edit.
use Rattle.std.specs.Prelude.{◌≡◌, false, List, [], ◌∷◌, None, Ok, Err}
use Rattle.sql_names.specs.NameBytes.{NameBytes}
use Rattle.sql_names.specs.declared.object.Object.{Object}
use Rattle.sql_tree.specs.declared.expr.Expr.{Expr}
use Rattle.sql_tree.specs.declared.statement.CreateAssertion.{CreateAssertion}
use Rattle.cat_items.specs.declared.edit.Edit.{Edit}
use Rattle.cat_items.specs.declared.edit.Refusal.{Refusal}
use Rattle.cat_items.specs.declared.edit.Refusal.TheVariants as refusals
use Rattle.cat_items.specs.declared.edit.Who.{Who}
use Rattle.cat_items.specs.declared.item.Assertion.{Assertion}
use Rattle.cat_items.specs.declared.item.Item.{Item}
use Rattle.cat_items.specs.declared.item.Item.TheVariants as item
use Rattle.cat_items.specs.declared.need.Need.{Need}
use Rattle.cat_items.specs.Needs.{AreNeeds, NeededByCondition}
use Rattle.name_scopes.specs.declared.error.ResolveError.TheVariants.{TypeMismatch}
use Rattle.name_scopes.specs.declared.scope.Scope.{Scope}
use Rattle.name_scopes.specs.Outcomes.{Outcome}
use Rattle.query_types.specs.declared.whole.TypedExpr.{TypedExpr}
use Rattle.edit_rules.specs.Names.{constraint_exists, object_in, unknown_schema}
use Rattle.edit_conditions.specs.Conditions.{outcome_in}
use Rattle.statement_steps.specs.Resolving.{unresolved_name}
use Rattle.statement_steps.specs.Steps.{MakesEdit, Nothing, Steps, refusals_of, where_it_is}

-- around its condition: names without a schema are of the session's, and base tables alone may be named
abbrev pub assertion_scope : NameBytes → Scope
assertion_scope schema = record { schema = schema; own = None; params = []; value = None; itself = None; views = false }

-- what the condition comes to
abbrev pub outcome_of : List Item → Who → Expr → Outcome TypedExpr
outcome_of c who condition = outcome_in c (assertion_scope who.schema) condition

-- all names of the condition stand, and it isn't BOOLEAN
abbrev pub untyped_condition : Outcome TypedExpr → Refusal → Type 0
untyped_condition outcome = where_it_is (outcome ≡ Err TypeMismatch) refusals.TypeMismatch

-- REFERENCES on what it reads, EXECUTE on what it calls
abbrev pub IsNeeded : Outcome TypedExpr → Need → Type 0
IsNeeded (Ok typed) need = NeededByCondition typed.expr need
IsNeeded (Err error) need = ⊥

-- the assertion of this name with the resolved condition
pub record IsAssertionOf (name : Object) (outcome : Outcome TypedExpr) (x : Assertion) : Type 0 where
  pub named : x.name ≡ name
  pub typed : TypedExpr
  pub resolved : outcome ≡ Ok typed
  pub condition_is : x.cond ≡ typed.expr
  pub needs : AreNeeds x.needs (NeededByCondition typed.expr)

abbrev pub IsAssertionMade : Object → Outcome TypedExpr → Item → Type 0
IsAssertionMade name outcome (item.Assertion x) = IsAssertionOf name outcome x
IsAssertionMade name outcome x = ⊥

abbrev pub assertion_steps : List Item → Who → Object → Expr → Steps
assertion_steps c who name condition = record {
  by_tree = [];
  names = unknown_schema c name.schema ∷ unresolved_name (outcome_of c who condition) ∷ [];
  schema = name.schema;
  taken = constraint_exists c name ∷ [];
  rules = untyped_condition (outcome_of c who condition) ∷ [];
  needs = IsNeeded (outcome_of c who condition);
  edit = MakesEdit c Nothing Nothing (IsAssertionMade name (outcome_of c who condition));
}

abbrev pub create_assertion_refusals : List Item → Who → CreateAssertion → List (Refusal → Type 0)
create_assertion_refusals c who s = refusals_of c who (assertion_steps c who (object_in who.schema s.assertion) s.condition)

abbrev pub IsAssertionCreation : List Item → Who → CreateAssertion → Edit → Type 0
IsAssertionCreation c who s = (assertion_steps c who (object_in who.schema s.assertion) s.condition).edit
