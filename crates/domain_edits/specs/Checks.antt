-- Checks of a domain: their names, their conditions, and what these need (domain constraints, SQL:2003 part 2, 11.24 and 11.27).
use Rattle.std.specs.Prelude.{◌≡◌, false, List, [], None, Some, Ok, Err, map}
use Rattle.std.specs.List.{Any}
use Rattle.sql_names.specs.NameBytes.{NameBytes}
use Rattle.sql_names.specs.declared.object.Object.{Object}
use Rattle.sql_names.specs.declared.sort.SqlType.{SqlType}
use Rattle.sql_tree.specs.declared.expr.Expr.{Expr}
use Rattle.sql_tree.specs.declared.table.DomainCheck.{DomainCheck as WrittenCheck}
use Rattle.sql_tree.specs.declared.table.TableConstraintKind.TheVariants as kinds
use Rattle.cat_items.specs.declared.edit.Refusal.{Refusal}
use Rattle.cat_items.specs.declared.edit.Who.{Who}
use Rattle.cat_items.specs.declared.item.DomainCheck.{DomainCheck}
use Rattle.cat_items.specs.declared.item.Item.{Item}
use Rattle.cat_items.specs.declared.need.Need.{Need}
use Rattle.cat_items.specs.Needs.{AreNeeds, NeededByCondition}
use Rattle.name_scopes.specs.declared.error.ResolveError.TheVariants.{TypeMismatch}
use Rattle.name_scopes.specs.declared.scope.Scope.{Scope}
use Rattle.name_scopes.specs.Outcomes.{Outcome}
use Rattle.query_types.specs.declared.whole.TypedExpr.{TypedExpr}
use Rattle.table_parts.specs.declared.parts.Part.{Part}
use Rattle.table_parts.specs.declared.parts.Part.TheVariants as parts
use Rattle.table_names.specs.declared.named.NamedConstraint.{NamedConstraint}
use Rattle.statement_steps.specs.Resolving.{unresolved_name}
use Rattle.edit_conditions.specs.Conditions.{outcome_in}

-- a check as a constraint of the statement
abbrev pub part_of : WrittenCheck → Part
part_of k = parts.Constraint (record { name = k.name; kind = kinds.Check k.condition })

abbrev pub parts_of : List WrittenCheck → List Part
parts_of checks = map part_of checks

-- around a check's condition: VALUE has the domain's type, and base tables alone may be named
abbrev pub check_scope : NameBytes → SqlType → Scope
check_scope schema sort = record { schema = schema; own = None; params = []; value = Some sort; itself = None; views = false }

-- what a check's condition comes to
abbrev pub outcome_of : List Item → Who → SqlType → WrittenCheck → Outcome TypedExpr
outcome_of c who sort k = outcome_in c (check_scope who.schema sort) k.condition

-- check by check, the first name that stands for nothing or for two
abbrev pub unresolved_checks : List Item → Who → SqlType → List WrittenCheck → List (Refusal → Type 0)
unresolved_checks c who sort checks = map (λ k. unresolved_name (outcome_of c who sort k)) checks

-- all names of the condition stand, and it isn't BOOLEAN
abbrev pub HasNoType : List Item → Who → SqlType → WrittenCheck → Type 0
HasNoType c who sort k = outcome_of c who sort k ≡ Err TypeMismatch

abbrev pub IsNeededBy : List Item → Who → SqlType → Need → WrittenCheck → Type 0
IsNeededBy c who sort need k = (typed : TypedExpr) × (outcome_of c who sort k ≡ Ok typed) × NeededByCondition typed.expr need

abbrev pub NeededByChecks : List Item → Who → SqlType → List WrittenCheck → Need → Type 0
NeededByChecks c who sort checks need = Any (IsNeededBy c who sort need) checks

-- the check that is made of one with its name
pub record IsCheckOf (c : List Item) (who : Who) (sort : SqlType) (domain : Object) (x : DomainCheck) (n : NamedConstraint) : Type 0 where
  pub written : Expr
  pub kind : n.kind ≡ kinds.Check written
  pub typed : TypedExpr
  pub resolved : outcome_in c (check_scope who.schema sort) written ≡ Ok typed
  pub called : x.name ≡ record { schema = domain.schema; name = n.name }
  pub domain_is : x.domain ≡ domain
  pub condition_is : x.cond ≡ typed.expr
  pub needs : AreNeeds x.needs (NeededByCondition typed.expr)

-- the checks that are made of these
abbrev pub IsCheckMade : List Item → Who → SqlType → Object → List NamedConstraint → DomainCheck → Type 0
IsCheckMade c who sort domain named x = Any (IsCheckOf c who sort domain x) named
