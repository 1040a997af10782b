-- Conditions of constraints: expressions of type BOOLEAN.
use Rattle.std.specs.Prelude.{if◌then◌else◌, Ok, Err}
use Rattle.name_scopes.specs.declared.error.ResolveError.TheVariants.{TypeMismatch}
use Rattle.name_scopes.specs.Outcomes.{Outcome, ◌>>=◌}
use Rattle.type_rules.specs.Rules.{is_boolean}
use Rattle.query_types.specs.declared.whole.TypedExpr.{TypedExpr}

-- an expression that is BOOLEAN, else there is no type
abbrev pub boolean_or_none : TypedExpr → Outcome TypedExpr
boolean_or_none typed = if is_boolean typed.sort then Ok typed else Err TypeMismatch

abbrev pub condition : Outcome TypedExpr → Outcome TypedExpr
condition outcome = outcome >>= boolean_or_none
