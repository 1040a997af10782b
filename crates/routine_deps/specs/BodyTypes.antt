-- Whether the values, conditions and arguments of a resolved body have the types that they must have (SQL:2003 part 2, 9.2).
use Rattle.std.specs.Prelude.{Bool, true, false, ◌&&◌, ◌==◌, List, [], ◌∷◌, length, Option, Some, None}
use Rattle.sql_names.specs.NameBytes.{NameBytes}
use Rattle.sql_names.specs.declared.object.Object.{Object}
use Rattle.sql_names.specs.declared.sort.SqlType.{SqlType}
use Rattle.sql_tree.specs.declared.expr.Expr.{Expr}
use Rattle.sql_tree.specs.declared.body.Body.{Body}
use Rattle.sql_tree.specs.declared.body.Body.TheVariants as bodies
use Rattle.sql_tree.specs.declared.body.Act.{Act}
use Rattle.sql_tree.specs.declared.body.Act.TheVariants as acts
use Rattle.sql_tree.specs.declared.body.InsertSource.{InsertSource}
use Rattle.sql_tree.specs.declared.body.InsertSource.TheVariants as sources
use Rattle.sql_tree.specs.declared.body.Assignment.{Assignment}
use Rattle.sql_tree.specs.declared.body.AssignedValue.{AssignedValue}
use Rattle.sql_tree.specs.declared.body.AssignedValue.TheVariants as values
use Rattle.name_scopes.specs.declared.scope.Signature.{Signature}
use Rattle.name_scopes.specs.declared.scope.Scope.{Scope}
use Rattle.name_scopes.specs.Known.{Known, sort_of, full}
use Rattle.type_rules.specs.Rules.{one_class}
use Rattle.type_rules.specs.TypeParts.{boolean, routine, param_sorts}
use Rattle.query_types.specs.Whole.{expr_type, query_types}
use Rattle.routine_deps.specs.BodyNames.{with_own}

abbrev pub fits : Option SqlType → Option SqlType → Bool
fits (Some wanted) (Some sort) = one_class wanted sort
fits wanted sort = false

-- NULL and DEFAULT fit all
abbrev pub value_fits : Known → Scope → Option SqlType → AssignedValue → Bool
value_fits k scope wanted (values.Expr e) = fits wanted (expr_type k scope e)
value_fits k scope wanted value = true

abbrev pub values_match : Known → Scope → Object → List NameBytes → List AssignedValue → Bool
values_match k scope o (c ∷ cs) (v ∷ vs) = value_fits k scope (sort_of k o c) v && values_match k scope o cs vs
values_match k scope o cs vs = true

-- as many values as columns, each of its class
unfoldable pub values_fit : Known → Scope → Object → List NameBytes → List AssignedValue → Bool
values_fit k scope o cs vs = (length cs == length vs) && values_match k scope o cs vs

abbrev pub columns_match : Known → Object → List NameBytes → List SqlType → Bool
columns_match k o (c ∷ cs) (t ∷ ts) = fits (sort_of k o c) (Some t) && columns_match k o cs ts
columns_match k o cs ts = true

-- so of the columns of a query
unfoldable pub columns_fit : Known → Object → List NameBytes → List SqlType → Bool
columns_fit k o cs ts = (length cs == length ts) && columns_match k o cs ts

abbrev pub query_fits : Known → Object → List NameBytes → Option (List SqlType) → Bool
query_fits k o cs None = false
query_fits k o cs (Some ts) = columns_fit k o cs ts

abbrev pub source_fits : Known → Scope → Object → List NameBytes → InsertSource → Bool
source_fits k scope o cs (sources.Values vs) = values_fit k scope o cs vs
source_fits k scope o cs (sources.Query q) = query_fits k o cs (query_types k scope q)

abbrev pub assignments_fit : Known → Scope → Object → List Assignment → Bool
assignments_fit k scope o [] = true
assignments_fit k scope o (a ∷ as') = value_fits k scope (sort_of k o a.column) a.value && assignments_fit k scope o as'

abbrev pub condition_fits : Known → Scope → Option Expr → Bool
condition_fits k scope None = true
condition_fits k scope (Some e) = boolean (expr_type k scope e)

abbrev pub arguments_match : Known → Scope → List SqlType → List Expr → Bool
arguments_match k scope (t ∷ ts) (e ∷ es) = fits (Some t) (expr_type k scope e) && arguments_match k scope ts es
arguments_match k scope ts es = true

-- as many arguments as parameters, each of its class
unfoldable pub arguments_fit : Known → Scope → List SqlType → List Expr → Bool
arguments_fit k scope ts es = (length ts == length es) && arguments_match k scope ts es

abbrev pub called_fits : Known → Scope → Option Signature → List Expr → Bool
called_fits k scope None es = false
called_fits k scope (Some f) es = arguments_fit k scope (param_sorts f) es

abbrev pub updated_fits : Known → Scope → Object → List Assignment → Option Expr → Bool
updated_fits k scope o as' filter = assignments_fit k scope o as' && condition_fits k scope filter

abbrev pub act_fits : Known → Scope → Act → Bool
act_fits k scope (acts.Insert t cs src) = source_fits k scope (full scope t) cs src
act_fits k scope (acts.Update t as' filter) = updated_fits k (with_own k (full scope t) scope) (full scope t) as' filter
act_fits k scope (acts.Delete t filter) = condition_fits k (with_own k (full scope t) scope) filter
act_fits k scope (acts.Call f es) = called_fits k scope (routine k scope f) es

abbrev pub all_fit : Known → Scope → List Act → Bool
all_fit k scope [] = true
all_fit k scope (a ∷ as') = act_fits k scope a && all_fit k scope as'

-- the type that the routine in whose body this stands returns
abbrev pub returned : Option Signature → Option SqlType
returned None = None
returned (Some f) = f.returns

-- RETURN gives a value of the class that the routine returns
abbrev pub body_fits : Known → Scope → Body → Bool
body_fits k scope (bodies.Return security e) = fits (returned scope.itself) (expr_type k scope e)
body_fits k scope (bodies.Atomic security as') = all_fit k scope as'
