-- The brackets of definitions are counted: as many may be open as are open at one word.
use Rattle.std.proofs.Common.{◌<◌, ◌≤◌, ◌-◌, ℕ, zero, suc, Bool, false, List, Option, refl, sym, subst, arith}
use Rattle.sql_tree.specs.declared.body.Act.{Act}
use Rattle.sql_tree.specs.declared.body.AssignedValue.{AssignedValue}
use Rattle.sql_tree.specs.declared.body.Assignment.{Assignment}
use Rattle.sql_tree.specs.declared.body.InsertSource.{InsertSource}
use Rattle.sql_tree.specs.declared.expr.Expr.{Expr}
use Rattle.sql_tree.specs.declared.expr.Query.{Query}
use Rattle.sql_names.specs.declared.sort.Default.{Default}
use Rattle.sql_names.specs.declared.sort.Param.{Param}
use Rattle.sql_tree.specs.declared.table.ColumnConstraint.{ColumnConstraint}
use Rattle.sql_tree.specs.declared.table.ColumnDefinition.{ColumnDefinition}
use Rattle.sql_tree.specs.declared.table.ColumnOption.{ColumnOption}
use Rattle.sql_tree.specs.declared.table.ColumnType.{ColumnType}
use Rattle.sql_tree.specs.declared.table.DomainCheck.{DomainCheck}
use Rattle.sql_tree.specs.declared.table.Matching.{Matching}
use Rattle.sql_tree.specs.declared.table.References.{References}
use Rattle.sql_tree.specs.declared.table.Rule.{Rule}
use Rattle.sql_tree.specs.declared.table.TableConstraint.{TableConstraint}
use Rattle.sql_tree.specs.declared.table.TableConstraintKind.{TableConstraintKind}
use Rattle.sql_tree.specs.declared.table.TableElement.{TableElement}
use Rattle.sql_spelling.specs.declared.kind.Kind.TheVariants as k
use Rattle.sql_words.specs.declared.word.Word.{Word}
use Rattle.sql_phrases.specs.Shapes.{Token, Separated, Optional}
use Rattle.sql_phrases.specs.NameRules as names
use Rattle.sql_phrases.specs.NameRules.{SpellsIdentifier, SpellsIdentifiers, SpellsColumns}
use Rattle.sql_phrases.specs.TypeRules as types
use Rattle.sql_phrases.specs.TypeRules.{SpellsDefault}
use Rattle.sql_expressions.specs.ExpressionRules.{SpellsExprWithin, SpellsQueryWithin}
use Rattle.sql_expressions.proofs.Depths.{Peak, peak_none, flat_then, peak_token, peak_spelled, peak_marked, peak_identifier, peak_identifiers, peak_optional, Deep, flat, deep_then, deep_map, deep_more, closed, deep_paren, deep_within, deep_token, deep_separated, deep_repeated, deep_optional}
use Rattle.sql_expressions.proofs.DepthProofs.{peak_object_name, peak_special, deep_type, deep_expr_within, deep_query_within}
use Rattle.sql_definitions.specs.CheckRules as checks
use Rattle.sql_definitions.specs.CheckRules.{SpellsCheck, SpellsDomainCheck}
use Rattle.sql_definitions.specs.TableRules as tables
use Rattle.sql_definitions.specs.TableRules.{SpellsRule, SpellsRules, SpellsMatching, SpellsReferences, SpellsColumnConstraint, SpellsColumnOption, SpellsColumnType, SpellsColumnDefinition, SpellsColumnList, SpellsTableConstraintKind, SpellsTableConstraint, SpellsTableElement, SpellsTableElements}
use Rattle.sql_definitions.specs.BodyRules as bodies
use Rattle.sql_definitions.specs.BodyRules.{SpellsAssignedValue, SpellsAssignment, SpellsInsertSource, SpellsArguments, SpellsAct, SpellsEndedAct, SpellsActs}
use Rattle.sql_definitions.specs.RoutineRules as routines
use Rattle.sql_definitions.specs.RoutineRules.{SpellsParam, SpellsParams, SpellsLanguage}

-- ---- what opens no bracket

pub peak_default : {d : Default} {ws rest : List Word} → SpellsDefault d ws rest → Peak 0 ws rest
peak_default (types.literal s) = peak_spelled s (λ n. refl)
peak_default (types.number m s) = flat_then (peak_marked m (λ n. refl)) (peak_spelled s (λ n. refl))
peak_default (types.true_word t) = peak_token t (λ n. refl)
peak_default (types.false_word t) = peak_token t (λ n. refl)
peak_default (types.null t) = peak_token t (λ n. refl)
peak_default (types.special s) = peak_special s

peak_constraint_name : {n : Option (List ℕ)} {ws rest : List Word} → Optional k.Constraint SpellsIdentifier n ws rest → Peak 0 ws rest
peak_constraint_name o = peak_optional SpellsIdentifier (λ n ws rest i. peak_identifier i) (λ n. refl) o

peak_rule : {r : Rule} {ws rest : List Word} → SpellsRule r ws rest → Peak 0 ws rest
peak_rule (tables.cascade t) = peak_token t (λ n. refl)
peak_rule (tables.set_null t u) = flat_then (peak_token t (λ n. refl)) (peak_token u (λ n. refl))
peak_rule (tables.set_default t u) = flat_then (peak_token t (λ n. refl)) (peak_token u (λ n. refl))
peak_rule (tables.restrict t) = peak_token t (λ n. refl)
peak_rule (tables.no_action t u) = flat_then (peak_token t (λ n. refl)) (peak_token u (λ n. refl))

peak_on_delete : {r : Rule} {ws a b rest : List Word} → Token k.On ws a → Token k.Delete a b → SpellsRule r b rest → Peak 0 ws rest
peak_on_delete o t r = flat_then (peak_token o (λ n. refl)) (flat_then (peak_token t (λ n. refl)) (peak_rule r))

peak_on_update : {r : Rule} {ws a b rest : List Word} → Token k.On ws a → Token k.Update a b → SpellsRule r b rest → Peak 0 ws rest
peak_on_update o t r = flat_then (peak_token o (λ n. refl)) (flat_then (peak_token t (λ n. refl)) (peak_rule r))

peak_rules : {d u : Rule} {ws rest : List Word} → SpellsRules d u ws rest → Peak 0 ws rest
peak_rules tables.no_rules = peak_none
peak_rules (tables.on_delete o t r) = peak_on_delete o t r
peak_rules (tables.on_update o t r) = peak_on_update o t r
peak_rules (tables.on_delete_update o t r p u s) = flat_then (peak_on_delete o t r) (peak_on_update p u s)
peak_rules (tables.on_update_delete o t r p u s) = flat_then (peak_on_update o t r) (peak_on_delete p u s)

peak_matching : {m : Matching} {ws rest : List Word} → SpellsMatching m ws rest → Peak 0 ws rest
peak_matching tables.no_match = peak_none
peak_matching (tables.simple t u) = flat_then (peak_token t (λ n. refl)) (peak_token u (λ n. refl))
peak_matching (tables.full t u) = flat_then (peak_token t (λ n. refl)) (peak_token u (λ n. refl))
peak_matching (tables.partial t u) = flat_then (peak_token t (λ n. refl)) (peak_token u (λ n. refl))

pub peak_language : {ws rest : List Word} → SpellsLanguage ws rest → Peak 0 ws rest
peak_language routines.no_language = peak_none
peak_language (routines.language t u) = flat_then (peak_token t (λ n. refl)) (peak_token u (λ n. refl))

-- ---- expressions and queries, where more may be open

pub deep_expr : (value : Bool) (m : ℕ) {d : ℕ} → m ≤ suc d → (e : Expr) (ws rest : List Word) → SpellsExprWithin value m e ws rest → Deep d ws rest (λ n. SpellsExprWithin value (suc n) e ws rest)
unfolding SpellsExprWithin
deep_expr value zero le e ws rest i = absurd i
deep_expr value (suc m) le e ws rest i = deep_more (omega (arith, le)) (deep_expr_within value m e ws rest i)

pub deep_whole_query : (value : Bool) (m : ℕ) {d : ℕ} → m ≤ suc d → (q : Query) (ws rest : List Word) → SpellsQueryWithin value m q ws rest → Deep d ws rest (λ n. SpellsQueryWithin value (suc n) q ws rest)
unfolding SpellsQueryWithin
deep_whole_query value zero le q ws rest i = absurd i
deep_whole_query value (suc m) le q ws rest i = deep_more (omega (arith, le)) (deep_query_within value m q ws rest i)

-- ---- lists of names in brackets

module _ {d : ℕ} (lt : 0 < d) where
  pub deep_columns : {cs : List (List ℕ)} {ws rest : List Word} → SpellsColumns cs ws rest → Deep d ws rest (λ _. SpellsColumns cs ws rest)
  deep_columns names.no_columns = flat peak_none (λ _. names.no_columns)
  deep_columns {cs} (names.columns {a = a} {b = b} l s r) = deep_map (λ n p. names.columns l p.1 r) (deep_paren (λ _. SpellsIdentifiers cs a b) lt l (flat (peak_identifiers s) (λ _. s)) r)

  deep_column_list : {ns : List (List ℕ)} {ws rest : List Word} → SpellsColumnList ns ws rest → Deep d ws rest (λ _. SpellsColumnList ns ws rest)
  deep_column_list {ns} (tables.column_list {a = a} {b = b} l s r) = deep_map (λ n p. tables.column_list l p.1 r) (deep_paren (λ _. SpellsIdentifiers ns a b) lt l (flat (peak_identifiers s) (λ _. s)) r)

  deep_references : {r : References} {ws rest : List Word} → SpellsReferences r ws rest → Deep d ws rest (λ _. SpellsReferences r ws rest)
  deep_references (tables.references t o cs m u) =
      deep_map (λ n p. tables.references t o p.1.0 m u)
      (deep_then (flat (flat_then (peak_token t (λ n. refl)) (peak_object_name o)) (λ _. t)) (deep_then (deep_columns cs) (flat (flat_then (peak_matching m) (peak_rules u)) (λ _. m))))

-- ---- tables and checks

module _ {m d : ℕ} (le : m ≤ d) (lt : 0 < d) where
  pub deep_check : (value : Bool) (e : Expr) (ws rest : List Word) → SpellsCheck value m e ws rest → Deep d ws rest (λ n. SpellsCheck value n e ws rest)
  deep_check value e ws rest (checks.check {b = b} {c = c} t l i r) =
      deep_map (λ n p. checks.check t l p.1.1 r)
      (deep_then (deep_token t (λ n. refl)) (deep_paren (λ n. SpellsExprWithin value n e b c) lt l (deep_expr value m (omega (arith, le, lt)) e b c i) r))

  pub deep_domain_check : (c : DomainCheck) (ws rest : List Word) → SpellsDomainCheck m c ws rest → Deep d ws rest (λ n. SpellsDomainCheck n c ws rest)
  deep_domain_check c ws rest (checks.domain_check {e = e} {a = a} n i) = deep_map (λ n' p. checks.domain_check n p.1) (deep_then (flat (peak_constraint_name n) (λ _. n)) (deep_check _ e a rest i))

  deep_column_constraint : {c : ColumnConstraint} {ws rest : List Word} → SpellsColumnConstraint m c ws rest → Deep d ws rest (λ n. SpellsColumnConstraint n c ws rest)
  deep_column_constraint (tables.primary_key t u) = flat (flat_then (peak_token t (λ n. refl)) (peak_token u (λ n. refl))) (λ _. tables.primary_key t u)
  deep_column_constraint (tables.unique t) = flat (peak_token t (λ n. refl)) (λ _. tables.unique t)
  deep_column_constraint (tables.refers r) = deep_map (λ n p. tables.refers p) (deep_references lt r)
  deep_column_constraint {ws = ws} {rest = rest} (tables.column_check {e = e} i) = deep_map (λ n p. tables.column_check p) (deep_check false e ws rest i)

  deep_column_option : (o : ColumnOption) (ws rest : List Word) → SpellsColumnOption m o ws rest → Deep d ws rest (λ n. SpellsColumnOption n o ws rest)
  deep_column_option o ws rest (tables.default_option t v) = flat (flat_then (peak_token t (λ n. refl)) (peak_default v)) (λ _. tables.default_option t v)
  deep_column_option o ws rest (tables.not_null t u) = flat (flat_then (peak_token t (λ n. refl)) (peak_token u (λ n. refl))) (λ _. tables.not_null t u)
  deep_column_option o ws rest (tables.constraint n c) = deep_map (λ n' p. tables.constraint n p.1) (deep_then (flat (peak_constraint_name n) (λ _. n)) (deep_column_constraint c))

  deep_column_type : {t : ColumnType} {ws rest : List Word} → SpellsColumnType m t ws rest → Deep d ws rest (λ n. SpellsColumnType n t ws rest)
  deep_column_type (tables.of_type t) = deep_map (λ n p. tables.of_type p) (deep_more le (deep_type t))
  deep_column_type (tables.of_domain o) = flat (peak_object_name o) (λ _. tables.of_domain o)

  pub deep_column_definition : {c : ColumnDefinition} {ws rest : List Word} → SpellsColumnDefinition m c ws rest → Deep d ws rest (λ n. SpellsColumnDefinition n c ws rest)
  deep_column_definition (tables.column_definition i t s one_default) =
      deep_map (λ n p. tables.column_definition i p.1.0 p.1.1 one_default)
      (deep_then (flat (peak_identifier i) (λ _. i)) (deep_then (deep_column_type t) (deep_repeated (SpellsColumnOption m) (λ n. SpellsColumnOption n) deep_column_option s)))

  deep_constraint_kind : {c : TableConstraintKind} {ws rest : List Word} → SpellsTableConstraintKind m c ws rest → Deep d ws rest (λ n. SpellsTableConstraintKind n c ws rest)
  deep_constraint_kind (tables.primary_key_of t u l) =
      deep_map (λ n p. tables.primary_key_of t u p.1) (deep_then (flat (flat_then (peak_token t (λ n. refl)) (peak_token u (λ n. refl))) (λ _. t)) (deep_column_list lt l))
  deep_constraint_kind (tables.unique_of t l) = deep_map (λ n p. tables.unique_of t p.1) (deep_then (deep_token t (λ n. refl)) (deep_column_list lt l))
  deep_constraint_kind (tables.foreign_key_of t u l r) =
      deep_map (λ n p. tables.foreign_key_of t u p.1.0 p.1.1)
      (deep_then (flat (flat_then (peak_token t (λ n. refl)) (peak_token u (λ n. refl))) (λ _. t)) (deep_then (deep_column_list lt l) (deep_references lt r)))
  deep_constraint_kind {ws = ws} {rest = rest} (tables.check_of {e = e} i) = deep_map (λ n p. tables.check_of p) (deep_check false e ws rest i)

  pub deep_table_constraint : {c : TableConstraint} {ws rest : List Word} → SpellsTableConstraint m c ws rest → Deep d ws rest (λ n. SpellsTableConstraint n c ws rest)
  deep_table_constraint (tables.table_constraint n c) = deep_map (λ n' p. tables.table_constraint n p.1) (deep_then (flat (peak_constraint_name n) (λ _. n)) (deep_constraint_kind c))

  deep_table_element : (x : TableElement) (ws rest : List Word) → SpellsTableElement m x ws rest → Deep d ws rest (λ n. SpellsTableElement n x ws rest)
  deep_table_element x ws rest (tables.column c) = deep_map (λ n p. tables.column p) (deep_column_definition c)
  deep_table_element x ws rest (tables.table_constraint_element c) = deep_map (λ n p. tables.table_constraint_element p) (deep_table_constraint c)

  pub deep_table_elements : {es : List TableElement} {ws rest : List Word} → SpellsTableElements m es ws rest → Deep (suc d) ws rest (λ n. SpellsTableElements (n - 1) es ws rest)
  deep_table_elements {es} (tables.table_elements {a = a} {b = b} l s r) =
      deep_map (λ n p. tables.table_elements l p r)
      (deep_within (λ n. Separated k.Comma (SpellsTableElement n) es a b) l (deep_separated (SpellsTableElement m) (λ n. SpellsTableElement n) deep_table_element (λ n. refl) s) r)

-- ---- bodies, inside BEGIN and END

module _ {m d : ℕ} (le : m ≤ suc d) where
  deep_value : (v : AssignedValue) (ws rest : List Word) → SpellsAssignedValue m v ws rest → Deep d ws rest (λ n. SpellsAssignedValue (suc n) v ws rest)
  deep_value v ws rest (bodies.null_value t) = flat (peak_token t (λ n. refl)) (λ _. bodies.null_value t)
  deep_value v ws rest (bodies.default_value t) = flat (peak_token t (λ n. refl)) (λ _. bodies.default_value t)
  deep_value v ws rest (bodies.expr_value {e = e} i) = deep_map (λ n p. bodies.expr_value p) (deep_expr false m le e ws rest i)

  deep_assignment : (x : Assignment) (ws rest : List Word) → SpellsAssignment m x ws rest → Deep d ws rest (λ n. SpellsAssignment (suc n) x ws rest)
  deep_assignment x ws rest (bodies.assignment {v = v} {b = b} c t i) =
      deep_map (λ n p. bodies.assignment c t p.1) (deep_then (flat (flat_then (peak_identifier c) (peak_token t (λ n. refl))) (λ _. t)) (deep_value v b rest i))

  deep_filter : {x : Option Expr} {ws rest : List Word} → Optional k.Where (SpellsExprWithin false m) x ws rest → Deep d ws rest (λ n. Optional k.Where (SpellsExprWithin false (suc n)) x ws rest)
  deep_filter o = deep_optional (SpellsExprWithin false m) (λ n. SpellsExprWithin false (suc n)) (deep_expr false m le) (λ n. refl) o

module _ {m d : ℕ} (le : m ≤ suc d) (lt : 0 < d) where
  within : m - 1 ≤ suc (d - 1)
  within = omega (arith, le, lt)

  deep_source : {s : InsertSource} {ws rest : List Word} → SpellsInsertSource m s ws rest → Deep d ws rest (λ n. SpellsInsertSource (suc n) s ws rest)
  deep_source (bodies.values_source {vs = vs} {b = b} {c = c} t l s r) =
      deep_map (λ n p. bodies.values_source t l (subst (λ h. Separated k.Comma (SpellsAssignedValue h) vs b c) (sym (closed n)) p.1.1) r)
      (deep_then (deep_token t (λ n. refl)) (deep_paren (λ n. Separated k.Comma (SpellsAssignedValue n) vs b c) lt l
      (deep_separated (SpellsAssignedValue (m - 1)) (λ n. SpellsAssignedValue (suc n)) (deep_value within) (λ n. refl) s) r))
  deep_source {ws = ws} {rest = rest} (bodies.query_source {q = q} i) = deep_map (λ n p. bodies.query_source p) (deep_whole_query false m le q ws rest i)

  deep_arguments : {es : List Expr} {ws rest : List Word} → SpellsArguments m es ws rest → Deep d ws rest (λ n. SpellsArguments (suc n) es ws rest)
  deep_arguments {rest = rest} (bodies.no_arguments {a = a} l r) = deep_map (λ n p. bodies.no_arguments l r) (deep_paren (λ _. Token k.RightParen a rest) lt l (flat peak_none (λ _. r)) r)
  deep_arguments {es} (bodies.arguments {a = a} {b = b} l s r) =
      deep_map (λ n p. bodies.arguments l (subst (λ h. Separated k.Comma (SpellsExprWithin false h) es a b) (sym (closed n)) p.1) r)
      (deep_paren (λ n. Separated k.Comma (SpellsExprWithin false n) es a b) lt l (deep_separated (SpellsExprWithin false (m - 1)) (λ n. SpellsExprWithin false (suc n)) (deep_expr false (m - 1) within) (λ n. refl) s) r)

  deep_act : {x : Act} {ws rest : List Word} → SpellsAct m x ws rest → Deep d ws rest (λ n. SpellsAct (suc n) x ws rest)
  deep_act (bodies.insert t u o cs s) =
      deep_map (λ n p. bodies.insert t u o p.1.0 p.1.1)
      (deep_then (flat (flat_then (peak_token t (λ n. refl)) (flat_then (peak_token u (λ n. refl)) (peak_object_name o))) (λ _. o)) (deep_then (deep_columns lt cs) (deep_source s)))
  deep_act (bodies.update t o u s f) =
      deep_map (λ n p. bodies.update t o u p.1.0 p.1.1)
      (deep_then (flat (flat_then (peak_token t (λ n. refl)) (flat_then (peak_object_name o) (peak_token u (λ n. refl)))) (λ _. o))
      (deep_then (deep_separated (SpellsAssignment m) (λ n. SpellsAssignment (suc n)) (deep_assignment le) (λ n. refl) s) (deep_filter le f)))
  deep_act (bodies.delete t u o f) =
      deep_map (λ n p. bodies.delete t u o p.1) (deep_then (flat (flat_then (peak_token t (λ n. refl)) (flat_then (peak_token u (λ n. refl)) (peak_object_name o))) (λ _. o)) (deep_filter le f))
  deep_act (bodies.call t o s) = deep_map (λ n p. bodies.call t o p.1) (deep_then (flat (flat_then (peak_token t (λ n. refl)) (peak_object_name o)) (λ _. o)) (deep_arguments s))

  deep_ended : (x : Act) (ws rest : List Word) → SpellsEndedAct m x ws rest → Deep d ws rest (λ n. SpellsEndedAct (suc n) x ws rest)
  deep_ended x ws rest (bodies.ended i t) = deep_map (λ n p. bodies.ended p.0 t) (deep_then (deep_act i) (deep_token t (λ n. refl)))

  pub deep_acts : {xs : List Act} {ws rest : List Word} → SpellsActs m xs ws rest → Deep d ws rest (λ n. SpellsActs (suc n) xs ws rest)
  deep_acts (bodies.acts_in_order s) = deep_map (λ n p. bodies.acts_in_order p) (deep_repeated (SpellsEndedAct m) (λ n. SpellsEndedAct (suc n)) deep_ended s)

-- ---- parameters

module _ {m d : ℕ} (le : m ≤ d) where
  deep_param : (x : Param) (ws rest : List Word) → SpellsParam m x ws rest → Deep d ws rest (λ n. SpellsParam n x ws rest)
  deep_param x ws rest (routines.param i n t) = deep_map (λ n' p. routines.param i n p.1) (deep_then (flat (flat_then (peak_marked i (λ n. refl)) (peak_identifier n)) (λ _. i)) (deep_more le (deep_type t)))

module _ {m d : ℕ} (le : m ≤ d) (lt : 0 < d) where
  pub deep_params : {ps : List Param} {ws rest : List Word} → SpellsParams m ps ws rest → Deep d ws rest (λ n. SpellsParams n ps ws rest)
  deep_params {rest = rest} (routines.no_params {a = a} l r) = deep_map (λ n p. routines.no_params l r) (deep_paren (λ _. Token k.RightParen a rest) lt l (flat peak_none (λ _. r)) r)
  deep_params {ps} (routines.params {a = a} {b = b} l s r) =
      let inside : m - 1 ≤ d - 1 = omega (arith, le) in
      deep_more (omega (arith, lt)) (deep_map (λ n p. routines.params l p r)
      (deep_within (λ n. Separated k.Comma (SpellsParam n) ps a b) l (deep_separated (SpellsParam (m - 1)) (λ n. SpellsParam n) (deep_param inside) (λ n. refl) s) r))
