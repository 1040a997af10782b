-- The brackets of statements are counted: as many may be open as are open at one word.
use Rattle.std.proofs.Common.{◌≡◌, ◌<◌, ◌≤◌, ◌-◌, ◌+◌, ℕ, suc, Bool, List, [], Option, refl, ap, ◌∙◌, arith}
use Rattle.std.proofs.lemmas.List.{append-nil}
use Rattle.sql_names.specs.declared.column.ObjectName.{ObjectName}
use Rattle.sql_tree.specs.declared.rights.Grantee.{Grantee}
use Rattle.sql_tree.specs.declared.rights.Grantor.{Grantor}
use Rattle.sql_tree.specs.declared.rights.Privilege.{Privilege}
use Rattle.sql_tree.specs.declared.rights.Privileges.{Privileges}
use Rattle.sql_tree.specs.declared.rights.Target.{Target}
use Rattle.sql_names.specs.declared.sort.Default.{Default}
use Rattle.sql_tree.specs.declared.statement.AlterDomainAction.{AlterDomainAction}
use Rattle.sql_tree.specs.declared.statement.AlterTableAction.{AlterTableAction}
use Rattle.sql_tree.specs.declared.statement.Behaviour.{Behaviour}
use Rattle.sql_tree.specs.declared.statement.DropKind.{DropKind}
use Rattle.sql_tree.specs.declared.statement.InfoColumns.{InfoColumns}
use Rattle.sql_tree.specs.declared.statement.InfoQuery.{InfoQuery}
use Rattle.sql_tree.specs.declared.statement.InfoTest.{InfoTest}
use Rattle.sql_tree.specs.declared.statement.InfoValue.{InfoValue}
use Rattle.sql_tree.specs.declared.statement.RoleChoice.{RoleChoice}
use Rattle.sql_tree.specs.declared.statement.SchemaNameClause.{SchemaNameClause}
use Rattle.sql_tree.specs.declared.statement.Statement.{Statement}
use Rattle.sql_spelling.specs.declared.kind.Kind.{Kind}
use Rattle.sql_spelling.specs.declared.kind.Kind.TheVariants as k
use Rattle.sql_words.specs.declared.word.Word.{Word}
use Rattle.sql_phrases.specs.Shapes.{Token, Separated, Optional}
use Rattle.sql_phrases.specs.NameRules as names
use Rattle.sql_phrases.specs.NameRules.{SpellsIdentifier, SpellsLiteralName, SpellsObjectName}
use Rattle.sql_phrases.specs.TypeRules.{SpellsDefault}
use Rattle.sql_expressions.specs.Depth.{open_after, most_open}
use Rattle.sql_expressions.proofs.Depths.{Peak, peak_none, flat_then, peak_token, peak_spelled, peak_marked, peak_identifier, peak_identifiers, peak_separated, peak_optional, Deep, flat, deep_then, deep_map, deep_more, deep_begin, deep_token, deep_separated, deep_repeated}
use Rattle.sql_expressions.proofs.DepthProofs.{peak_object_name, deep_type}
use Rattle.sql_definitions.specs.CheckRules.{SpellsDomainCheck}
use Rattle.sql_definitions.specs.BodyRules.{SpellsActs}
use Rattle.sql_definitions.proofs.DefinitionDepths.{peak_default, peak_language, deep_expr, deep_whole_query, deep_columns, deep_check, deep_domain_check, deep_column_definition, deep_table_constraint, deep_table_elements, deep_acts, deep_params}
use Rattle.sql_grammar.specs.AlterRules as alters
use Rattle.sql_grammar.specs.AlterRules.{SpellsColumnName, SpellsAlterTableAction, SpellsAlterDomainAction}
use Rattle.sql_grammar.specs.InformationRules as information
use Rattle.sql_grammar.specs.InformationRules.{SpellsInfoValue, SpellsInfoTest, SpellsInfoTests, SpellsInfoColumns, SpellsInfoQuery}
use Rattle.sql_grammar.specs.RightsRules as rights
use Rattle.sql_grammar.specs.RightsRules.{SpellsBehaviour, SpellsGrantor, SpellsGrantorAfter, SpellsGrantedBy, SpellsGrantee, SpellsPrivilege, SpellsPrivileges, SpellsTarget, SpellsPrivilegesOn, SpellsWithOption, SpellsOptionFor}
use Rattle.sql_grammar.specs.StatementRules as rules
use Rattle.sql_grammar.specs.StatementRules.{SpellsRoleChoice, SpellsSchemaNameClause, SpellsDropKind, SpellsStatement}

-- ---- what opens no bracket

two : {x y : Kind} {ws a rest : List Word} → Token x ws a → Token y a rest → ((n : ℕ) → open_after x n ≡ n) → ((n : ℕ) → open_after y n ≡ n) → Peak 0 ws rest
two t u keeps keeps' = flat_then (peak_token t keeps) (peak_token u keeps')

peak_literal_name : {n : List ℕ} {ws rest : List Word} → SpellsLiteralName n ws rest → Peak 0 ws rest
peak_literal_name (names.literal_name s is) = peak_spelled s (λ n. refl)

peak_default_clause : {v : Option Default} {ws rest : List Word} → Optional k.Default SpellsDefault v ws rest → Peak 0 ws rest
peak_default_clause o = peak_optional SpellsDefault (λ v ws rest i. peak_default i) (λ n. refl) o

peak_role_choice : {c : RoleChoice} {ws rest : List Word} → SpellsRoleChoice c ws rest → Peak 0 ws rest
peak_role_choice (rules.by_literal i) = peak_literal_name i
peak_role_choice (rules.by_name i) = peak_identifier i
peak_role_choice (rules.no_role t) = peak_token t (λ n. refl)

peak_schema : {s : SchemaNameClause} {ws rest : List Word} → SpellsSchemaNameClause s ws rest → Peak 0 ws rest
peak_schema (rules.named i o) = flat_then (peak_identifier i) (peak_optional SpellsIdentifier (λ n ws rest i. peak_identifier i) (λ n. refl) o)
peak_schema (rules.authorization t i) = flat_then (peak_token t (λ n. refl)) (peak_identifier i)

peak_drop_kind : {d : DropKind} {ws rest : List Word} → SpellsDropKind d ws rest → Peak 0 ws rest
peak_drop_kind (rules.table t) = peak_token t (λ n. refl)
peak_drop_kind (rules.view t) = peak_token t (λ n. refl)
peak_drop_kind (rules.domain t) = peak_token t (λ n. refl)
peak_drop_kind (rules.assertion t) = peak_token t (λ n. refl)
peak_drop_kind (rules.function t) = peak_token t (λ n. refl)
peak_drop_kind (rules.procedure t) = peak_token t (λ n. refl)
peak_drop_kind (rules.routine t) = peak_token t (λ n. refl)

peak_behaviour : {b : Behaviour} {ws rest : List Word} → SpellsBehaviour b ws rest → Peak 0 ws rest
peak_behaviour rights.unsaid = peak_none
peak_behaviour (rights.restrict t) = peak_token t (λ n. refl)
peak_behaviour (rights.cascade t) = peak_token t (λ n. refl)

peak_grantor : {g : Grantor} {ws rest : List Word} → SpellsGrantor g ws rest → Peak 0 ws rest
peak_grantor (rights.current_user t) = peak_token t (λ n. refl)
peak_grantor (rights.current_role t) = peak_token t (λ n. refl)

module _ {by : Kind} (keeps : (n : ℕ) → open_after by n ≡ n) where
  peak_grantor_after : (g : Grantor) (ws rest : List Word) → SpellsGrantorAfter by g ws rest → Peak 0 ws rest
  peak_grantor_after g ws rest (rights.grantor_after t i) = flat_then (peak_token t keeps) (peak_grantor i)

peak_granted_by : {g : Option Grantor} {ws rest : List Word} → SpellsGrantedBy g ws rest → Peak 0 ws rest
peak_granted_by o = peak_optional (SpellsGrantorAfter k.By) (peak_grantor_after (λ n. refl)) (λ n. refl) o

peak_admin : {g : Option Grantor} {ws rest : List Word} → Optional k.With (SpellsGrantorAfter k.Admin) g ws rest → Peak 0 ws rest
peak_admin o = peak_optional (SpellsGrantorAfter k.Admin) (peak_grantor_after (λ n. refl)) (λ n. refl) o

peak_grantee : (g : Grantee) (ws rest : List Word) → SpellsGrantee g ws rest → Peak 0 ws rest
peak_grantee g ws rest (rights.named i) = peak_identifier i
peak_grantee g ws rest (rights.public t) = peak_token t (λ n. refl)

peak_grantees : {gs : List Grantee} {ws rest : List Word} → Separated k.Comma SpellsGrantee gs ws rest → Peak 0 ws rest
peak_grantees s = peak_separated SpellsGrantee peak_grantee (λ n. refl) s

peak_target : {t : Target} {ws rest : List Word} → SpellsTarget t ws rest → Peak 0 ws rest
peak_target (rights.unmarked o) = peak_object_name o
peak_target (rights.table t o) = flat_then (peak_token t (λ n. refl)) (peak_object_name o)
peak_target (rights.domain t o) = flat_then (peak_token t (λ n. refl)) (peak_object_name o)
peak_target (rights.function t o) = flat_then (peak_token t (λ n. refl)) (peak_object_name o)
peak_target (rights.procedure t o) = flat_then (peak_token t (λ n. refl)) (peak_object_name o)
peak_target (rights.routine t o) = flat_then (peak_token t (λ n. refl)) (peak_object_name o)

module _ {what : Kind} (keeps : (n : ℕ) → open_after what n ≡ n) where
  peak_with_option : {x : Bool} {ws rest : List Word} → SpellsWithOption what x ws rest → Peak 0 ws rest
  peak_with_option rights.without = peak_none
  peak_with_option (rights.with_option t u v) = flat_then (two t u (λ n. refl) keeps) (peak_token v (λ n. refl))

  peak_option_for : {x : Bool} {ws rest : List Word} → SpellsOptionFor what x ws rest → Peak 0 ws rest
  peak_option_for rights.whole = peak_none
  peak_option_for (rights.option_for t u v) = flat_then (two t u keeps (λ n. refl)) (peak_token v (λ n. refl))

-- ---- SELECT

peak_info_value : {v : InfoValue} {ws rest : List Word} → SpellsInfoValue v ws rest → Peak 0 ws rest
peak_info_value (information.literal s) = peak_spelled s (λ n. refl)
peak_info_value (information.number s) = peak_spelled s (λ n. refl)

peak_info_test : (x : InfoTest) (ws rest : List Word) → SpellsInfoTest x ws rest → Peak 0 ws rest
peak_info_test x ws rest (information.equals i t v) = flat_then (peak_identifier i) (flat_then (peak_token t (λ n. refl)) (peak_info_value v))
peak_info_test x ws rest (information.is_null i t u) = flat_then (peak_identifier i) (two t u (λ n. refl) (λ n. refl))

peak_info_tests : {ts : List InfoTest} {ws rest : List Word} → SpellsInfoTests ts ws rest → Peak 0 ws rest
peak_info_tests information.no_tests = peak_none
peak_info_tests (information.tests_after t s) = flat_then (peak_token t (λ n. refl)) (peak_separated SpellsInfoTest peak_info_test (λ n. refl) s)

peak_info_columns : {cs : InfoColumns} {ws rest : List Word} → SpellsInfoColumns cs ws rest → Peak 0 ws rest
peak_info_columns (information.all_columns t) = peak_token t (λ n. refl)
peak_info_columns (information.named_columns s) = peak_identifiers s

peak_info_query : {q : InfoQuery} {ws rest : List Word} → SpellsInfoQuery q ws rest → Peak 0 ws rest
peak_info_query (information.info_query t cs f u p v ts) =
    flat_then (peak_token t (λ n. refl)) (flat_then (peak_info_columns cs) (flat_then (two f u (λ n. refl) (λ n. refl)) (flat_then (peak_token p (λ n. refl)) (flat_then (peak_identifier v) (peak_info_tests ts)))))

-- ---- privileges, of which some list columns

module _ {d : ℕ} (lt : 0 < d) where
  deep_privilege : (p : Privilege) (ws rest : List Word) → SpellsPrivilege p ws rest → Deep d ws rest (λ _. SpellsPrivilege p ws rest)
  deep_privilege p ws rest (rights.select t cs) = deep_map (λ n q. rights.select t q.1) (deep_then (deep_token t (λ n. refl)) (deep_columns lt cs))
  deep_privilege p ws rest (rights.insert t cs) = deep_map (λ n q. rights.insert t q.1) (deep_then (deep_token t (λ n. refl)) (deep_columns lt cs))
  deep_privilege p ws rest (rights.update t cs) = deep_map (λ n q. rights.update t q.1) (deep_then (deep_token t (λ n. refl)) (deep_columns lt cs))
  deep_privilege p ws rest (rights.references t cs) = deep_map (λ n q. rights.references t q.1) (deep_then (deep_token t (λ n. refl)) (deep_columns lt cs))
  deep_privilege p ws rest (rights.delete t) = flat (peak_token t (λ n. refl)) (λ _. rights.delete t)
  deep_privilege p ws rest (rights.usage t) = flat (peak_token t (λ n. refl)) (λ _. rights.usage t)
  deep_privilege p ws rest (rights.execute t) = flat (peak_token t (λ n. refl)) (λ _. rights.execute t)

  deep_privileges : {ps : Privileges} {ws rest : List Word} → SpellsPrivileges ps ws rest → Deep d ws rest (λ _. SpellsPrivileges ps ws rest)
  deep_privileges (rights.all_privileges t u) = flat (two t u (λ n. refl) (λ n. refl)) (λ _. rights.all_privileges t u)
  deep_privileges (rights.listed s) = deep_map (λ n p. rights.listed p) (deep_separated SpellsPrivilege (λ _. SpellsPrivilege) deep_privilege (λ n. refl) s)

  deep_privileges_on : {ps : Privileges} {t : Target} {ws rest : List Word} → SpellsPrivilegesOn ps t ws rest → Deep d ws rest (λ _. SpellsPrivilegesOn ps t ws rest)
  deep_privileges_on (rights.on_target ps o t fits) =
      deep_map (λ n p. rights.on_target p.0 o t fits) (deep_then (deep_privileges ps) (flat (flat_then (peak_token o (λ n. refl)) (peak_target t)) (λ _. o)))

-- ---- ALTER

peak_column_name : {c : List ℕ} {ws rest : List Word} → SpellsColumnName c ws rest → Peak 0 ws rest
peak_column_name (alters.column_name m i) = flat_then (peak_marked m (λ n. refl)) (peak_identifier i)

module _ {m d : ℕ} (le : m ≤ d) (lt : 0 < d) where
  deep_alter_table_action : {x : AlterTableAction} {ws rest : List Word} → SpellsAlterTableAction m x ws rest → Deep d ws rest (λ n. SpellsAlterTableAction n x ws rest)
  deep_alter_table_action (alters.add_column t u c) =
      deep_map (λ n p. alters.add_column t u p.1) (deep_then (flat (flat_then (peak_token t (λ n. refl)) (peak_marked u (λ n. refl))) (λ _. t)) (deep_column_definition le lt c))
  deep_alter_table_action (alters.add_constraint t c) = deep_map (λ n p. alters.add_constraint t p.1) (deep_then (deep_token t (λ n. refl)) (deep_table_constraint le lt c))
  deep_alter_table_action (alters.set_default t c u v x) =
      flat (flat_then (peak_token t (λ n. refl)) (flat_then (peak_column_name c) (flat_then (two u v (λ n. refl) (λ n. refl)) (peak_default x)))) (λ _. alters.set_default t c u v x)
  deep_alter_table_action (alters.drop_default t c u v) =
      flat (flat_then (peak_token t (λ n. refl)) (flat_then (peak_column_name c) (two u v (λ n. refl) (λ n. refl)))) (λ _. alters.drop_default t c u v)
  deep_alter_table_action (alters.drop_column t c b) =
      flat (flat_then (peak_token t (λ n. refl)) (flat_then (peak_column_name c) (peak_behaviour b))) (λ _. alters.drop_column t c b)
  deep_alter_table_action (alters.drop_constraint t u i b) =
      flat (flat_then (two t u (λ n. refl) (λ n. refl)) (flat_then (peak_identifier i) (peak_behaviour b))) (λ _. alters.drop_constraint t u i b)

  deep_alter_domain_action : {x : AlterDomainAction} {ws rest : List Word} → SpellsAlterDomainAction m x ws rest → Deep d ws rest (λ n. SpellsAlterDomainAction n x ws rest)
  deep_alter_domain_action (alters.set_domain_default t u v) = flat (flat_then (two t u (λ n. refl) (λ n. refl)) (peak_default v)) (λ _. alters.set_domain_default t u v)
  deep_alter_domain_action (alters.drop_domain_default t u) = flat (two t u (λ n. refl) (λ n. refl)) (λ _. alters.drop_domain_default t u)
  deep_alter_domain_action {rest = rest} (alters.add_domain_check {c = c} {a = a} t i) =
      deep_map (λ n p. alters.add_domain_check t p.1) (deep_then (deep_token t (λ n. refl)) (deep_domain_check le lt c a rest i))
  deep_alter_domain_action (alters.drop_domain_constraint t u i) = flat (flat_then (two t u (λ n. refl) (λ n. refl)) (peak_identifier i)) (λ _. alters.drop_domain_constraint t u i)

-- ---- statements

deep_head : {d : ℕ} {x y : Kind} {o : ObjectName} {ws a b rest : List Word} → Token x ws a → Token y a b → SpellsObjectName o b rest → ((n : ℕ) → open_after x n ≡ n) → ((n : ℕ) → open_after y n ≡ n)
    → Deep d ws rest (λ _. SpellsObjectName o b rest)
deep_head t u o keeps keeps' = flat (flat_then (two t u keeps keeps') (peak_object_name o)) (λ _. o)

module _ {m d : ℕ} (le : m ≤ d) (lt : 1 < d) where
  some : 0 < d
  some = omega (arith, lt)

  deep_statement : {x : Statement} {ws rest : List Word} → SpellsStatement m x ws rest → Deep d ws rest (λ n. SpellsStatement n x ws rest)
  deep_statement (rules.connect t u s c v n) =
      flat (flat_then (two t u (λ n. refl) (λ n. refl)) (flat_then (peak_literal_name s) (flat_then (peak_optional SpellsLiteralName (λ n ws rest i. peak_literal_name i) (λ n. refl) c)
      (flat_then (peak_token v (λ n. refl)) (peak_literal_name n))))) (λ _. rules.connect t u s c v n)
  deep_statement (rules.set_connection t u i) = flat (flat_then (two t u (λ n. refl) (λ n. refl)) (peak_literal_name i)) (λ _. rules.set_connection t u i)
  deep_statement (rules.disconnect t i) = flat (flat_then (peak_token t (λ n. refl)) (peak_literal_name i)) (λ _. rules.disconnect t i)
  deep_statement (rules.set_schema t u i) = flat (flat_then (two t u (λ n. refl) (λ n. refl)) (peak_literal_name i)) (λ _. rules.set_schema t u i)
  deep_statement (rules.set_role t u c) = flat (flat_then (two t u (λ n. refl) (λ n. refl)) (peak_role_choice c)) (λ _. rules.set_role t u c)
  deep_statement (rules.create_schema t u s) = flat (flat_then (two t u (λ n. refl) (λ n. refl)) (peak_schema s)) (λ _. rules.create_schema t u s)
  deep_statement (rules.create_role t u i o) =
      flat (flat_then (two t u (λ n. refl) (λ n. refl)) (flat_then (peak_identifier i) (peak_admin o))) (λ _. rules.create_role t u i o)
  deep_statement (rules.drop_role t u i) = flat (flat_then (two t u (λ n. refl) (λ n. refl)) (peak_identifier i)) (λ _. rules.drop_role t u i)
  deep_statement (rules.create_table t u o es) =
      let inside : m - 1 ≤ d - 1 = omega (arith, le) in
      let more : 0 < d - 1 = omega (arith, lt) in
      deep_map (λ n p. rules.create_table t u o p.1)
      (deep_then (deep_head t u o (λ n. refl) (λ n. refl)) (deep_more (omega (arith, lt)) (deep_table_elements inside more es)))
  deep_statement {rest = rest} (rules.create_view {q = q} {e = e} t u o cs v i) =
      deep_map (λ n p. rules.create_view t u o p.1.0 v p.1.1.1)
      (deep_then (deep_head t u o (λ n. refl) (λ n. refl)) (deep_then (deep_columns some cs) (deep_then (deep_token v (λ n. refl))
      (deep_whole_query _ (suc m) (omega (arith, le)) q e rest i))))
  deep_statement (rules.create_domain t u o a ty v s) =
      deep_map (λ n p. rules.create_domain t u o a p.1.0 v p.1.1.1)
      (deep_then (flat (flat_then (two t u (λ n. refl) (λ n. refl)) (flat_then (peak_object_name o) (peak_marked a (λ n. refl)))) (λ _. o)) (deep_then (deep_more le (deep_type ty))
      (deep_then (flat (peak_default_clause v) (λ _. v)) (deep_repeated (SpellsDomainCheck m) (λ n. SpellsDomainCheck n) (deep_domain_check le some) s))))
  deep_statement {rest = rest} (rules.create_assertion {x = x} {c = c} t u o i) =
      deep_map (λ n p. rules.create_assertion t u o p.1)
      (deep_then (deep_head t u o (λ n. refl) (λ n. refl)) (deep_check le some _ x c rest i))
  deep_statement {rest = rest} (rules.create_function {x = x} {h = h} t u o ps r ty l v i) =
      deep_map (λ n p. rules.create_function t u o p.1.0 r p.1.1.1.0 l v p.1.1.1.1.1)
      (deep_then (deep_head t u o (λ n. refl) (λ n. refl)) (deep_then (deep_params le some ps) (deep_then (deep_token r (λ n. refl))
      (deep_then (deep_more le (deep_type ty)) (deep_then (flat (flat_then (peak_language l) (peak_token v (λ n. refl))) (λ _. v)) (deep_expr _ (suc m) (omega (arith, le)) x h rest i))))))
  deep_statement (rules.create_procedure {xs = xs} {f = f} {g = g} {h = h} t u o ps l b v s e) =
      let inside : m ≤ suc (d - 1) = omega (arith, le, lt) in
      let more : 0 < d - 1 = omega (arith, lt) in
      deep_map (λ n p. rules.create_procedure t u o p.1.0 l b v p.1.1.1.1.1 e)
      (deep_then (deep_head t u o (λ n. refl) (λ n. refl)) (deep_then (deep_params le some ps) (deep_then (flat (peak_language l) (λ _. l))
      (deep_begin (λ n. Token k.Atomic f g × SpellsActs n xs g h) some b (deep_then (deep_token v (λ n. refl)) (deep_acts inside more s)) e))))
  deep_statement (rules.alter_table t u o x) =
      deep_map (λ n p. rules.alter_table t u o p.1) (deep_then (deep_head t u o (λ n. refl) (λ n. refl)) (deep_alter_table_action le some x))
  deep_statement (rules.alter_domain t u o x) =
      deep_map (λ n p. rules.alter_domain t u o p.1) (deep_then (deep_head t u o (λ n. refl) (λ n. refl)) (deep_alter_domain_action le some x))
  deep_statement (rules.drop_schema t u i b) = flat (flat_then (two t u (λ n. refl) (λ n. refl)) (flat_then (peak_identifier i) (peak_behaviour b))) (λ _. rules.drop_schema t u i b)
  deep_statement (rules.drop_object t x o b) =
      flat (flat_then (peak_token t (λ n. refl)) (flat_then (peak_drop_kind x) (flat_then (peak_object_name o) (peak_behaviour b)))) (λ _. rules.drop_object t x o b)
  deep_statement (rules.grant_privileges t ps u gs w by) =
      deep_map (λ n p. rules.grant_privileges t p.1.0 u gs w by)
      (deep_then (deep_token t (λ n. refl)) (deep_then (deep_privileges_on some ps)
      (flat (flat_then (peak_token u (λ n. refl)) (flat_then (peak_grantees gs) (flat_then (peak_with_option (λ n. refl) w) (peak_granted_by by)))) (λ _. u))))
  deep_statement (rules.revoke_privileges t w ps u gs by b) =
      deep_map (λ n p. rules.revoke_privileges t w p.1.0 u gs by b)
      (deep_then (flat (flat_then (peak_token t (λ n. refl)) (peak_option_for (λ n. refl) w)) (λ _. t)) (deep_then (deep_privileges_on some ps)
      (flat (flat_then (peak_token u (λ n. refl)) (flat_then (peak_grantees gs) (flat_then (peak_granted_by by) (peak_behaviour b)))) (λ _. u))))
  deep_statement (rules.grant_roles t ns u gs w by) =
      flat (flat_then (peak_token t (λ n. refl)) (flat_then (peak_identifiers ns) (flat_then (peak_token u (λ n. refl)) (flat_then (peak_identifiers gs)
      (flat_then (peak_with_option (λ n. refl) w) (peak_granted_by by)))))) (λ _. rules.grant_roles t ns u gs w by)
  deep_statement (rules.revoke_roles t w ns u gs by b) =
      flat (flat_then (peak_token t (λ n. refl)) (flat_then (peak_option_for (λ n. refl) w) (flat_then (peak_identifiers ns) (flat_then (peak_token u (λ n. refl)) (flat_then (peak_identifiers gs)
      (flat_then (peak_granted_by by) (peak_behaviour b))))))) (λ _. rules.revoke_roles t w ns u gs by b)
  deep_statement (rules.select q) = flat (peak_info_query q) (λ _. rules.select q)

-- ---- the words of a statement

most_is : {d : ℕ} {R : ℕ → Type 0} {words : List Word} (p : Deep d words [] R) → most_open 0 words ≡ p.deep
most_is p = omega (arith, ap (most_open 0) (p.peak.splits ∙ append-nil p.peak.front), p.peak.most 0)

pub statement_limited : (n : ℕ) (s : Statement) (words : List Word) → 2 ≤ n → SpellsStatement n s words [] → most_open 0 words ≤ n
statement_limited n s words le i = let p = deep_statement {m = n} {d = n} (omega arith) (omega (arith, le)) i in omega (arith, most_is p, p.few)

pub statement_fits : (m n : ℕ) (s : Statement) (words : List Word) → SpellsStatement m s words [] → most_open 0 words ≤ n → SpellsStatement n s words []
statement_fits m n s words i le = let p = deep_statement {m = m} {d = m + 2} (omega arith) (omega arith) i in p.still n (omega (arith, most_is p, le))
