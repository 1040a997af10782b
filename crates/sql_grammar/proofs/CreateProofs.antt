-- What CREATE makes: what is read is spelled so, and what is spelled so is read.
use Rattle.std.proofs.Common.{◌≡◌, ℕ, ◌<◌, Bool, true, false, List, Option, Some, refl, lit<, lit≤}
use Rattle.sql_tree.specs.declared.body.Act.{Act}
use Rattle.sql_tree.specs.declared.body.Body.TheVariants as bodies
use Rattle.sql_tree.specs.declared.body.Security.TheVariants.{Definer}
use Rattle.sql_names.specs.declared.column.ObjectName.{ObjectName}
use Rattle.sql_tree.specs.declared.expr.Expr.{Expr}
use Rattle.sql_tree.specs.declared.expr.Query.{Query}
use Rattle.sql_names.specs.declared.sort.Default.{Default}
use Rattle.sql_names.specs.declared.sort.Param.{Param}
use Rattle.sql_names.specs.declared.sort.SqlType.{SqlType}
use Rattle.sql_tree.specs.declared.statement.Statement.TheVariants as statements
use Rattle.sql_tree.specs.declared.table.DomainCheck.{DomainCheck}
use Rattle.sql_tree.specs.declared.table.TableElement.{TableElement}
use Rattle.sql_words.specs.declared.word.Word.{Word}
use Rattle.sql_spelling.specs.declared.kind.Kind.{Kind}
use Rattle.sql_spelling.specs.declared.kind.Kind.TheVariants as k
use Rattle.sql_phrases.specs.Reading.{peek, sees, after}
use Rattle.sql_phrases.specs.Shapes.{Token, Repeated, no_more, again, Optional, left_out, said, Marked, absent, present}
use Rattle.sql_phrases.specs.NameRules.{SpellsObjectName, SpellsColumns, no_columns, columns}
use Rattle.sql_phrases.specs.TypeRules.{SpellsType, SpellsDefault}
use Rattle.sql_phrases.specs.TypeParsers as types
use Rattle.sql_phrases.proofs.Follow.{follows, Below, below_more, passes, sees_differs, sees_other}
use Rattle.sql_phrases.proofs.Lists.{Gives, gives_some, gives_then, gives_ate, gives_expect, after_not, after_at, expect_at, peek_at, below_token, optional_complete, optional_sound}
use Rattle.sql_phrases.proofs.NameProofs.{object_name_at, gives_object_name, columns_at, gives_columns}
use Rattle.sql_phrases.proofs.TypeLengths.{begins_type, type_begins}
use Rattle.sql_phrases.proofs.TypeProofs.{type_at, gives_type, default_at, gives_default}
use Rattle.sql_expressions.specs.ExpressionRules.{SpellsExprWithin, SpellsQueryWithin}
use Rattle.sql_expressions.proofs.Binding.{binds}
use Rattle.sql_expressions.proofs.WithinProofs.{expr_within_parses, query_within_parses}
use Rattle.sql_definitions.specs.CheckRules.{SpellsCheck, SpellsDomainCheck}
use Rattle.sql_definitions.specs.CheckParsers.{begins_domain_check}
use Rattle.sql_definitions.specs.BodyRules.{SpellsActs}
use Rattle.sql_definitions.specs.RoutineRules.{SpellsParams, SpellsLanguage, no_language, language}
use Rattle.sql_definitions.specs.TableRules.{SpellsTableElements}
use Rattle.sql_definitions.proofs.Continuing.{continues}
use Rattle.sql_definitions.proofs.ConditionProofs.{check_at, gives_check, check_begins, domain_check_begins, domain_checks_at, gives_domain_checks}
use Rattle.sql_definitions.proofs.TableProofs.{table_elements_at, gives_table_elements, table_elements_begin}
use Rattle.sql_definitions.proofs.BodyProofs.{acts_at, gives_acts}
use Rattle.sql_definitions.proofs.RoutineProofs.{params_at, gives_params, params_begin, language_at, gives_language}
use Rattle.sql_grammar.specs.StatementRules.{SpellsStatement, create_table, create_view, create_domain, create_assertion, create_function, create_procedure}
use Rattle.sql_grammar.specs.CreateParsers as parse

-- ---- tables and views

pub create_table_at : {t : ObjectName} {es : List TableElement} {ws a rest : List Word} → SpellsObjectName t ws a → SpellsTableElements 63 es a rest
    → parse.create_table ws ≡ Some (statements.CreateTable (record { table = t; elements = es }), rest)
unfolding parse.create_table
create_table_at o es = rw (object_name_at o (table_elements_begin 63 es), table_elements_at 63 es)

columns_end : {cs : List (List ℕ)} {ws a rest : List Word} → SpellsColumns cs ws a → Token k.As a rest → sees k.Period ws ≡ false
columns_end {ws = ws} no_columns t = sees_other k.Period k.As ws (peek_at t) refl
columns_end {ws = ws} (columns l m r) t = sees_other k.Period k.LeftParen ws (peek_at l) refl

pub create_view_at : {v : ObjectName} {cs : List (List ℕ)} {q : Query} {ws a b c rest : List Word} → SpellsObjectName v ws a → SpellsColumns cs a b → Token k.As b c → SpellsQueryWithin false 65 q c rest
    → Below binds 1 rest → parse.create_view ws ≡ Some (statements.CreateView (record { view = v; columns = cs; query = q }), rest)
unfolding parse.create_view
create_view_at {q = q} {b = b} {c = c} {rest = rest} o cs t is s =
    rw (object_name_at o (columns_end cs t), columns_at cs (sees_other k.LeftParen k.As b (peek_at t) refl), expect_at t, (query_within_parses false 65).complete q c rest is s)

-- ---- domains and assertions

check_ends_type : (kind : Kind) → begins_domain_check kind ≡ true → follows kind < 10
check_ends_type k.Constraint e = lit< tt
check_ends_type k.Check e = lit< tt
check_ends_type _ e = cc

checks_below : {xs : List DomainCheck} {ws rest : List Word} → Repeated (SpellsDomainCheck 64) xs ws rest → Below follows 1 rest → Below follows 10 ws
checks_below {ws = ws} no_more s = below_more follows 1 10 ws s (lit≤ tt)
checks_below {ws = ws} (again {x = x} {a = a} r m) s = record { below = check_ends_type (peek ws) (domain_check_begins x ws a r) }

no_default : {xs : List DomainCheck} {ws rest : List Word} → Repeated (SpellsDomainCheck 64) xs ws rest → Below continues 1 rest → sees k.Default ws ≡ false
no_default {ws = ws} no_more s = passes continues 1 k.Default ws s (lit≤ tt)
no_default {ws = ws} (again {x = x} {a = a} r m) s = sees_differs begins_domain_check k.Default ws (domain_check_begins x ws a r) refl

default_below : {value : Option Default} {ws rest : List Word} → Optional k.Default SpellsDefault value ws rest → Below follows 10 rest → Below follows 10 ws
default_below left_out s = s
default_below (said t d) s = below_token follows 10 t (lit< tt)

as_at : {m : Bool} {t : SqlType} {ws a rest : List Word} → Marked k.As m ws a → SpellsType 64 t a rest → after k.As ws ≡ a
as_at {ws = ws} absent t = after_not k.As ws (sees_differs begins_type k.As ws (type_begins 64 t) refl)
as_at (present u) t = after_at u

as_end : {m : Bool} {t : SqlType} {ws a rest : List Word} → Marked k.As m ws a → SpellsType 64 t a rest → sees k.Period ws ≡ false
as_end {ws = ws} absent t = sees_differs begins_type k.Period ws (type_begins 64 t) refl
as_end {ws = ws} (present u) t = sees_other k.Period k.As ws (peek_at u) refl

pub create_domain_at : {n : ObjectName} {m : Bool} {t : SqlType} {value : Option Default} {xs : List DomainCheck} {ws a b c d rest : List Word} → SpellsObjectName n ws a → Marked k.As m a b
    → SpellsType 64 t b c → Optional k.Default SpellsDefault value c d → Repeated (SpellsDomainCheck 64) xs d rest → Below follows 1 rest → Below continues 1 rest
    → parse.create_domain ws ≡ Some (statements.CreateDomain (record { domain = n; sort = t; default = value; checks = xs }), rest)
unfolding parse.create_domain
create_domain_at {value = value} {xs = xs} {c = c} {d = d} {rest = rest} o u t v m e z =
    rw (
      object_name_at o (as_end u t),
      as_at u t,
      type_at 64 t (default_below v (checks_below m e)),
      optional_complete k.Default types.default SpellsDefault value c d v (no_default m z) (λ y b r. default_at r),
      domain_checks_at xs d rest m (below_more continues 1 10 rest z (lit≤ tt)),
    )

pub create_assertion_at : {n : ObjectName} {x : Expr} {ws a rest : List Word} → SpellsObjectName n ws a → SpellsCheck false 64 x a rest
    → parse.create_assertion ws ≡ Some (statements.CreateAssertion (record { assertion = n; condition = x }), rest)
unfolding parse.create_assertion
create_assertion_at {a = a} o c = rw (object_name_at o (sees_other k.Period k.Check a (check_begins false 64 c) refl), check_at false 64 c)

-- ---- routines

language_below : {ws a rest : List Word} → SpellsLanguage ws a → Token k.Return a rest → Below follows 10 ws
language_below no_language t = below_token follows 10 t (lit< tt)
language_below (language l q) t = below_token follows 10 l (lit< tt)

pub create_function_at : {n : ObjectName} {ps : List Param} {t : SqlType} {x : Expr} {ws a b c d e f rest : List Word} → SpellsObjectName n ws a → SpellsParams 64 ps a b → Token k.Returns b c → SpellsType 64 t c d
    → SpellsLanguage d e → Token k.Return e f → SpellsExprWithin false 65 x f rest → Below binds 1 rest
    → parse.create_function ws ≡ Some (statements.CreateFunction (record { function = n; params = ps; returns = t; body = bodies.Return Definer x }), rest)
unfolding parse.create_function
create_function_at {x = x} {e = e} {f = f} {rest = rest} o ps r t l u is s =
    rw (
      object_name_at o (params_begin ps),
      params_at ps,
      expect_at r,
      type_at 64 t (language_below l u),
      language_at l (sees_other k.Language k.Return e (peek_at u) refl),
      expect_at u,
      (expr_within_parses false 65).complete x f rest is (below_more binds 1 7 rest s (lit≤ tt)),
    )

pub create_procedure_at : {n : ObjectName} {ps : List Param} {xs : List Act} {ws a b c d e f rest : List Word} → SpellsObjectName n ws a → SpellsParams 64 ps a b → SpellsLanguage b c → Token k.Begin c d
    → Token k.Atomic d e → SpellsActs 64 xs e f → Token k.End f rest
    → parse.create_procedure ws ≡ Some (statements.CreateProcedure (record { procedure = n; params = ps; body = bodies.Atomic Definer xs }), rest)
unfolding parse.create_procedure
create_procedure_at {c = c} o ps l b a xs e =
    rw (object_name_at o (params_begin ps), params_at ps, language_at l (sees_other k.Language k.Begin c (peek_at b) refl), expect_at b, expect_at a, acts_at xs e, expect_at e)

-- ---- what is read

module _ {ws a b : List Word} (t : Token k.Create ws a) where
  pub gives_create_table : Token k.Table a b → Gives (parse.create_table b) (λ x rest. SpellsStatement 64 x ws rest)
  unfolding parse.create_table
  gives_create_table c = gives_then gives_object_name (λ o d is. gives_then (gives_table_elements 63) (λ es rest is'. gives_some (create_table t c is is')))

  pub gives_create_view : Token k.View a b → Gives (parse.create_view b) (λ x rest. SpellsStatement 64 x ws rest)
  unfolding parse.create_view
  gives_create_view c = gives_then gives_object_name (λ v d o. gives_then gives_columns (λ cs e l. gives_then (gives_expect k.As tt) (λ _ f u. gives_then ((query_within_parses false 65).sound f) (λ q rest is.
      gives_some (create_view t c o l u is)))))

  pub gives_create_domain : Token k.Domain a b → Gives (parse.create_domain b) (λ x rest. SpellsStatement 64 x ws rest)
  unfolding parse.create_domain
  gives_create_domain c = gives_then gives_object_name (λ n d o. gives_ate k.As tt
      (λ u. gives_then (gives_type 64) (λ ty e is. gives_then (optional_sound k.Default tt types.default SpellsDefault (λ l. gives_default) e) (λ v f ds. gives_then gives_domain_checks (λ xs rest m.
      gives_some (create_domain t c o (present u) is ds m)))))
      (λ e'. rw e' (gives_then (gives_type 64) (λ ty e is. gives_then (optional_sound k.Default tt types.default SpellsDefault (λ l. gives_default) e) (λ v f ds. gives_then gives_domain_checks (λ xs rest m.
      gives_some (create_domain t c o absent is ds m)))))))

  pub gives_create_assertion : Token k.Assertion a b → Gives (parse.create_assertion b) (λ x rest. SpellsStatement 64 x ws rest)
  unfolding parse.create_assertion
  gives_create_assertion c = gives_then gives_object_name (λ n d o. gives_then (gives_check false 64) (λ x rest is. gives_some (create_assertion t c o is)))

  pub gives_create_function : Token k.Function a b → Gives (parse.create_function b) (λ x rest. SpellsStatement 64 x ws rest)
  unfolding parse.create_function
  gives_create_function c = gives_then gives_object_name (λ n d o. gives_then gives_params (λ ps e is. gives_then (gives_expect k.Returns tt) (λ _ f r. gives_then (gives_type 64) (λ ty g it.
      gives_then gives_language (λ _ h l. gives_then (gives_expect k.Return tt) (λ _ i u. gives_then ((expr_within_parses false 65).sound i) (λ x rest ix. gives_some (create_function t c o is r it l u ix))))))))

  pub gives_create_procedure : Token k.Procedure a b → Gives (parse.create_procedure b) (λ x rest. SpellsStatement 64 x ws rest)
  unfolding parse.create_procedure
  gives_create_procedure c = gives_then gives_object_name (λ n d o. gives_then gives_params (λ ps e is. gives_then gives_language (λ _ f l. gives_then (gives_expect k.Begin tt) (λ _ g u.
      gives_then (gives_expect k.Atomic tt) (λ _ h v. gives_then gives_acts (λ xs i m. gives_then (gives_expect k.End tt) (λ _ rest w. gives_some (create_procedure t c o is l u v m w))))))))
