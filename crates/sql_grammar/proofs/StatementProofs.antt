-- Statements: what is read is spelled so, and what is spelled so is read.
use Rattle.std.proofs.Common.{◌≡◌, Bool, true, false, List, [], ◌∷◌, length, Some, Err, refl, sym, ap, ◌∙◌, arith, lit<, lit≤}
use Rattle.std.proofs.lemmas.Bool.{and_parts}
use Rattle.std.proofs.lemmas.Option.{some_pair_parts}
use Rattle.sql_tree.specs.declared.rights.Privileges.{Privileges}
use Rattle.sql_tree.specs.declared.rights.Target.{Target}
use Rattle.sql_tree.specs.declared.statement.DropKind.{DropKind}
use Rattle.sql_tree.specs.declared.statement.RoleChoice.{RoleChoice}
use Rattle.sql_tree.specs.declared.statement.SchemaNameClause.{SchemaNameClause}
use Rattle.sql_tree.specs.declared.statement.Statement.{Statement}
use Rattle.sql_spelling.specs.Kinds.{is_name, same_kind}
use Rattle.sql_words.specs.declared.word.Word.{Word}
use Rattle.sql_spelling.specs.declared.kind.Kind.{Kind}
use Rattle.sql_spelling.specs.declared.kind.Kind.TheVariants as k
use Rattle.sql_phrases.specs.Reading.{peek, next, sees}
use Rattle.sql_phrases.specs.Shapes.{Token, token}
use Rattle.sql_phrases.specs.NameRules.{SpellsIdentifier, SpellsLiteralName}
use Rattle.sql_grammar.specs.RightsRules.{SpellsGrantorAfter, SpellsPrivilegesOn, SpellsOptionFor, whole, option_for}
use Rattle.sql_grammar.specs.StatementRules.{SpellsRoleChoice, by_literal, by_name, no_role, SpellsSchemaNameClause, named, authorization, SpellsDropKind, table, view, domain, assertion, function, procedure, routine, SpellsStatement, connect, set_connection, disconnect, set_schema, set_role, create_schema, create_role, create_table, create_view, create_domain, create_assertion, create_function, create_procedure, alter_table, alter_domain, select, drop_role, drop_schema, drop_object, grant_privileges, revoke_privileges, grant_roles, revoke_roles}
use Rattle.sql_phrases.specs.declared.error.GrammarError.{GrammarError}
use Rattle.sql_phrases.specs.declared.error.GrammarError.TheVariants.{Syntax, NotInProfile, Memory}
use Rattle.sql_phrases.specs.Parsers.{Reads}
use Rattle.sql_phrases.specs.NameParsers as names
use Rattle.sql_grammar.specs.RightsParsers as rights
use Rattle.sql_grammar.specs.RightsParsers.{names_then}
use Rattle.sql_grammar.specs.StatementParsers as parse
use Rattle.sql_grammar.specs.StatementParsers.{sees_admin_option}
use Rattle.sql_phrases.proofs.Follow.{follows, Below, below_more, passes, sees_other}
use Rattle.sql_phrases.proofs.Lists.{Gives, gives_none, gives_some, gives_then, gives_if, after_not, token_next, token_seen, gives_eat, gives_expect, expect_at, sees_at, after_at, next_at, peek_at, below_token, optional_complete, optional_sound}
use Rattle.sql_phrases.proofs.NameProofs.{identifier_at, gives_identifier, identifier_never, literal_name_at, gives_literal_name, literal_name_begins, object_name_at, gives_object_name, identifiers_parse}
use Rattle.sql_grammar.proofs.RightsProofs.{behaviour_at, gives_behaviour, behaviour_below, grantor_after_at, gives_grantor_after, granted_by_at, gives_granted_by, granted_by_below, grantees_parse, privileges_on_at, gives_privileges_on, privileges_on_never, privileges_on_then, with_option_at, gives_with_option, with_option_below, option_for_at, gives_option_for, names_then_no, roles_then}
use Rattle.sql_grammar.proofs.AlterProofs.{alter_table_action_at, gives_alter_table_action, alter_table_action_begins, alter_domain_action_at, gives_alter_domain_action, alter_domain_action_begins}
use Rattle.sql_expressions.proofs.Binding.{binds}
use Rattle.sql_definitions.proofs.Continuing.{continues}
use Rattle.sql_grammar.proofs.CreateProofs.{create_table_at, create_view_at, create_domain_at, create_assertion_at, create_function_at, create_procedure_at, gives_create_table, gives_create_view, gives_create_domain, gives_create_assertion, gives_create_function, gives_create_procedure}
use Rattle.sql_grammar.proofs.InformationProofs.{info_query_at, gives_info_query}

-- ---- lit | name | NONE

role_choice_at : {x : RoleChoice} {ws rest : List Word} → SpellsRoleChoice x ws rest → parse.role_choice ws ≡ Some (x, rest)
unfolding parse.role_choice is_name same_kind
role_choice_at (by_literal l) = rw (literal_name_begins l, literal_name_at l)
role_choice_at {ws = ws} (by_name n) = let b = identifier_never k.None n refl in rw (identifier_never k.Literal n refl, b, after_not k.None ws b, identifier_at n)
role_choice_at {ws = ws} (no_role t) = rw (sees_other k.Literal k.None ws (peek_at t) refl, sees_at t, after_at t)

gives_role_choice : {ws : List Word} → Gives (parse.role_choice ws) (λ x a. SpellsRoleChoice x ws a)
unfolding parse.role_choice
gives_role_choice {ws} = gives_if (sees k.Literal ws)
    (λ _. gives_then gives_literal_name (λ n a is. gives_some (by_literal is)))
    (λ _. gives_eat k.None tt _ _ (λ t. gives_some (no_role t)) (λ e. rw e (gives_then gives_identifier (λ n a is. gives_some (by_name is)))))

-- ---- name [AUTHORIZATION name] | AUTHORIZATION name

schema_name_clause_at : {x : SchemaNameClause} {ws rest : List Word} → SpellsSchemaNameClause x ws rest → Below follows 1 rest → parse.schema_name_clause ws ≡ Some (x, rest)
unfolding parse.schema_name_clause is_name same_kind
schema_name_clause_at {ws = ws} {rest = rest} (named {owner = o} {a = a} n is) s =
    let e = identifier_never k.Authorization n refl in
    rw (e, after_not k.Authorization ws e, identifier_at n, optional_complete k.Authorization names.identifier SpellsIdentifier o a rest is (passes follows 1 k.Authorization rest s (lit≤ tt)) (λ y b r. identifier_at r))
schema_name_clause_at (authorization t n) s = rw (sees_at t, after_at t, identifier_at n)

gives_schema_name_clause : {ws : List Word} → Gives (parse.schema_name_clause ws) (λ x a. SpellsSchemaNameClause x ws a)
unfolding parse.schema_name_clause
gives_schema_name_clause {ws} = gives_eat k.Authorization tt _ _
    (λ t. gives_then gives_identifier (λ n a is. gives_some (authorization t is)))
    (λ e. rw e (gives_then gives_identifier (λ n a is. gives_then (optional_sound k.Authorization tt names.identifier SpellsIdentifier (λ l. gives_identifier) a) (λ o b own. gives_some (named is own)))))

-- ---- DROP

drop_kind_at : {kind : DropKind} {ws rest : List Word} → SpellsDropKind kind ws rest → parse.drop_by (peek ws) ws ≡ parse.drop_object kind rest
drop_kind_at (table t) = rw (peek_at t, next_at t)
drop_kind_at (view t) = rw (peek_at t, next_at t)
drop_kind_at (domain t) = rw (peek_at t, next_at t)
drop_kind_at (assertion t) = rw (peek_at t, next_at t)
drop_kind_at (function t) = rw (peek_at t, next_at t)
drop_kind_at (procedure t) = rw (peek_at t, next_at t)
drop_kind_at (routine t) = rw (peek_at t, next_at t)

-- ---- REVOKE

revoked_no_roles : {x : Bool} {ps : Privileges} {t : Target} {ws a rest : List Word} → SpellsOptionFor k.Grant x ws a → SpellsPrivilegesOn ps t a rest → names_then k.From ws ≡ false
unfolding is_name same_kind
revoked_no_roles whole on = privileges_on_then k.From refl on
revoked_no_roles {ws = ws} (option_for w o f) on = names_then_no k.From ws (rw (peek_at w) refl)

revoked_no_admin : {x : Bool} {ps : Privileges} {t : Target} {ws a rest : List Word} → SpellsOptionFor k.Grant x ws a → SpellsPrivilegesOn ps t a rest → sees_admin_option ws ≡ false
unfolding sees_admin_option
revoked_no_admin whole on = rw (privileges_on_never k.Admin on refl refl)
revoked_no_admin {ws = ws} (option_for w o f) on = rw (sees_other k.Admin k.Grant ws (peek_at w) refl)

admin_option_no_roles : {ws a b : List Word} → Token k.Admin ws a → Token k.Option a b → names_then k.From ws ≡ false
unfolding is_name same_kind
admin_option_no_roles (token h) (token e) = rw (h, e) refl

-- ---- statements

pub statement_at : (x : Statement) (ws rest : List Word) → SpellsStatement 64 x ws rest → Below follows 1 rest → Below continues 1 rest → Below binds 1 rest → parse.statement ws ≡ Some (x, rest)
unfolding parse.statement parse.connect parse.set parse.create parse.create_schema parse.create_role parse.admin parse.alter parse.alter_table parse.alter_domain parse.drop parse.drop_schema parse.drop_object parse.grant parse.grant_privileges parse.grant_roles parse.revoke parse.revoke_privileges parse.revoke_roles parse.revoke_admin_option sees_admin_option is_name same_kind
statement_at x ws rest (connect {connection = cn} {c = c} {d = d} t o s an u n) e z g =
    rw (peek_at t, next_at t, expect_at o, literal_name_at s, optional_complete k.As names.literal_name SpellsLiteralName cn c d an (sees_other k.As k.User d (peek_at u) refl) (λ y a r. literal_name_at r), expect_at u, literal_name_at n)
statement_at x ws rest (set_connection t c n) e z g = rw (peek_at t, next_at t, peek_at c, next_at c, literal_name_at n)
statement_at x ws rest (disconnect t n) e z g = rw (peek_at t, next_at t, literal_name_at n)
statement_at x ws rest (set_schema t c n) e z g = rw (peek_at t, next_at t, peek_at c, next_at c, literal_name_at n)
statement_at x ws rest (set_role t c r) e z g = rw (peek_at t, next_at t, peek_at c, next_at c, role_choice_at r)
statement_at x ws rest (create_schema t c n) e z g = rw (peek_at t, next_at t, peek_at c, next_at c, schema_name_clause_at n e)
statement_at x ws rest (create_role {admin = ad} {c = l} t c n a) e z g =
    rw (peek_at t, next_at t, peek_at c, next_at c, identifier_at n, optional_complete k.With (rights.grantor_after k.Admin) (SpellsGrantorAfter k.Admin) ad l rest a (passes follows 1 k.With rest e (lit≤ tt)) (λ y b r. grantor_after_at r))
statement_at x ws rest (create_table t c o es) e z g = rw (peek_at t, next_at t, peek_at c, next_at c, create_table_at o es)
statement_at x ws rest (create_view t c o cs u is) e z g = rw (peek_at t, next_at t, peek_at c, next_at c, create_view_at o cs u is g)
statement_at x ws rest (create_domain t c o u ty v m) e z g = rw (peek_at t, next_at t, peek_at c, next_at c, create_domain_at o u ty v m e z)
statement_at x ws rest (create_assertion t c o is) e z g = rw (peek_at t, next_at t, peek_at c, next_at c, create_assertion_at o is)
statement_at x ws rest (create_function t c o ps r ty l u is) e z g = rw (peek_at t, next_at t, peek_at c, next_at c, create_function_at o ps r ty l u is g)
statement_at x ws rest (create_procedure t c o ps l b a xs d) e z g = rw (peek_at t, next_at t, peek_at c, next_at c, create_procedure_at o ps l b a xs d)
statement_at x ws rest (alter_table t c o act) e z g = rw (peek_at t, next_at t, sees_at c, after_at c, object_name_at o (alter_table_action_begins act), alter_table_action_at act e z)
statement_at x ws rest (alter_domain {a = a} t c o act) e z g =
    let b = sees_other k.Table k.Domain a (peek_at c) refl in
    rw (peek_at t, next_at t, b, after_not k.Table a b, expect_at c, object_name_at o (alter_domain_action_begins act), alter_domain_action_at act z)
statement_at x ws rest (select q) e z g = let p = info_query_at q e in rw (p.0, p.1)
statement_at x ws rest (drop_role t c n) e z g = rw (peek_at t, next_at t, peek_at c, next_at c, identifier_at n)
statement_at x ws rest (drop_schema t c n b) e z g = rw (peek_at t, next_at t, peek_at c, next_at c, identifier_at n, behaviour_at b e)
statement_at x ws rest (drop_object {c = l} t c o b) e z g =
    rw (peek_at t, next_at t, drop_kind_at c, object_name_at o (passes follows 2 k.Period l (behaviour_below b e) (lit≤ tt)), behaviour_at b e)
statement_at x ws rest (grant_privileges {gs = gs} {b = l} {c = c} {d = d} t on o m w by) e z g =
    let s = below_more follows 1 2 rest e (lit≤ tt) in
    rw (
      peek_at t,
      next_at t,
      privileges_on_then k.To refl on,
      privileges_on_at on (sees_other k.Period k.To l (peek_at o) refl) (rw (peek_at o) refl),
      expect_at o,
      grantees_parse.complete gs c d m (with_option_below w (granted_by_below by s)),
      with_option_at w (granted_by_below by s),
      granted_by_at by s,
    )
statement_at x ws rest (revoke_privileges {gs = gs} {b = l} {c = c} {d = d} {e = i} t op on o m by b) e z g =
    let s = behaviour_below b e in
    rw (
      peek_at t,
      next_at t,
      revoked_no_roles op on,
      revoked_no_admin op on,
      option_for_at op (privileges_on_never k.Grant on refl refl),
      privileges_on_at on (sees_other k.Period k.From c (peek_at o) refl) (rw (peek_at o) refl),
      expect_at o,
      grantees_parse.complete gs d i m (below_more follows 3 9 i (granted_by_below by s) (lit≤ tt)),
      granted_by_at by s,
      behaviour_at b e,
    )
statement_at x ws rest (grant_roles {roles = rs} {gs = gs} {a = a} {b = l} {c = c} {d = d} t r o m w by) e z g =
    let s = below_more follows 1 2 rest e (lit≤ tt) in
    rw (
      peek_at t,
      next_at t,
      roles_then k.To refl rs a l c r o,
      identifiers_parse.complete rs a l r (below_token follows 9 o (lit< tt)),
      expect_at o,
      identifiers_parse.complete gs c d m (with_option_below w (granted_by_below by s)),
      with_option_at w (granted_by_below by s),
      granted_by_at by s,
    )
statement_at x ws rest (revoke_roles {roles = rs} {gs = gs} {a = a} {b = l} {c = c} {d = d} {e = i} t whole r o m by b) e z g =
    let s = behaviour_below b e in
    rw (
      peek_at t,
      next_at t,
      roles_then k.From refl rs l c d r o,
      identifiers_parse.complete rs l c r (below_token follows 9 o (lit< tt)),
      expect_at o,
      identifiers_parse.complete gs d i m (below_more follows 3 9 i (granted_by_below by s) (lit≤ tt)),
      granted_by_at by s,
      behaviour_at b e,
    )
statement_at x ws rest (revoke_roles {roles = rs} {gs = gs} {a = a} {b = l} {c = c} {d = d} {e = i} t (option_for w p f) r o m by b) e z g =
    let s = behaviour_below b e in
    rw (
      peek_at t,
      next_at t,
      admin_option_no_roles w p,
      sees_at w,
      next_at w,
      sees_at p,
      next_at p,
      expect_at f,
      identifiers_parse.complete rs l c r (below_token follows 9 o (lit< tt)),
      expect_at o,
      identifiers_parse.complete gs d i m (below_more follows 3 9 i (granted_by_below by s) (lit≤ tt)),
      granted_by_at by s,
      behaviour_at b e,
    )

gives_connect : {ws a : List Word} → Token k.Connect ws a → Gives (parse.connect a) (λ x rest. SpellsStatement 64 x ws rest)
unfolding parse.connect
gives_connect t = gives_then (gives_expect k.To tt) (λ _ b o. gives_then gives_literal_name (λ s c is. gives_then (optional_sound k.As tt names.literal_name SpellsLiteralName (λ l. gives_literal_name) c) (λ cn d an.
    gives_then (gives_expect k.User tt) (λ _ e u. gives_then gives_literal_name (λ n rest is'. gives_some (connect t o is an u is'))))))

gives_set : {ws a : List Word} → Token k.Set ws a → (kind : Kind) → peek a ≡ kind → Gives (parse.set_by kind a) (λ x rest. SpellsStatement 64 x ws rest)
gives_set t k.Connection e = gives_then gives_literal_name (λ n rest is. gives_some (set_connection t (token_next k.Connection tt e) is))
gives_set t k.Schema e = gives_then gives_literal_name (λ n rest is. gives_some (set_schema t (token_next k.Schema tt e) is))
gives_set t k.Role e = gives_then gives_role_choice (λ r rest is. gives_some (set_role t (token_next k.Role tt e) is))
gives_set t _ e = gives_none

gives_create : {ws a : List Word} → Token k.Create ws a → (kind : Kind) → peek a ≡ kind → Gives (parse.create_by kind a) (λ x rest. SpellsStatement 64 x ws rest)
unfolding parse.create_schema parse.create_role parse.admin
gives_create t k.Schema e = gives_then gives_schema_name_clause (λ n rest is. gives_some (create_schema t (token_next k.Schema tt e) is))
gives_create t k.Role e = gives_then gives_identifier (λ n b is. gives_then (optional_sound k.With tt (rights.grantor_after k.Admin) (SpellsGrantorAfter k.Admin) (gives_grantor_after k.Admin tt) b)
    (λ ad rest an. gives_some (create_role t (token_next k.Role tt e) is an)))
gives_create t k.Table e = gives_create_table t (token_next k.Table tt e)
gives_create t k.View e = gives_create_view t (token_next k.View tt e)
gives_create t k.Domain e = gives_create_domain t (token_next k.Domain tt e)
gives_create t k.Assertion e = gives_create_assertion t (token_next k.Assertion tt e)
gives_create t k.Function e = gives_create_function t (token_next k.Function tt e)
gives_create t k.Procedure e = gives_create_procedure t (token_next k.Procedure tt e)
gives_create t _ e = gives_none

gives_alter : {ws a : List Word} → Token k.Alter ws a → Gives (parse.alter a) (λ x rest. SpellsStatement 64 x ws rest)
unfolding parse.alter parse.alter_table parse.alter_domain
gives_alter t = gives_eat k.Table tt _ _
    (λ c. gives_then gives_object_name (λ o b is. gives_then gives_alter_table_action (λ act rest h. gives_some (alter_table t c is h))))
    (λ e. rw e (gives_then (gives_expect k.Domain tt) (λ _ b c. gives_then gives_object_name (λ o d is. gives_then gives_alter_domain_action (λ act rest h. gives_some (alter_domain t c is h))))))

gives_drop_object : {kind : DropKind} {ws a b : List Word} → Token k.Drop ws a → SpellsDropKind kind a b → Gives (parse.drop_object kind b) (λ x rest. SpellsStatement 64 x ws rest)
unfolding parse.drop_object
gives_drop_object t kd = gives_then gives_object_name (λ o c is. gives_then gives_behaviour (λ b rest how. gives_some (drop_object t kd is how)))

gives_drop : {ws a : List Word} → Token k.Drop ws a → (kind : Kind) → peek a ≡ kind → Gives (parse.drop_by kind a) (λ x rest. SpellsStatement 64 x ws rest)
unfolding parse.drop_schema
gives_drop t k.Role e = gives_then gives_identifier (λ n rest is. gives_some (drop_role t (token_next k.Role tt e) is))
gives_drop t k.Schema e = gives_then gives_identifier (λ n c is. gives_then gives_behaviour (λ b rest how. gives_some (drop_schema t (token_next k.Schema tt e) is how)))
gives_drop t k.Table e = gives_drop_object t (table (token_next k.Table tt e))
gives_drop t k.View e = gives_drop_object t (view (token_next k.View tt e))
gives_drop t k.Domain e = gives_drop_object t (domain (token_next k.Domain tt e))
gives_drop t k.Assertion e = gives_drop_object t (assertion (token_next k.Assertion tt e))
gives_drop t k.Function e = gives_drop_object t (function (token_next k.Function tt e))
gives_drop t k.Procedure e = gives_drop_object t (procedure (token_next k.Procedure tt e))
gives_drop t k.Routine e = gives_drop_object t (routine (token_next k.Routine tt e))
gives_drop t _ e = gives_none

gives_grant : {ws a : List Word} → Token k.Grant ws a → Gives (parse.grant a) (λ x rest. SpellsStatement 64 x ws rest)
unfolding parse.grant parse.grant_roles parse.grant_privileges
gives_grant {a = a} t = gives_if (names_then k.To a)
    (λ _. gives_then (identifiers_parse.sound a) (λ rs b r. gives_then (gives_expect k.To tt) (λ _ c o. gives_then (identifiers_parse.sound c) (λ gs d m.
    gives_then (gives_with_option k.Admin tt) (λ w e wo. gives_then gives_granted_by (λ by rest g. gives_some (grant_roles t r o m wo g)))))))
    (λ _. gives_then gives_privileges_on (λ on b is. gives_then (gives_expect k.To tt) (λ _ c o. gives_then (grantees_parse.sound c) (λ gs d m.
    gives_then (gives_with_option k.Grant tt) (λ w e wo. gives_then gives_granted_by (λ by rest g. gives_some (grant_privileges t is o m wo g)))))))

gives_revoke_roles : {x : Bool} {ws a b : List Word} → Token k.Revoke ws a → SpellsOptionFor k.Admin x a b → Gives (parse.revoke_roles x b) (λ s rest. SpellsStatement 64 s ws rest)
unfolding parse.revoke_roles
gives_revoke_roles {b = b} t op = gives_then (identifiers_parse.sound b) (λ rs c r. gives_then (gives_expect k.From tt) (λ _ d o. gives_then (identifiers_parse.sound d) (λ gs e m.
    gives_then gives_granted_by (λ by f g. gives_then gives_behaviour (λ how rest h. gives_some (revoke_roles t op r o m g h))))))

gives_revoke_privileges : {ws a : List Word} → Token k.Revoke ws a → Gives (parse.revoke_privileges a) (λ s rest. SpellsStatement 64 s ws rest)
unfolding parse.revoke_privileges
gives_revoke_privileges t = gives_then (gives_option_for k.Grant tt) (λ x b op. gives_then gives_privileges_on (λ on c is. gives_then (gives_expect k.From tt) (λ _ d o. gives_then (grantees_parse.sound d) (λ gs e m.
    gives_then gives_granted_by (λ by f g. gives_then gives_behaviour (λ how rest h. gives_some (revoke_privileges t op is o m g h)))))))

admin_option_parts : (ws : List Word) → sees_admin_option ws ≡ true → (sees k.Admin ws ≡ true) × (sees k.Option (next ws) ≡ true)
unfolding sees_admin_option
admin_option_parts ws e = and_parts (sees k.Admin ws) (sees k.Option (next ws)) e

gives_revoke : {ws a : List Word} → Token k.Revoke ws a → Gives (parse.revoke a) (λ s rest. SpellsStatement 64 s ws rest)
unfolding parse.revoke parse.revoke_admin_option
gives_revoke {a = a} t = gives_if (names_then k.From a)
    (λ _. gives_revoke_roles t whole)
    (λ _. gives_if (sees_admin_option a)
    (λ e. let p = admin_option_parts a e in gives_then (gives_expect k.For tt) (λ _ b f. gives_revoke_roles t (option_for (token_seen k.Admin tt p.0) (token_seen k.Option tt p.1) f)))
    (λ _. gives_revoke_privileges t))

statement_sound_by : (ws : List Word) (kind : Kind) → peek ws ≡ kind → Gives (parse.statement_by kind ws) (λ x rest. SpellsStatement 64 x ws rest)
unfolding parse.set parse.create parse.drop
statement_sound_by ws k.Connect e = gives_connect (token_next k.Connect tt e)
statement_sound_by ws k.Disconnect e = gives_then gives_literal_name (λ n rest is. gives_some (disconnect (token_next k.Disconnect tt e) is))
statement_sound_by ws k.Set e = gives_set (token_next k.Set tt e) (peek (next ws)) refl
statement_sound_by ws k.Create e = gives_create (token_next k.Create tt e) (peek (next ws)) refl
statement_sound_by ws k.Alter e = gives_alter (token_next k.Alter tt e)
statement_sound_by ws k.Drop e = gives_drop (token_next k.Drop tt e) (peek (next ws)) refl
statement_sound_by ws k.Grant e = gives_grant (token_next k.Grant tt e)
statement_sound_by ws k.Revoke e = gives_revoke (token_next k.Revoke tt e)
statement_sound_by ws k.Select e = gives_then (gives_info_query (token_next k.Select tt e)) (λ q rest is. gives_some (select is))
statement_sound_by ws _ e = gives_none

pub statement_sound : (ws : List Word) → Gives (parse.statement ws) (λ x rest. SpellsStatement 64 x ws rest)
unfolding parse.statement
statement_sound ws = statement_sound_by ws (peek ws) refl

-- ---- whole texts

-- what is read to the end of the words is spelled by them
pub found : (ws : List Word) (x : Statement) → parse.statement ws ≡ Some (x, []) → SpellsStatement 64 x ws []
found ws x h = (statement_sound ws).given x [] h

-- what all the words spell is read
pub must : (ws : List Word) (x : Statement) → SpellsStatement 64 x ws [] → parse.statement ws ≡ Some (x, [])
must ws x r = statement_at x ws [] r (record { below = lit< tt }) (record { below = lit< tt }) (record { below = lit< tt })

pub only : (ws : List Word) (a b : Statement) → SpellsStatement 64 a ws [] → SpellsStatement 64 b ws [] → a ≡ b
only ws a b r s = (some_pair_parts a b [] [] (sym (must ws a r) ∙ must ws b s)).0

no_words : (ws : List Word) → length ws ≡ 0 → ws ≡ []
no_words [] h = refl
no_words (w ∷ ws) h = absurd (omega arith)

pub at_end : {ws start left : List Word} {x : Statement} → start ≡ ws → parse.statement start ≡ Some (x, left) → length left ≡ 0 → parse.statement ws ≡ Some (x, [])
at_end {ws} {start} {left} {x} s h z = ap parse.statement (sym s) ∙ h ∙ ap (λ l. Some (x, l)) (no_words left z)

pub not_at_end : {ws start left : List Word} {x : Statement} → start ≡ ws → parse.statement start ≡ Some (x, left) → (length left ≡ 0 → ⊥) → (o : Statement) → SpellsStatement 64 o ws [] → ⊥
not_at_end {ws} {start} {left} {x} s h z o r = z (ap length (some_pair_parts x o left [] (sym (ap parse.statement (sym s) ∙ h) ∙ must ws o r)).1)

pub never_read : {ws start : List Word} (left : List Word) (error : GrammarError) → start ≡ ws → Reads (parse.statement start) (Err error) left → error ≡ Syntax → (x : Statement) → SpellsStatement 64 x ws [] → ⊥
never_read {ws} left Syntax s h is x r = let n = ap parse.statement (sym s) ∙ h in let m = must ws x r in cc
never_read left NotInProfile s h is x r = cc
never_read left Memory s h is x r = cc
