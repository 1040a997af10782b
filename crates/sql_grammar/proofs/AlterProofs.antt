-- ALTER TABLE and ALTER DOMAIN: what is read is spelled so, and what is spelled so is read.
use Rattle.std.proofs.Common.{◌≡◌, ℕ, false, List, Some, refl, lit≤}
use Rattle.sql_tree.specs.declared.statement.AlterDomainAction.{AlterDomainAction}
use Rattle.sql_tree.specs.declared.statement.AlterTableAction.{AlterTableAction}
use Rattle.sql_spelling.specs.Kinds.{is_name, same_kind}
use Rattle.sql_words.specs.declared.word.Word.{Word}
use Rattle.sql_spelling.specs.declared.kind.Kind.TheVariants as k
use Rattle.sql_phrases.specs.Reading.{sees, after}
use Rattle.sql_phrases.specs.Shapes.{absent, present}
use Rattle.sql_grammar.specs.AlterRules.{SpellsColumnName, column_name, SpellsAlterTableAction, add_column, add_constraint, set_default, drop_default, drop_column, drop_constraint, SpellsAlterDomainAction, set_domain_default, drop_domain_default, add_domain_check, drop_domain_constraint}
use Rattle.sql_grammar.specs.AlterParsers as parse
use Rattle.sql_phrases.specs.NameParsers.{sees_name}
use Rattle.sql_phrases.proofs.Follow.{follows, Below, below_more, sees_differs, sees_other}
use Rattle.sql_phrases.proofs.Lists.{Gives, gives_if, gives_some, gives_then, gives_weaker, after_not, gives_eat, gives_ate, gives_expect, expect_at, sees_at, after_at, peek_at}
use Rattle.sql_phrases.proofs.NameProofs.{identifier_at, gives_identifier, identifier_never}
use Rattle.sql_grammar.proofs.RightsProofs.{behaviour_at, gives_behaviour}
use Rattle.sql_phrases.proofs.TypeProofs.{default_at, gives_default}
use Rattle.sql_definitions.proofs.Continuing.{continues}
use Rattle.sql_definitions.proofs.ConditionProofs.{begins_named, domain_check_parses}
use Rattle.sql_definitions.proofs.TableProofs.{column_definition_at, gives_column_definition, column_definition_begins, table_constraint_at, gives_table_constraint, table_constraint_begins, table_constraint_reserved}

column_name_at : {c : List ℕ} {ws rest : List Word} → SpellsColumnName c ws rest → parse.column_name ws ≡ Some (c, rest)
unfolding parse.column_name is_name same_kind
column_name_at {ws = ws} (column_name absent n) = rw (after_not k.Column ws (identifier_never k.Column n refl), identifier_at n)
column_name_at (column_name (present t) n) = rw (after_at t, identifier_at n)

gives_column_name : {ws : List Word} → Gives (parse.column_name ws) (λ c a. SpellsColumnName c ws a)
unfolding parse.column_name
gives_column_name {ws} = gives_ate k.Column tt
    (λ t. gives_weaker gives_identifier (λ c a n. column_name (present t) n))
    (λ e. rw e (gives_weaker gives_identifier (λ c a n. column_name absent n)))

column_name_never : {c : List ℕ} {ws rest : List Word} → SpellsColumnName c ws rest → sees k.Constraint ws ≡ false
unfolding is_name same_kind
column_name_never (column_name absent n) = identifier_never k.Constraint n refl
column_name_never {ws = ws} (column_name (present t) n) = sees_other k.Constraint k.Column ws (peek_at t) refl

pub alter_table_action_at : {x : AlterTableAction} {ws rest : List Word} → SpellsAlterTableAction 64 x ws rest → Below follows 1 rest → Below continues 1 rest → parse.alter_table_action ws ≡ Some (x, rest)
unfolding parse.alter_table_action parse.add_part parse.add_other parse.alter_or_drop parse.alter_column parse.drop_part parse.new_default sees_name is_name same_kind
alter_table_action_at {rest = rest} (add_column {a = a} t absent c) e z =
    let n = sees_differs is_name k.Column a (column_definition_begins 64 c) refl in
    rw (sees_at t, after_at t, n, after_not k.Column a n, column_definition_begins 64 c, column_definition_at 64 c (below_more continues 1 10 rest z (lit≤ tt)))
alter_table_action_at {rest = rest} (add_column t (present u) c) e z = rw (sees_at t, after_at t, sees_at u, after_at u, column_definition_at 64 c (below_more continues 1 10 rest z (lit≤ tt)))
alter_table_action_at {rest = rest} (add_constraint {a = a} t c) e z =
    let n = sees_differs begins_named k.Column a (table_constraint_begins 64 c) refl in
    rw (sees_at t, after_at t, n, after_not k.Column a n, table_constraint_reserved 64 c, table_constraint_at 64 c (below_more continues 1 11 rest z (lit≤ tt)))
alter_table_action_at {ws = ws} (set_default t c s d v) e z = let w = sees_other k.Add k.Alter ws (peek_at t) refl in rw (w, after_not k.Add ws w, sees_at t, after_at t, column_name_at c, sees_at s, after_at s, expect_at d, default_at v)
alter_table_action_at {ws = ws} (drop_default {b = b} t c s d) e z = let w = sees_other k.Add k.Alter ws (peek_at t) refl in let o = sees_other k.Set k.Drop b (peek_at s) refl in rw (w, after_not k.Add ws w, sees_at t, after_at t, column_name_at c, o, after_not k.Set b o, expect_at s, expect_at d)
alter_table_action_at {ws = ws} (drop_column {a = a} t c h) e z =
    let w = sees_other k.Add k.Drop ws (peek_at t) refl in
    let o = sees_other k.Alter k.Drop ws (peek_at t) refl in
    rw (w, after_not k.Add ws w, o, after_not k.Alter ws o, expect_at t, column_name_never c, after_not k.Constraint a (column_name_never c), column_name_at c, behaviour_at h e)
alter_table_action_at {ws = ws} (drop_constraint t u c h) e z =
    let w = sees_other k.Add k.Drop ws (peek_at t) refl in
    let o = sees_other k.Alter k.Drop ws (peek_at t) refl in rw (w, after_not k.Add ws w, o, after_not k.Alter ws o, expect_at t, sees_at u, after_at u, identifier_at c, behaviour_at h e)

gives_alter_or_drop : {ws : List Word} → Gives (parse.alter_or_drop ws) (λ x a. SpellsAlterTableAction 64 x ws a)
unfolding parse.alter_or_drop parse.alter_column parse.drop_part parse.new_default
gives_alter_or_drop {ws} = gives_eat k.Alter tt _ _
    (λ t. gives_then gives_column_name (λ c b n. gives_eat k.Set tt _ _
    (λ s. gives_then (gives_then (gives_expect k.Default tt) (λ _ f d. gives_weaker gives_default (λ v rest is. set_default t n s d is))) (λ v rest is. gives_some is))
    (λ e. rw e (gives_then (gives_expect k.Drop tt) (λ _ f s. gives_then (gives_expect k.Default tt) (λ _ rest d. gives_some (drop_default t n s d)))))))
    (λ e. rw e (gives_then (gives_expect k.Drop tt) (λ _ a t. gives_eat k.Constraint tt _ _
    (λ u. gives_then gives_identifier (λ c b n. gives_then gives_behaviour (λ how rest h. gives_some (drop_constraint t u n h))))
    (λ e'. rw e' (gives_then gives_column_name (λ c b n. gives_then gives_behaviour (λ how rest h. gives_some (drop_column t n h))))))))

pub gives_alter_table_action : {ws : List Word} → Gives (parse.alter_table_action ws) (λ x a. SpellsAlterTableAction 64 x ws a)
unfolding parse.alter_table_action parse.add_part parse.add_other
gives_alter_table_action {ws} = gives_eat k.Add tt _ _
    (λ t. gives_eat k.Column tt _ _
    (λ u. gives_then (gives_column_definition 64) (λ c rest is. gives_some (add_column t (present u) is)))
    (λ e. rw e (gives_if (sees_name (after k.Add ws))
    (λ _. gives_then (gives_column_definition 64) (λ c rest is. gives_some (add_column t absent is)))
    (λ _. gives_then (gives_table_constraint 64) (λ c rest is. gives_some (add_constraint t is))))))
    (λ e. rw e gives_alter_or_drop)

-- the words before which the table's name ends
pub alter_table_action_begins : {x : AlterTableAction} {ws rest : List Word} → SpellsAlterTableAction 64 x ws rest → sees k.Period ws ≡ false
alter_table_action_begins {ws = ws} (add_column t m c) = sees_other k.Period k.Add ws (peek_at t) refl
alter_table_action_begins {ws = ws} (add_constraint t c) = sees_other k.Period k.Add ws (peek_at t) refl
alter_table_action_begins {ws = ws} (set_default t c s d v) = sees_other k.Period k.Alter ws (peek_at t) refl
alter_table_action_begins {ws = ws} (drop_default t c s d) = sees_other k.Period k.Alter ws (peek_at t) refl
alter_table_action_begins {ws = ws} (drop_column t c h) = sees_other k.Period k.Drop ws (peek_at t) refl
alter_table_action_begins {ws = ws} (drop_constraint t u c h) = sees_other k.Period k.Drop ws (peek_at t) refl

pub alter_domain_action_at : {x : AlterDomainAction} {ws rest : List Word} → SpellsAlterDomainAction 64 x ws rest → Below continues 1 rest → parse.alter_domain_action ws ≡ Some (x, rest)
unfolding parse.alter_domain_action parse.add_or_drop parse.drop_domain_part parse.new_default
alter_domain_action_at (set_domain_default t d v) s = rw (sees_at t, after_at t, expect_at d, default_at v)
alter_domain_action_at {ws = ws} (drop_domain_default t d) s =
    let o = sees_other k.Set k.Drop ws (peek_at t) refl in
    let n = sees_other k.Add k.Drop ws (peek_at t) refl in
    rw (o, after_not k.Set ws o, n, after_not k.Add ws n, expect_at t, sees_at d, after_at d)
alter_domain_action_at {ws = ws} {rest = rest} (add_domain_check {c = c} {a = a} t is) s =
    let o = sees_other k.Set k.Add ws (peek_at t) refl in
    rw (o, after_not k.Set ws o, sees_at t, after_at t, domain_check_parses.complete c a rest is (below_more continues 1 11 rest s (lit≤ tt)))
alter_domain_action_at {ws = ws} (drop_domain_constraint {a = a} t u c) s =
    let o = sees_other k.Set k.Drop ws (peek_at t) refl in
    let n = sees_other k.Add k.Drop ws (peek_at t) refl in
    let d = sees_other k.Default k.Constraint a (peek_at u) refl in
    rw (o, after_not k.Set ws o, n, after_not k.Add ws n, expect_at t, d, after_not k.Default a d, expect_at u, identifier_at c)

gives_add_or_drop : {ws : List Word} → Gives (parse.add_or_drop ws) (λ x a. SpellsAlterDomainAction 64 x ws a)
unfolding parse.add_or_drop parse.drop_domain_part
gives_add_or_drop {ws} = gives_eat k.Add tt _ _
    (λ t. gives_then (domain_check_parses.sound (after k.Add ws)) (λ c rest is. gives_some (add_domain_check t is)))
    (λ e. rw e (gives_then (gives_expect k.Drop tt) (λ _ a t. gives_eat k.Default tt _ _
    (λ d. gives_some (drop_domain_default t d))
    (λ e'. rw e' (gives_then (gives_expect k.Constraint tt) (λ _ b u. gives_then gives_identifier (λ c rest n. gives_some (drop_domain_constraint t u n))))))))

pub gives_alter_domain_action : {ws : List Word} → Gives (parse.alter_domain_action ws) (λ x a. SpellsAlterDomainAction 64 x ws a)
unfolding parse.alter_domain_action parse.new_default
gives_alter_domain_action {ws} = gives_eat k.Set tt _ _
    (λ t. gives_then (gives_then (gives_expect k.Default tt) (λ _ f d. gives_weaker gives_default (λ v rest is. set_domain_default t d is))) (λ v rest is. gives_some is))
    (λ e. rw e gives_add_or_drop)

pub alter_domain_action_begins : {x : AlterDomainAction} {ws rest : List Word} → SpellsAlterDomainAction 64 x ws rest → sees k.Period ws ≡ false
alter_domain_action_begins {ws = ws} (set_domain_default t d v) = sees_other k.Period k.Set ws (peek_at t) refl
alter_domain_action_begins {ws = ws} (drop_domain_default t d) = sees_other k.Period k.Drop ws (peek_at t) refl
alter_domain_action_begins {ws = ws} (add_domain_check t c) = sees_other k.Period k.Add ws (peek_at t) refl
alter_domain_action_begins {ws = ws} (drop_domain_constraint t u c) = sees_other k.Period k.Drop ws (peek_at t) refl
