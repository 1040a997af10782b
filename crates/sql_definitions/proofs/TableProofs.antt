-- Tables: what is read is spelled so, and what is spelled so is read.
use Rattle.std.proofs.Common.{◌≡◌, ℕ, ◌<◌, ◌≤◌, true, false, List, length, Option, Some, refl, ap, arith, lit<, lit≤}
use Rattle.sql_tree.specs.declared.table.ColumnConstraint.{ColumnConstraint}
use Rattle.sql_tree.specs.declared.table.ColumnDefinition.{ColumnDefinition}
use Rattle.sql_tree.specs.declared.table.ColumnOption.{ColumnOption}
use Rattle.sql_tree.specs.declared.table.ColumnType.{ColumnType}
use Rattle.sql_tree.specs.declared.table.Matching.{Matching}
use Rattle.sql_tree.specs.declared.table.References.{References}
use Rattle.sql_tree.specs.declared.table.Rule.{Rule}
use Rattle.sql_tree.specs.declared.table.Rule.TheVariants as actions
use Rattle.sql_tree.specs.declared.table.TableConstraint.{TableConstraint}
use Rattle.sql_tree.specs.declared.table.TableConstraintKind.{TableConstraintKind}
use Rattle.sql_tree.specs.declared.table.TableElement.{TableElement}
use Rattle.sql_spelling.specs.Kinds.{is_name, same_kind}
use Rattle.sql_words.specs.declared.word.Word.{Word}
use Rattle.sql_spelling.specs.declared.kind.Kind.{Kind}
use Rattle.sql_spelling.specs.declared.kind.Kind.TheVariants as k
use Rattle.sql_phrases.specs.Reading.{peek, sees, after}
use Rattle.sql_phrases.specs.Shapes.{Token, Separated, Repeated, Optional, left_out, said}
use Rattle.sql_phrases.specs.NameRules.{SpellsIdentifier, SpellsColumns, no_columns, columns}
use Rattle.sql_phrases.specs.NameParsers.{sees_name}
use Rattle.sql_definitions.specs.TableRules.{SpellsRule, cascade, set_null, set_default, restrict, no_action, SpellsRules, no_rules, on_delete, on_update, on_delete_update, on_update_delete, SpellsMatching, no_match, simple, full, partial, SpellsReferences, references, SpellsColumnConstraint, primary_key, unique, refers, column_check, SpellsColumnOption, default_option, not_null, constraint, has_one_default, SpellsColumnType, of_type, of_domain, SpellsColumnDefinition, column_definition, SpellsColumnList, column_list, SpellsTableConstraintKind, primary_key_of, unique_of, foreign_key_of, check_of, SpellsTableConstraint, table_constraint, SpellsTableElement, column, table_constraint_element, SpellsTableElements, table_elements}
use Rattle.sql_phrases.specs.Parsers.{separated}
use Rattle.sql_definitions.specs.TableParsers as parse
use Rattle.sql_definitions.specs.TableParsers.{begins_option}
use Rattle.sql_phrases.proofs.Follow.{follows, Below, below_more, passes, sees_differs, sees_other}
use Rattle.sql_phrases.proofs.Lists.{Gives, gives_none, gives_some, gives_then, gives_weaker, gives_if, after_not, token_next, gives_eat, gives_expect, expect_at, sees_at, after_at, next_at, peek_at, below_token, shorter_token, Parses, separated_parses, repeated_complete, repeated_sound, repeated_shorter, below_repeated}
use Rattle.sql_phrases.proofs.NameProofs.{identifier_at, gives_identifier, identifier_begins, identifier_shorter, object_name_at, gives_object_name, object_name_begins, object_name_shorter, identifiers_parse, columns_at, gives_columns, columns_shorter}
use Rattle.sql_phrases.proofs.TypeLengths.{default_shorter, type_shorter, type_reserved}
use Rattle.sql_phrases.proofs.TypeProofs.{type_at, gives_type, default_at, gives_default}
use Rattle.sql_definitions.proofs.Continuing.{continues}
use Rattle.sql_definitions.proofs.ConditionProofs.{check_at, gives_check, check_shorter, check_begins, begins_constraint, begins_named, name_begins, constraint_name_at, gives_constraint_name, named_shorter}

-- ---- lengths

rule_shorter : {r : Rule} {ws rest : List Word} → SpellsRule r ws rest → length rest < length ws
rule_shorter (cascade t) = shorter_token t
rule_shorter (set_null t u) = omega (arith, shorter_token t, shorter_token u)
rule_shorter (set_default t u) = omega (arith, shorter_token t, shorter_token u)
rule_shorter (restrict t) = shorter_token t
rule_shorter (no_action t u) = omega (arith, shorter_token t, shorter_token u)

rules_shorter : {d u : Rule} {ws rest : List Word} → SpellsRules d u ws rest → length rest ≤ length ws
rules_shorter no_rules = omega arith
rules_shorter (on_delete o t r) = omega (arith, shorter_token o, shorter_token t, rule_shorter r)
rules_shorter (on_update o t r) = omega (arith, shorter_token o, shorter_token t, rule_shorter r)
rules_shorter (on_delete_update o t r p q z) = omega (arith, shorter_token o, shorter_token t, rule_shorter r, shorter_token p, shorter_token q, rule_shorter z)
rules_shorter (on_update_delete o t r p q z) = omega (arith, shorter_token o, shorter_token t, rule_shorter r, shorter_token p, shorter_token q, rule_shorter z)

matching_shorter : {m : Matching} {ws rest : List Word} → SpellsMatching m ws rest → length rest ≤ length ws
matching_shorter no_match = omega arith
matching_shorter (simple t u) = omega (arith, shorter_token t, shorter_token u)
matching_shorter (full t u) = omega (arith, shorter_token t, shorter_token u)
matching_shorter (partial t u) = omega (arith, shorter_token t, shorter_token u)

references_shorter : {r : References} {ws rest : List Word} → SpellsReferences r ws rest → length rest < length ws
references_shorter (references {a = a} {b = b} {c = c} t o cs m r) = omega (arith, shorter_token t, object_name_shorter _ a b o, columns_shorter _ b c cs, matching_shorter m, rules_shorter r)

-- ---- rules

rule_at : {x : Rule} {ws rest : List Word} → SpellsRule x ws rest → parse.rule ws ≡ Some (x, rest)
unfolding parse.rule parse.set_rule
rule_at (cascade t) = rw (peek_at t, next_at t)
rule_at (set_null t u) = rw (peek_at t, next_at t, sees_at u, after_at u)
rule_at (set_default {a = a} t u) = let o = sees_other k.Null k.Default a (peek_at u) refl in rw (peek_at t, next_at t, o, after_not k.Null a o, expect_at u)
rule_at (restrict t) = rw (peek_at t, next_at t)
rule_at (no_action t u) = rw (peek_at t, next_at t, expect_at u)

rule_sound_by : (ws : List Word) (kind : Kind) → peek ws ≡ kind → Gives (parse.rule_by kind ws) (λ x a. SpellsRule x ws a)
unfolding parse.set_rule
rule_sound_by ws k.Cascade e = gives_some (cascade (token_next k.Cascade tt e))
rule_sound_by ws k.Set e = gives_eat k.Null tt _ _
    (λ u. gives_some (set_null (token_next k.Set tt e) u))
    (λ q. rw q (gives_then (gives_expect k.Default tt) (λ _ a u. gives_some (set_default (token_next k.Set tt e) u))))
rule_sound_by ws k.Restrict e = gives_some (restrict (token_next k.Restrict tt e))
rule_sound_by ws k.No e = gives_then (gives_expect k.Action tt) (λ _ a u. gives_some (no_action (token_next k.No tt e) u))
rule_sound_by ws _ e = gives_none

gives_rule : {ws : List Word} → Gives (parse.rule ws) (λ x a. SpellsRule x ws a)
unfolding parse.rule
gives_rule {ws} = rule_sound_by ws (peek ws) refl

data SpellsRuleOn (what : Kind) : Rule → List Word → List Word → Type 0 where
  none_on : {ws : List Word} → SpellsRuleOn what actions.NoAction ws ws
  one_on : {r : Rule} {ws a b rest : List Word} → Token k.On ws a → Token what a b → SpellsRule r b rest → SpellsRuleOn what r ws rest

gives_update_on : {ws : List Word} → Gives (parse.rule_on k.Update ws) (λ x a. SpellsRuleOn k.Update x ws a)
unfolding parse.rule_on
gives_update_on {ws} = gives_eat k.On tt _ _
    (λ o. gives_then (gives_expect k.Update tt) (λ _ a t. gives_weaker gives_rule (λ r rest is. one_on o t is)))
    (λ e. rw e (gives_some none_on))

gives_delete_on : {ws : List Word} → Gives (parse.rule_on k.Delete ws) (λ x a. SpellsRuleOn k.Delete x ws a)
unfolding parse.rule_on
gives_delete_on {ws} = gives_eat k.On tt _ _
    (λ o. gives_then (gives_expect k.Delete tt) (λ _ a t. gives_weaker gives_rule (λ r rest is. one_on o t is)))
    (λ e. rw e (gives_some none_on))

after_delete : {d u : Rule} {ws a b c rest : List Word} → Token k.On ws a → Token k.Delete a b → SpellsRule d b c → SpellsRuleOn k.Update u c rest → SpellsRules d u ws rest
after_delete o t r none_on = on_delete o t r
after_delete o t r (one_on p q z) = on_delete_update o t r p q z

after_update : {d u : Rule} {ws a b c rest : List Word} → Token k.On ws a → Token k.Update a b → SpellsRule u b c → SpellsRuleOn k.Delete d c rest → SpellsRules d u ws rest
after_update o t r none_on = on_update o t r
after_update o t r (one_on p q z) = on_update_delete o t r p q z

both_rules_at : {d u : Rule} {ws rest : List Word} → SpellsRules d u ws rest → Below continues 11 rest → parse.both_rules ws ≡ Some ((d, u), rest)
unfolding parse.both_rules parse.rules_after_on parse.rule_on
both_rules_at {ws = ws} no_rules s = let e = passes continues 11 k.On ws s (lit≤ tt) in rw (e, after_not k.On ws e)
both_rules_at {rest = rest} (on_delete o t r) s = let e = passes continues 11 k.On rest s (lit≤ tt) in rw (sees_at o, after_at o, sees_at t, after_at t, rule_at r, e, after_not k.On rest e)
both_rules_at {rest = rest} (on_update {a = a} o t r) s =
    let e = passes continues 11 k.On rest s (lit≤ tt) in
    let n = sees_other k.Delete k.Update a (peek_at t) refl in
    rw (sees_at o, after_at o, n, after_not k.Delete a n, expect_at t, rule_at r, e, after_not k.On rest e)
both_rules_at (on_delete_update o t r p q z) s = rw (sees_at o, after_at o, sees_at t, after_at t, rule_at r, sees_at p, after_at p, expect_at q, rule_at z)
both_rules_at (on_update_delete {a = a} o t r p q z) s =
    let n = sees_other k.Delete k.Update a (peek_at t) refl in
    rw (sees_at o, after_at o, n, after_not k.Delete a n, expect_at t, rule_at r, sees_at p, after_at p, expect_at q, rule_at z)

gives_both_rules : {ws : List Word} → Gives (parse.both_rules ws) (λ x a. SpellsRules x.0 x.1 ws a)
unfolding parse.both_rules parse.rules_after_on
gives_both_rules {ws} = gives_eat k.On tt _ _
    (λ o. gives_eat k.Delete tt _ _
    (λ t. gives_then gives_rule (λ d c r. gives_then gives_update_on (λ u rest z. gives_some (after_delete o t r z))))
    (λ e. rw e (gives_then (gives_expect k.Update tt) (λ _ b t. gives_then gives_rule (λ u c r. gives_then gives_delete_on (λ d rest z. gives_some (after_update o t r z)))))))
    (λ e. rw e (gives_some no_rules))

rules_below : {d u : Rule} {ws rest : List Word} → SpellsRules d u ws rest → Below continues 11 rest → Below continues 13 ws
rules_below {ws = ws} no_rules s = below_more continues 11 13 ws s (lit≤ tt)
rules_below (on_delete o t r) s = below_token continues 13 o (lit< tt)
rules_below (on_update o t r) s = below_token continues 13 o (lit< tt)
rules_below (on_delete_update o t r p q z) s = below_token continues 13 o (lit< tt)
rules_below (on_update_delete o t r p q z) s = below_token continues 13 o (lit< tt)

-- ---- MATCH

matching_at : {m : Matching} {ws rest : List Word} → SpellsMatching m ws rest → Below continues 13 rest → parse.matching ws ≡ Some (m, rest)
unfolding parse.matching parse.matching_said
matching_at {ws = ws} no_match s = let e = passes continues 13 k.Match ws s (lit≤ tt) in rw (e, after_not k.Match ws e)
matching_at (simple t u) s = rw (sees_at t, after_at t, peek_at u, next_at u)
matching_at (full t u) s = rw (sees_at t, after_at t, peek_at u, next_at u)
matching_at (partial t u) s = rw (sees_at t, after_at t, peek_at u, next_at u)

matching_said_by : {ws a : List Word} → Token k.Match ws a → (kind : Kind) → peek a ≡ kind → Gives (parse.matching_by kind a) (λ m rest. SpellsMatching m ws rest)
matching_said_by t k.Simple e = gives_some (simple t (token_next k.Simple tt e))
matching_said_by t k.Full e = gives_some (full t (token_next k.Full tt e))
matching_said_by t k.Partial e = gives_some (partial t (token_next k.Partial tt e))
matching_said_by t _ e = gives_none

gives_matching : {ws : List Word} → Gives (parse.matching ws) (λ m a. SpellsMatching m ws a)
unfolding parse.matching parse.matching_said
gives_matching {ws} = gives_eat k.Match tt _ _ (λ t. matching_said_by t (peek (after k.Match ws)) refl) (λ e. rw e (gives_some no_match))

matching_below : {m : Matching} {ws rest : List Word} → SpellsMatching m ws rest → Below continues 13 rest → Below continues 14 ws
matching_below {ws = ws} no_match s = below_more continues 13 14 ws s (lit≤ tt)
matching_below (simple t u) s = below_token continues 14 t (lit< tt)
matching_below (full t u) s = below_token continues 14 t (lit< tt)
matching_below (partial t u) s = below_token continues 14 t (lit< tt)

columns_below : {cs : List (List ℕ)} {ws rest : List Word} → SpellsColumns cs ws rest → Below continues 14 rest → Below continues 15 ws
columns_below {ws = ws} no_columns s = below_more continues 14 15 ws s (lit≤ tt)
columns_below (columns l m r) s = below_token continues 15 l (lit< tt)

-- ---- REFERENCES

references_at : {x : References} {ws rest : List Word} → SpellsReferences x ws rest → Below continues 11 rest → parse.references ws ≡ Some (x, rest)
unfolding parse.references
references_at (references {b = b} {c = c} {e = e} t o cs m r) s =
    let after_rules = rules_below r s in
    let after_match = matching_below m after_rules in
    rw (
      expect_at t,
      object_name_at o (passes continues 15 k.Period b (columns_below cs after_match) (lit≤ tt)),
      columns_at cs (passes continues 14 k.LeftParen c after_match (lit≤ tt)),
      matching_at m after_rules,
      both_rules_at r s,
    )

gives_references : {ws : List Word} → Gives (parse.references ws) (λ x a. SpellsReferences x ws a)
unfolding parse.references
gives_references {ws} = gives_then (gives_expect k.References tt) (λ _ a t. gives_then gives_object_name (λ o b is. gives_then gives_columns (λ cs c l. gives_then gives_matching (λ m e is'.
    gives_then gives_both_rules (λ both rest r. gives_some (references t is l is' r))))))

references_begin : {x : References} {ws rest : List Word} → SpellsReferences x ws rest → peek ws ≡ k.References
references_begin (references t o cs m r) = peek_at t

-- ---- what follows

option_binds : (kind : Kind) → begins_option kind ≡ true → continues kind < 11
option_binds k.Default e = lit< tt
option_binds k.Not e = lit< tt
option_binds k.Constraint e = lit< tt
option_binds k.Primary e = lit< tt
option_binds k.Unique e = lit< tt
option_binds k.References e = lit< tt
option_binds k.Check e = lit< tt
option_binds _ e = cc

no_option_by : (kind : Kind) → continues kind < 10 → begins_option kind ≡ false
no_option_by k.Default lt = absurd (omega (arith, lt))
no_option_by k.Not lt = absurd (omega (arith, lt))
no_option_by k.Constraint lt = absurd (omega (arith, lt))
no_option_by k.Primary lt = absurd (omega (arith, lt))
no_option_by k.Unique lt = absurd (omega (arith, lt))
no_option_by k.References lt = absurd (omega (arith, lt))
no_option_by k.Check lt = absurd (omega (arith, lt))
no_option_by _ lt = refl

no_option : (ws : List Word) → Below continues 10 ws → begins_option (peek ws) ≡ false
no_option ws s = no_option_by (peek ws) s.below

type_ends_by : (kind : Kind) → continues kind < 11 → follows kind < 10
type_ends_by k.LeftParen lt = absurd (omega (arith, lt))
type_ends_by k.Varying lt = absurd (omega (arith, lt))
type_ends_by k.Period lt = absurd (omega (arith, lt))
type_ends_by _ lt = lit< tt

type_ends : (ws : List Word) → Below continues 11 ws → Below follows 10 ws
type_ends ws s = record { below = type_ends_by (peek ws) s.below }

named_reserved : (kind : Kind) → begins_named kind ≡ true → is_name kind ≡ false
unfolding is_name same_kind
named_reserved k.Constraint e = refl
named_reserved k.Primary e = refl
named_reserved k.Unique e = refl
named_reserved k.References e = refl
named_reserved k.Foreign e = refl
named_reserved k.Check e = refl
named_reserved _ e = cc

column_list_at : {ns : List (List ℕ)} {ws rest : List Word} → SpellsColumnList ns ws rest → parse.column_list ws ≡ Some (ns, rest)
unfolding parse.column_list
column_list_at (column_list {ns = ns} {a = a} {b = b} l m r) = rw (expect_at l, identifiers_parse.complete ns a b m (below_token follows 9 r (lit< tt)), expect_at r)

gives_column_list : {ws : List Word} → Gives (parse.column_list ws) (λ ns a. SpellsColumnList ns ws a)
unfolding parse.column_list
gives_column_list {ws} = gives_then (gives_expect k.LeftParen tt) (λ _ a l. gives_then (identifiers_parse.sound a) (λ ns b m. gives_then (gives_expect k.RightParen tt) (λ _ rest r. gives_some (column_list l m r))))

column_list_shorter : {ns : List (List ℕ)} {ws rest : List Word} → SpellsColumnList ns ws rest → length rest < length ws
column_list_shorter (column_list {ns = ns} {a = a} {b = b} l m r) = omega (arith, shorter_token l, identifiers_parse.shorter ns a b m, shorter_token r)

module _ (m : ℕ) where
  -- ---- constraints on columns

  column_constraint_at : {x : ColumnConstraint} {ws rest : List Word} → SpellsColumnConstraint m x ws rest → Below continues 11 rest → parse.column_constraint m ws ≡ Some (x, rest)
  unfolding parse.column_constraint
  column_constraint_at (primary_key t u) s = rw (peek_at t, next_at t, expect_at u)
  column_constraint_at (unique t) s = rw (peek_at t, next_at t)
  column_constraint_at (refers r) s = rw (references_begin r, references_at r s)
  column_constraint_at (column_check c) s = rw (check_begins false m c, check_at false m c)

  column_constraint_sound_by : (ws : List Word) (kind : Kind) → peek ws ≡ kind → Gives (parse.column_constraint_by m kind ws) (λ x a. SpellsColumnConstraint m x ws a)
  column_constraint_sound_by ws k.Unique e = gives_some (unique (token_next k.Unique tt e))
  column_constraint_sound_by ws k.Primary e = gives_then (gives_expect k.Key tt) (λ _ a u. gives_some (primary_key (token_next k.Primary tt e) u))
  column_constraint_sound_by ws k.Check e = gives_then (gives_check false m) (λ c a is. gives_some (column_check is))
  column_constraint_sound_by ws _ e = gives_then gives_references (λ r a is. gives_some (refers is))

  gives_column_constraint : {ws : List Word} → Gives (parse.column_constraint m ws) (λ x a. SpellsColumnConstraint m x ws a)
  unfolding parse.column_constraint
  gives_column_constraint {ws} = column_constraint_sound_by ws (peek ws) refl

  constraint_shorter : {c : ColumnConstraint} {ws rest : List Word} → SpellsColumnConstraint m c ws rest → length rest < length ws
  constraint_shorter (primary_key t u) = omega (arith, shorter_token t, shorter_token u)
  constraint_shorter (unique t) = shorter_token t
  constraint_shorter (refers r) = references_shorter r
  constraint_shorter (column_check c) = check_shorter false m c

  option_shorter : (x : ColumnOption) (ws rest : List Word) → SpellsColumnOption m x ws rest → length rest < length ws
  option_shorter x ws rest (default_option t d) = omega (arith, shorter_token t, default_shorter d)
  option_shorter x ws rest (not_null t u) = omega (arith, shorter_token t, shorter_token u)
  option_shorter x ws rest (constraint n c) = omega (arith, named_shorter n, constraint_shorter c)

  column_constraint_begins : {x : ColumnConstraint} {ws rest : List Word} → SpellsColumnConstraint m x ws rest → begins_constraint (peek ws) ≡ true
  column_constraint_begins (primary_key t u) = ap begins_constraint (peek_at t)
  column_constraint_begins (unique t) = ap begins_constraint (peek_at t)
  column_constraint_begins (refers r) = ap begins_constraint (references_begin r)
  column_constraint_begins (column_check c) = ap begins_constraint (check_begins false m c)

  -- ---- options of columns

  option_at : (x : ColumnOption) (ws rest : List Word) → SpellsColumnOption m x ws rest → Below continues 11 rest → parse.column_option m ws ≡ Some (x, rest)
  unfolding parse.column_option
  option_at x ws rest (default_option t d) s = rw (sees_at t, after_at t, default_at d)
  option_at x ws rest (not_null t u) s = let n = sees_other k.Default k.Not ws (peek_at t) refl in rw (n, after_not k.Default ws n, sees_at t, after_at t, expect_at u)
  option_at x ws rest (constraint n c) s =
      let b = name_begins n (column_constraint_begins c) in
      let d = sees_differs begins_named k.Default ws b refl in
      let o = sees_differs begins_named k.Not ws b refl in
      rw (d, after_not k.Default ws d, o, after_not k.Not ws o, constraint_name_at n (column_constraint_begins c), column_constraint_at c s)

  option_sound : (ws : List Word) → Gives (parse.column_option m ws) (λ x a. SpellsColumnOption m x ws a)
  unfolding parse.column_option
  option_sound ws = gives_eat k.Default tt _ _
      (λ t. gives_then gives_default (λ d a is. gives_some (default_option t is)))
      (λ e. rw e (gives_eat k.Not tt _ _
      (λ t. gives_then (gives_expect k.Null tt) (λ _ a u. gives_some (not_null t u)))
      (λ e'. rw e' (gives_then gives_constraint_name (λ n a is. gives_then gives_column_constraint (λ c rest is'. gives_some (constraint is is')))))))

  constraint_option : {n : Option (List ℕ)} {c : ColumnConstraint} {ws a rest : List Word} → Optional k.Constraint SpellsIdentifier n ws a → SpellsColumnConstraint m c a rest → begins_option (peek ws) ≡ true
  constraint_option (said t n) c = ap begins_option (peek_at t)
  constraint_option left_out (primary_key t u) = ap begins_option (peek_at t)
  constraint_option left_out (unique t) = ap begins_option (peek_at t)
  constraint_option left_out (refers r) = ap begins_option (references_begin r)
  constraint_option left_out (column_check c) = ap begins_option (check_begins false m c)

  option_begins : (x : ColumnOption) (ws rest : List Word) → SpellsColumnOption m x ws rest → begins_option (peek ws) ≡ true
  option_begins x ws rest (default_option t d) = ap begins_option (peek_at t)
  option_begins x ws rest (not_null t u) = ap begins_option (peek_at t)
  option_begins x ws rest (constraint n c) = constraint_option n c

  option_below : (x : ColumnOption) (ws rest : List Word) → SpellsColumnOption m x ws rest → Below continues 11 ws
  option_below x ws rest is = record { below = option_binds (peek ws) (option_begins x ws rest is) }

  option_parses : Parses continues (parse.column_option m) (SpellsColumnOption m) 11
  option_parses = record { sound = option_sound; complete = option_at; shorter = option_shorter }

  options_at : (xs : List ColumnOption) (ws rest : List Word) → Repeated (SpellsColumnOption m) xs ws rest → Below continues 10 rest → parse.column_options m ws ≡ Some (xs, rest)
  unfolding parse.column_options
  options_at xs ws rest some s = repeated_complete continues begins_option 10 (parse.column_option m) (SpellsColumnOption m) 11 option_parses option_begins no_option option_below (lit≤ tt) xs ws rest some s

  gives_options : {ws : List Word} → Gives (parse.column_options m ws) (λ xs a. Repeated (SpellsColumnOption m) xs ws a)
  unfolding parse.column_options
  gives_options {ws} = repeated_sound continues begins_option 10 (parse.column_option m) (SpellsColumnOption m) 11 option_parses option_begins no_option option_below (lit≤ tt) ws

  options_below : (xs : List ColumnOption) (ws rest : List Word) → Repeated (SpellsColumnOption m) xs ws rest → Below continues 10 rest → Below continues 11 ws
  options_below xs ws rest some s = below_repeated continues begins_option 10 (parse.column_option m) (SpellsColumnOption m) 11 option_parses option_begins no_option option_below (lit≤ tt) xs ws rest some s

  options_shorter : (xs : List ColumnOption) (ws rest : List Word) → Repeated (SpellsColumnOption m) xs ws rest → length rest ≤ length ws
  options_shorter xs ws rest some = repeated_shorter continues begins_option 10 (parse.column_option m) (SpellsColumnOption m) 11 option_parses option_begins no_option option_below (lit≤ tt) xs ws rest some

  -- ---- columns

  column_type_at : {x : ColumnType} {ws rest : List Word} → SpellsColumnType m x ws rest → Below continues 11 rest → parse.column_type m ws ≡ Some (x, rest)
  unfolding parse.column_type sees_name
  column_type_at {rest = rest} (of_type t) s = rw (type_reserved m t, type_at m t (type_ends rest s))
  column_type_at {rest = rest} (of_domain o) s = rw (object_name_begins o, object_name_at o (passes continues 11 k.Period rest s (lit≤ tt)))

  gives_column_type : {ws : List Word} → Gives (parse.column_type m ws) (λ x a. SpellsColumnType m x ws a)
  unfolding parse.column_type
  gives_column_type {ws} = gives_if (sees_name ws)
      (λ _. gives_then gives_object_name (λ o a is. gives_some (of_domain is)))
      (λ _. gives_then (gives_type m) (λ t a is. gives_some (of_type is)))

  column_type_shorter : {x : ColumnType} {ws rest : List Word} → SpellsColumnType m x ws rest → length rest < length ws
  column_type_shorter (of_type t) = type_shorter m t
  column_type_shorter {ws = ws} {rest = rest} (of_domain o) = object_name_shorter _ ws rest o

  pub column_definition_at : {x : ColumnDefinition} {ws rest : List Word} → SpellsColumnDefinition m x ws rest → Below continues 10 rest → parse.column_definition m ws ≡ Some (x, rest)
  unfolding parse.column_definition parse.fitting_options
  column_definition_at {rest = rest} (column_definition {os = os} {b = b} n t o few) s = rw (identifier_at n, column_type_at t (options_below os b rest o s), options_at os b rest o s, few)

  pub gives_column_definition : {ws : List Word} → Gives (parse.column_definition m ws) (λ x a. SpellsColumnDefinition m x ws a)
  unfolding parse.column_definition parse.fitting_options
  gives_column_definition {ws} = gives_then gives_identifier (λ n a is. gives_then gives_column_type (λ t b it. gives_then gives_options (λ os rest o.
      gives_if (has_one_default os) (λ few. gives_some (column_definition is it o few)) (λ _. gives_none))))

  column_definition_shorter : {x : ColumnDefinition} {ws rest : List Word} → SpellsColumnDefinition m x ws rest → length rest < length ws
  column_definition_shorter {ws = ws} {rest = rest} (column_definition {os = os} {a = a} {b = b} n t o few) = omega (arith, identifier_shorter _ ws a n, column_type_shorter t, options_shorter os b rest o)

  pub column_definition_begins : {x : ColumnDefinition} {ws rest : List Word} → SpellsColumnDefinition m x ws rest → is_name (peek ws) ≡ true
  column_definition_begins (column_definition n t o few) = identifier_begins n

  -- ---- constraints of tables

  table_kind_at : {x : TableConstraintKind} {ws rest : List Word} → SpellsTableConstraintKind m x ws rest → Below continues 11 rest → parse.table_constraint_kind m ws ≡ Some (x, rest)
  unfolding parse.table_constraint_kind
  table_kind_at (primary_key_of t u l) s = rw (peek_at t, next_at t, expect_at u, column_list_at l)
  table_kind_at (unique_of t l) s = rw (peek_at t, next_at t, column_list_at l)
  table_kind_at (check_of c) s = rw (check_begins false m c, check_at false m c)
  table_kind_at (foreign_key_of t u l r) s = rw (peek_at t, next_at t, expect_at u, column_list_at l, references_at r s)

  table_kind_sound_by : (ws : List Word) (kind : Kind) → peek ws ≡ kind → Gives (parse.table_constraint_by m kind ws) (λ x a. SpellsTableConstraintKind m x ws a)
  table_kind_sound_by ws k.Primary e = gives_then (gives_expect k.Key tt) (λ _ a u. gives_then gives_column_list (λ ns rest l. gives_some (primary_key_of (token_next k.Primary tt e) u l)))
  table_kind_sound_by ws k.Unique e = gives_then gives_column_list (λ ns rest l. gives_some (unique_of (token_next k.Unique tt e) l))
  table_kind_sound_by ws k.Foreign e = gives_then (gives_expect k.Key tt) (λ _ a u. gives_then gives_column_list (λ ns b l. gives_then gives_references (λ r rest is. gives_some (foreign_key_of (token_next k.Foreign tt e) u l is))))
  table_kind_sound_by ws k.Check e = gives_then (gives_check false m) (λ c a is. gives_some (check_of is))
  table_kind_sound_by ws _ e = gives_none

  gives_table_kind : {ws : List Word} → Gives (parse.table_constraint_kind m ws) (λ x a. SpellsTableConstraintKind m x ws a)
  unfolding parse.table_constraint_kind
  gives_table_kind {ws} = table_kind_sound_by ws (peek ws) refl

  table_kind_begins : {x : TableConstraintKind} {ws rest : List Word} → SpellsTableConstraintKind m x ws rest → begins_constraint (peek ws) ≡ true
  table_kind_begins (primary_key_of t u l) = ap begins_constraint (peek_at t)
  table_kind_begins (unique_of t l) = ap begins_constraint (peek_at t)
  table_kind_begins (check_of c) = ap begins_constraint (check_begins false m c)
  table_kind_begins (foreign_key_of t u l r) = ap begins_constraint (peek_at t)

  table_kind_shorter : {x : TableConstraintKind} {ws rest : List Word} → SpellsTableConstraintKind m x ws rest → length rest < length ws
  table_kind_shorter (primary_key_of t u l) = omega (arith, shorter_token t, shorter_token u, column_list_shorter l)
  table_kind_shorter (unique_of t l) = omega (arith, shorter_token t, column_list_shorter l)
  table_kind_shorter (check_of c) = check_shorter false m c
  table_kind_shorter (foreign_key_of t u l r) = omega (arith, shorter_token t, shorter_token u, column_list_shorter l, references_shorter r)

  pub table_constraint_at : {x : TableConstraint} {ws rest : List Word} → SpellsTableConstraint m x ws rest → Below continues 11 rest → parse.table_constraint m ws ≡ Some (x, rest)
  unfolding parse.table_constraint
  table_constraint_at (table_constraint n c) s = rw (constraint_name_at n (table_kind_begins c), table_kind_at c s)

  pub gives_table_constraint : {ws : List Word} → Gives (parse.table_constraint m ws) (λ x a. SpellsTableConstraint m x ws a)
  unfolding parse.table_constraint
  gives_table_constraint {ws} = gives_then gives_constraint_name (λ n a is. gives_then gives_table_kind (λ c rest is'. gives_some (table_constraint is is')))

  pub table_constraint_begins : {x : TableConstraint} {ws rest : List Word} → SpellsTableConstraint m x ws rest → begins_named (peek ws) ≡ true
  table_constraint_begins (table_constraint n c) = name_begins n (table_kind_begins c)

  pub table_constraint_reserved : {x : TableConstraint} {ws rest : List Word} → SpellsTableConstraint m x ws rest → is_name (peek ws) ≡ false
  table_constraint_reserved {ws = ws} c = named_reserved (peek ws) (table_constraint_begins c)

  table_constraint_shorter : {x : TableConstraint} {ws rest : List Word} → SpellsTableConstraint m x ws rest → length rest < length ws
  table_constraint_shorter (table_constraint n c) = omega (arith, named_shorter n, table_kind_shorter c)

  -- ---- elements of tables

  element_at : (x : TableElement) (ws rest : List Word) → SpellsTableElement m x ws rest → Below continues 10 rest → parse.table_element m ws ≡ Some (x, rest)
  unfolding parse.table_element sees_name
  element_at x ws rest (column c) s = rw (column_definition_begins c, column_definition_at c s)
  element_at x ws rest (table_constraint_element c) s = rw (table_constraint_reserved c, table_constraint_at c (below_more continues 10 11 rest s (lit≤ tt)))

  element_sound : (ws : List Word) → Gives (parse.table_element m ws) (λ x a. SpellsTableElement m x ws a)
  unfolding parse.table_element
  element_sound ws = gives_if (sees_name ws)
      (λ _. gives_then gives_column_definition (λ c a is. gives_some (column is)))
      (λ _. gives_then gives_table_constraint (λ c a is. gives_some (table_constraint_element is)))

  element_shorter : (x : TableElement) (ws rest : List Word) → SpellsTableElement m x ws rest → length rest < length ws
  element_shorter x ws rest (column c) = column_definition_shorter c
  element_shorter x ws rest (table_constraint_element c) = table_constraint_shorter c

  elements_parse : Parses continues (separated k.Comma (parse.table_element m)) (Separated k.Comma (SpellsTableElement m)) 9
  elements_parse = separated_parses continues k.Comma tt (parse.table_element m) (SpellsTableElement m) 10 (lit< tt) (record { sound = element_sound; complete = element_at; shorter = element_shorter })

  pub table_elements_at : {xs : List TableElement} {ws rest : List Word} → SpellsTableElements m xs ws rest → parse.table_elements m ws ≡ Some (xs, rest)
  unfolding parse.table_elements
  table_elements_at (table_elements {es = es} {a = a} {b = b} l e r) = rw (expect_at l, elements_parse.complete es a b e (below_token continues 9 r (lit< tt)), expect_at r)

  pub gives_table_elements : {ws : List Word} → Gives (parse.table_elements m ws) (λ xs a. SpellsTableElements m xs ws a)
  unfolding parse.table_elements
  gives_table_elements {ws} = gives_then (gives_expect k.LeftParen tt) (λ _ a l. gives_then (elements_parse.sound a) (λ es b e. gives_then (gives_expect k.RightParen tt) (λ _ rest r. gives_some (table_elements l e r))))

  pub table_elements_begin : {xs : List TableElement} {ws rest : List Word} → SpellsTableElements m xs ws rest → sees k.Period ws ≡ false
  table_elements_begin {ws = ws} (table_elements l e r) = sees_other k.Period k.LeftParen ws (peek_at l) refl
