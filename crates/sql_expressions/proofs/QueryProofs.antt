-- Queries: what is read is spelled so, and what is spelled so is read.
use Rattle.std.proofs.Common.{◌≡◌, ℕ, ◌<◌, ◌≤◌, Bool, true, false, List, length, Option, Some, None, refl, subst, arith, lit<, lit≤}
use Rattle.std.proofs.lemmas.Bool.{and_parts}
use denote.Enum.Bare.{sameb}
use Rattle.sql_names.specs.declared.column.ObjectName.{ObjectName}
use Rattle.sql_names.specs.declared.column.Reference.{Reference}
use Rattle.sql_names.specs.declared.column.TableReference.{TableReference}
use Rattle.sql_tree.specs.declared.expr.Chain.{Chain}
use Rattle.sql_tree.specs.declared.expr.Expr.{Expr}
use Rattle.sql_tree.specs.declared.expr.Further.{Further}
use Rattle.sql_tree.specs.declared.expr.Join.{Join}
use Rattle.sql_tree.specs.declared.expr.Query.{Query}
use Rattle.sql_tree.specs.declared.expr.Select.{Select}
use Rattle.sql_tree.specs.declared.expr.SelectItem.{SelectItem}
use Rattle.sql_tree.specs.declared.expr.SelectList.{SelectList}
use Rattle.sql_tree.specs.declared.expr.SetOperator.{SetOperator}
use Rattle.sql_tree.specs.declared.expr.SetOperator.TheVariants as operators
use Rattle.sql_spelling.specs.Kinds.{is_name, same_kind}
use Rattle.sql_spelling.specs.contracts.kind.Kind.{the_type}
use Rattle.sql_words.specs.declared.word.Word.{Word}
use Rattle.sql_spelling.specs.declared.kind.Kind.{Kind}
use Rattle.sql_spelling.specs.declared.kind.Kind.TheVariants as k
use Rattle.sql_phrases.specs.Reading.{peek, next, spelling, sees, after}
use Rattle.sql_phrases.specs.Shapes.{Spelled, Token, Separated, Repeated, Optional, left_out, said, Marked, absent, present}
use Rattle.sql_phrases.specs.NameRules.{SpellsIdentifier, SpellsObjectName}
use Rattle.sql_phrases.specs.NameRules as names
use Rattle.sql_phrases.specs.NameParsers.{sees_name, fits_name, object_name, identifier, name_next}
use Rattle.sql_phrases.specs.Parsers.{Parser, separated, repeated}
use Rattle.sql_expressions.specs.QueryRules.{SpellsReference, unqualified, qualified, SpellsAlias, no_alias, alias, SpellsTableReference, table_reference, SpellsQuantifier, no_quantifier, all, distinct, SpellsSetOperator, union, except, SpellsGrouping, no_grouping, group_by, SpellsSelectItem, expr_item, qualified_star, SpellsSelectList, star, listed, SpellsJoin, inner_join, cross_join, SpellsChain, chain, SpellsSelect, select, SpellsFurther, further, SpellsQuery, query}
use Rattle.sql_expressions.specs.QueryParsers as parse
use Rattle.sql_expressions.specs.QueryParsers.{reference_of, sees_qualified_star, begins_join, begins_further, set_operator_of}
use Rattle.sql_phrases.proofs.Follow.{Below, below_more, passes, sees_no, sees_is, sees_other}
use Rattle.sql_phrases.proofs.Lists.{Gives, gives_none, gives_some, gives_then, gives_if, gives_weaker, token_next, after_not, gives_eat, gives_ate, gives_expect, expect_at, sees_at, after_at, next_at, peek_at, below_token, shorter_token, Parses, separated_parses, separated_begins, below_repeated, repeated_complete, repeated_sound, repeated_shorter, optional_complete, optional_sound, optional_below}
use Rattle.sql_phrases.proofs.Marks.{marked_at, marked_seen, marked_shorter}
use Rattle.sql_phrases.proofs.NameProofs.{identifier_at, gives_identifier, identifier_begins, identifier_next, identifier_never, identifier_shorter, object_name_at, gives_object_name, object_name_shorter}
use Rattle.sql_expressions.proofs.Binding.{binds, opens, name_binds, name_opens, not_named}

-- ---- ref := name | name . name

-- a name that a reference may be
pub referred : {o : ObjectName} {ws rest : List Word} → SpellsObjectName o ws rest → SpellsReference (reference_of o) ws rest
referred (names.unqualified n) = unqualified n
referred (names.qualified q d n) = qualified q d n

reference_at : (x : Reference) (ws rest : List Word) → SpellsReference x ws rest → Below binds 13 rest → parse.reference ws ≡ Some (x, rest)
unfolding parse.reference
reference_at x ws rest (unqualified n) s = rw (object_name_at (names.unqualified n) (passes binds 13 k.Period rest s (lit≤ tt)))
reference_at x ws rest (qualified q d n) s = rw (object_name_at (names.qualified q d n) (passes binds 13 k.Period rest s (lit≤ tt)))

reference_sound : (ws : List Word) → Gives (parse.reference ws) (λ x a. SpellsReference x ws a)
unfolding parse.reference
reference_sound ws = gives_then gives_object_name (λ o a is. gives_some (referred is))

pub reference_shorter : (x : Reference) (ws rest : List Word) → SpellsReference x ws rest → length rest < length ws
reference_shorter x ws rest (unqualified n) = identifier_shorter _ ws rest n
reference_shorter x ws rest (qualified {a = a} {b = b} q d n) = omega (arith, identifier_shorter _ ws a q, shorter_token d, identifier_shorter _ b rest n)

pub reference_begins : {x : Reference} {ws rest : List Word} → SpellsReference x ws rest → is_name (peek ws) ≡ true
reference_begins (unqualified n) = identifier_begins n
reference_begins (qualified q d n) = identifier_begins q

references_parse : Parses binds (separated k.Comma parse.reference) (Separated k.Comma SpellsReference) 4
references_parse = separated_parses binds k.Comma tt parse.reference SpellsReference 13 (lit< tt) (record { sound = reference_sound; complete = reference_at; shorter = reference_shorter })

-- ---- [[AS] name]

alias_at : {x : Option (List ℕ)} {ws rest : List Word} → SpellsAlias x ws rest → Below binds 6 rest → parse.alias ws ≡ Some (x, rest)
unfolding parse.alias sees_name is_name same_kind
alias_at {ws = ws} no_alias s = let e = passes binds 6 k.As ws s (lit≤ tt) in rw (e, after_not k.As ws e, not_named ws s)
alias_at {ws = ws} (alias absent n) s = let e = identifier_never k.As n refl in rw (e, after_not k.As ws e, identifier_begins n, identifier_at n)
alias_at (alias (present t) n) s = rw (sees_at t, after_at t, identifier_at n)

gives_alias : {ws : List Word} → Gives (parse.alias ws) (λ x a. SpellsAlias x ws a)
unfolding parse.alias
gives_alias {ws} = gives_eat k.As tt _ _
    (λ t. gives_then gives_identifier (λ n a is. gives_some (alias (present t) is)))
    (λ e. rw e (gives_if (sees_name ws) (λ _. gives_then gives_identifier (λ n a is. gives_some (alias absent is))) (λ _. gives_some no_alias)))

alias_shorter : {x : Option (List ℕ)} {ws rest : List Word} → SpellsAlias x ws rest → length rest ≤ length ws
alias_shorter no_alias = omega arith
alias_shorter {rest = rest} (alias {a = a} m n) = omega (arith, marked_shorter m, identifier_shorter _ a rest n)

-- what stands before it ends there
alias_below : {x : Option (List ℕ)} {ws rest : List Word} → SpellsAlias x ws rest → Below binds 6 rest → Below binds 7 ws
alias_below {ws = ws} no_alias s = below_more binds 6 7 ws s (lit≤ tt)
alias_below {ws = ws} (alias absent n) s = record { below = rw (name_binds (peek ws) (identifier_begins n)) (lit< tt) }
alias_below (alias (present t) n) s = below_token binds 7 t (lit< tt)

-- ---- tab := obj [[AS] name]

table_reference_at : {x : TableReference} {ws rest : List Word} → SpellsTableReference x ws rest → Below binds 6 rest → parse.table_reference ws ≡ Some (x, rest)
unfolding parse.table_reference
table_reference_at (table_reference {a = a} o n) s = rw (object_name_at o (passes binds 7 k.Period a (alias_below n s) (lit≤ tt)), alias_at n s)

gives_table_reference : {ws : List Word} → Gives (parse.table_reference ws) (λ x a. SpellsTableReference x ws a)
unfolding parse.table_reference
gives_table_reference = gives_then gives_object_name (λ o a is. gives_then gives_alias (λ n rest al. gives_some (table_reference is al)))

table_reference_shorter : {x : TableReference} {ws rest : List Word} → SpellsTableReference x ws rest → length rest < length ws
table_reference_shorter {ws = ws} (table_reference {a = a} o n) = omega (arith, object_name_shorter _ ws a o, alias_shorter n)

-- ---- [DISTINCT | ALL]

quantifier_at : {x : Bool} {ws rest : List Word} → SpellsQuantifier x ws rest → sees k.Distinct rest ≡ false → sees k.All rest ≡ false → parse.quantifier ws ≡ Some (x, rest)
unfolding parse.quantifier
quantifier_at {ws = ws} no_quantifier d a = rw (d, after_not k.Distinct ws d, after_not k.All ws a)
quantifier_at {ws = ws} (all t) d a = let o = sees_other k.Distinct k.All ws (peek_at t) refl in rw (o, after_not k.Distinct ws o, after_at t)
quantifier_at (distinct t) d a = rw (sees_at t, after_at t)

gives_quantifier : {ws : List Word} → Gives (parse.quantifier ws) (λ x a. SpellsQuantifier x ws a)
unfolding parse.quantifier
gives_quantifier = gives_eat k.Distinct tt _ _
    (λ t. gives_some (distinct t))
    (λ e. rw e (gives_ate k.All tt (λ t. gives_some (all t)) (λ e'. rw e' (gives_some no_quantifier))))

quantifier_shorter : {x : Bool} {ws rest : List Word} → SpellsQuantifier x ws rest → length rest ≤ length ws
quantifier_shorter no_quantifier = omega arith
quantifier_shorter (all t) = omega (arith, shorter_token t)
quantifier_shorter (distinct t) = omega (arith, shorter_token t)

-- ---- name . '*'

star_parts : (ws : List Word) → sees_qualified_star ws ≡ true → (sees_name ws ≡ true) × (sees k.Period (next ws) ≡ true) × (sees k.Asterisk (next (next ws)) ≡ true)
unfolding sees_qualified_star
star_parts ws e = let p = and_parts (sees_name ws) _ e in let q = and_parts (sees k.Period (next ws)) _ p.1 in (p.0, q.0, q.1)

star_at : {q : List ℕ} {ws a b rest : List Word} → SpellsIdentifier q ws a → Token k.Period a b → Token k.Asterisk b rest → sees_qualified_star ws ≡ true
unfolding sees_qualified_star sees_name
star_at q d t = rw (identifier_begins q, identifier_next q, sees_at d, next_at d, sees_at t)

pub star_is_named : (ws : List Word) → sees_qualified_star ws ≡ true → is_name (peek ws) ≡ true
unfolding sees_name
star_is_named ws e = (star_parts ws e).0

not_a_name : (ws : List Word) → sees k.Asterisk ws ≡ true → sees_name ws ≡ false
unfolding sees_name is_name same_kind
not_a_name ws e = rw (sees_is k.Asterisk ws e) refl

no_object_by : (ws : List Word) (fits : Bool) → fits_name (spelling ws) ≡ fits → sees_qualified_star ws ≡ true → object_name ws ≡ None
unfolding object_name identifier name_next after
no_object_by ws true f e =
    let p = star_parts ws e in
    let n : sees_name (next (next ws)) ≡ false = not_a_name (next (next ws)) p.2 in
    rw (p.0, f, p.1, n)
no_object_by ws false f e = let p = star_parts ws e in rw (p.0, f)

pub no_object : (ws : List Word) → sees_qualified_star ws ≡ true → object_name ws ≡ None
no_object ws e = no_object_by ws (fits_name (spelling ws)) refl e

-- ---- UNION | EXCEPT

set_operator_at : {o : SetOperator} {ws rest : List Word} → SpellsSetOperator o ws rest → (set_operator_of (peek ws) ≡ Some o) × (next ws ≡ rest)
set_operator_at (union t) = (rw (peek_at t) refl, next_at t)
set_operator_at (except t) = (rw (peek_at t) refl, next_at t)

set_operator_sound : (ws : List Word) (kind : Kind) → peek ws ≡ kind → (o : SetOperator) → set_operator_of kind ≡ Some o → SpellsSetOperator o ws (next ws)
set_operator_sound ws k.Union e o h = let q : operators.Union ≡ o = cc in subst (λ z. SpellsSetOperator z ws (next ws)) q (union (token_next k.Union tt e))
set_operator_sound ws k.Except e o h = let q : operators.Except ≡ o = cc in subst (λ z. SpellsSetOperator z ws (next ws)) q (except (token_next k.Except tt e))
set_operator_sound ws _ e o h = cc

set_operator_shorter : {o : SetOperator} {ws rest : List Word} → SpellsSetOperator o ws rest → length rest < length ws
set_operator_shorter (union t) = shorter_token t
set_operator_shorter (except t) = shorter_token t

set_operator_begins : {o : SetOperator} {ws rest : List Word} → SpellsSetOperator o ws rest → begins_further (peek ws) ≡ true
set_operator_begins (union t) = rw (peek_at t) refl
set_operator_begins (except t) = rw (peek_at t) refl

set_operator_below : {o : SetOperator} {ws rest : List Word} → SpellsSetOperator o ws rest → Below binds 2 ws
set_operator_below (union t) = below_token binds 2 t (lit< tt)
set_operator_below (except t) = below_token binds 2 t (lit< tt)

no_further_by : (kind : Kind) → binds kind < 1 → begins_further kind ≡ false
no_further_by k.Union lt = absurd (omega (arith, lt))
no_further_by k.Except lt = absurd (omega (arith, lt))
no_further_by _ lt = refl

no_further : (ws : List Word) → Below binds 1 ws → begins_further (peek ws) ≡ false
no_further ws s = no_further_by (peek ws) s.below

-- ---- [GROUP BY ref,..]

grouping_at : {x : List Reference} {ws rest : List Word} → SpellsGrouping x ws rest → Below binds 2 rest → parse.grouping ws ≡ Some (x, rest)
unfolding parse.grouping
grouping_at {ws = ws} no_grouping s = let e = passes binds 2 k.Group ws s (lit≤ tt) in rw (e, after_not k.Group ws e)
grouping_at {rest = rest} (group_by {rs = rs} {b = b} t u m) s = rw (sees_at t, after_at t, expect_at u, references_parse.complete rs b rest m (below_more binds 2 4 rest s (lit≤ tt)))

gives_grouping : {ws : List Word} → Gives (parse.grouping ws) (λ x a. SpellsGrouping x ws a)
unfolding parse.grouping
gives_grouping = gives_eat k.Group tt _ _
    (λ t. gives_then (gives_expect k.By tt) (λ _ b u. gives_weaker (references_parse.sound b) (λ rs rest m. group_by t u m)))
    (λ e. rw e (gives_some no_grouping))

grouping_shorter : {x : List Reference} {ws rest : List Word} → SpellsGrouping x ws rest → length rest ≤ length ws
grouping_shorter no_grouping = omega arith
grouping_shorter {rest = rest} (group_by {rs = rs} {b = b} t u m) = omega (arith, shorter_token t, shorter_token u, references_parse.shorter rs b rest m)

grouping_below : {x : List Reference} {ws rest : List Word} → SpellsGrouping x ws rest → Below binds 2 rest → Below binds 3 ws
grouping_below {ws = ws} no_grouping s = below_more binds 2 3 ws s (lit≤ tt)
grouping_below (group_by t u m) s = below_token binds 3 t (lit< tt)

no_join_by : (kind : Kind) → binds kind < 5 → begins_join kind ≡ false
no_join_by k.Join lt = absurd (omega (arith, lt))
no_join_by k.Inner lt = absurd (omega (arith, lt))
no_join_by k.Cross lt = absurd (omega (arith, lt))
no_join_by _ lt = refl

no_join : (ws : List Word) → Below binds 5 ws → begins_join (peek ws) ≡ false
no_join ws s = no_join_by (peek ws) s.below

pub optional_shorter : {A : Type 0} {by : Kind} {R : Spelled A} {x : Option A} {ws rest : List Word} → ((y : A) (a : List Word) → R y a rest → length rest < length a) → Optional by R x ws rest
    → length rest ≤ length ws
optional_shorter f left_out = omega arith
optional_shorter f (said {x = y} {a = a} t r) = omega (arith, shorter_token t, f y a r)

-- ---- what holds expressions

module _ (whole : Parser Expr) (Whole : Spelled Expr) (w : Parses binds whole Whole 7)
    (begun : (e : Expr) (ws rest : List Word) → Whole e ws rest → 0 < opens (peek ws))
    (never_star : (ws : List Word) → sees_qualified_star ws ≡ true → whole ws ≡ None) where
  not_star : (e : Expr) (ws a : List Word) → Whole e ws a → Below binds 7 a → (t : Bool) → sees_qualified_star ws ≡ t → sees_qualified_star ws ≡ false
  not_star e ws a r s true h = let n = never_star ws h in let c = w.complete e ws a r s in cc
  not_star e ws a r s false h = h

  -- an expression doesn't begin so
  pub not_begun : (by : Kind) (e : Expr) (ws rest : List Word) → Whole e ws rest → opens by ≡ 0 → sees by ws ≡ false
  not_begun by e ws rest r z = sees_no opens by ws (λ h. absurd (omega (arith, begun e ws rest r, h, z)))

  -- ---- items

  item_at : (x : SelectItem) (ws rest : List Word) → SpellsSelectItem Whole x ws rest → Below binds 6 rest → parse.select_item whole ws ≡ Some (x, rest)
  unfolding parse.select_item parse.qualified_star parse.expr_item
  item_at x ws rest (expr_item {e = e} {a = a} r al) s =
      let b = alias_below al s in rw (not_star e ws a r b (sees_qualified_star ws) refl, w.complete e ws a r b, alias_at al s)
  item_at x ws rest (qualified_star q d t) s = rw (star_at q d t, identifier_at q, expect_at d, expect_at t)

  gives_qualified_star : {ws : List Word} → Gives (parse.qualified_star ws) (λ x a. SpellsSelectItem Whole x ws a)
  unfolding parse.qualified_star
  gives_qualified_star = gives_then gives_identifier (λ q a is. gives_then (gives_expect k.Period tt) (λ _ b d. gives_then (gives_expect k.Asterisk tt) (λ _ rest t. gives_some (qualified_star is d t))))

  item_sound : (ws : List Word) → Gives (parse.select_item whole ws) (λ x a. SpellsSelectItem Whole x ws a)
  unfolding parse.select_item parse.expr_item
  item_sound ws = gives_if (sees_qualified_star ws)
      (λ _. gives_qualified_star)
      (λ _. gives_then (w.sound ws) (λ e a r. gives_then gives_alias (λ n rest al. gives_some (expr_item r al))))

  item_shorter : (x : SelectItem) (ws rest : List Word) → SpellsSelectItem Whole x ws rest → length rest < length ws
  item_shorter x ws rest (expr_item {e = e} {a = a} r al) = omega (arith, w.shorter e ws a r, alias_shorter al)
  item_shorter x ws rest (qualified_star {a = a} q d t) = omega (arith, identifier_shorter _ ws a q, shorter_token d, shorter_token t)

  item_begins : (x : SelectItem) (ws rest : List Word) → SpellsSelectItem Whole x ws rest → 0 < opens (peek ws)
  item_begins x ws rest (expr_item {e = e} {a = a} r al) = begun e ws a r
  item_begins x ws rest (qualified_star q d t) = rw (name_opens (peek ws) (identifier_begins q)) (lit< tt)

  items_parse : Parses binds (separated k.Comma (parse.select_item whole)) (Separated k.Comma (SpellsSelectItem Whole)) 4
  items_parse = separated_parses binds k.Comma tt (parse.select_item whole) (SpellsSelectItem Whole) 6 (lit< tt) (record { sound = item_sound; complete = item_at; shorter = item_shorter })

  items_never : (by : Kind) (xs : List SelectItem) (ws rest : List Word) → Separated k.Comma (SpellsSelectItem Whole) xs ws rest → opens by ≡ 0 → sees by ws ≡ false
  items_never by xs ws rest m z = separated_begins (λ l. sees by l ≡ false) (λ x l r is. sees_no opens by l (λ h. absurd (omega (arith, item_begins x l r is, h, z)))) xs ws rest m

  select_list_at : {x : SelectList} {ws rest : List Word} → SpellsSelectList Whole x ws rest → Below binds 4 rest → parse.select_list whole ws ≡ Some (x, rest)
  unfolding parse.select_list
  select_list_at (star t) s = rw (sees_at t, after_at t)
  select_list_at {ws = ws} {rest = rest} (listed {xs = xs} m) s = let e = items_never k.Asterisk xs ws rest m refl in rw (e, after_not k.Asterisk ws e, items_parse.complete xs ws rest m s)

  gives_select_list : {ws : List Word} → Gives (parse.select_list whole ws) (λ x a. SpellsSelectList Whole x ws a)
  unfolding parse.select_list
  gives_select_list {ws} = gives_eat k.Asterisk tt _ _
      (λ t. gives_some (star t))
      (λ e. rw e (gives_then (items_parse.sound ws) (λ xs rest m. gives_some (listed m))))

  select_list_shorter : {x : SelectList} {ws rest : List Word} → SpellsSelectList Whole x ws rest → length rest < length ws
  select_list_shorter (star t) = shorter_token t
  select_list_shorter {ws = ws} {rest = rest} (listed {xs = xs} m) = items_parse.shorter xs ws rest m

  select_list_never : (by : Kind) {x : SelectList} {ws rest : List Word} → SpellsSelectList Whole x ws rest → opens by ≡ 0 → sameb the_type k.Asterisk by ≡ false → sees by ws ≡ false
  select_list_never by {ws = ws} (star t) z d = sees_other by k.Asterisk ws (peek_at t) d
  select_list_never by {ws = ws} {rest = rest} (listed {xs = xs} m) z d = items_never by xs ws rest m z

  -- ---- joins

  join_at : (x : Join) (ws rest : List Word) → SpellsJoin Whole x ws rest → Below binds 6 rest → parse.join whole ws ≡ Some (x, rest)
  unfolding parse.join parse.inner_join
  join_at x ws rest (inner_join {e = e} {d = d} absent j t o r) s =
      rw (peek_at j, next_at j, table_reference_at t (below_token binds 6 o (lit< tt)), expect_at o, w.complete e d rest r (below_more binds 6 7 rest s (lit≤ tt)))
  join_at x ws rest (inner_join {e = e} {d = d} (present i) j t o r) s =
      rw (peek_at i, next_at i, expect_at j, table_reference_at t (below_token binds 6 o (lit< tt)), expect_at o, w.complete e d rest r (below_more binds 6 7 rest s (lit≤ tt)))
  join_at x ws rest (cross_join c j t) s = rw (peek_at c, next_at c, expect_at j, table_reference_at t s)

  gives_inner_join : {said : Bool} {ws a b : List Word} → Marked k.Inner said ws a → Token k.Join a b → Gives (parse.inner_join whole b) (λ x rest. SpellsJoin Whole x ws rest)
  unfolding parse.inner_join
  gives_inner_join m j = gives_then gives_table_reference (λ t c is. gives_then (gives_expect k.On tt) (λ _ d o. gives_then (w.sound d) (λ e rest r. gives_some (inner_join m j is o r))))

  join_sound_by : (ws : List Word) (kind : Kind) → peek ws ≡ kind → Gives (parse.join_by whole kind ws) (λ x a. SpellsJoin Whole x ws a)
  join_sound_by ws k.Join e = gives_inner_join absent (token_next k.Join tt e)
  join_sound_by ws k.Inner e = gives_then (gives_expect k.Join tt) (λ _ b j. gives_inner_join (present (token_next k.Inner tt e)) j)
  join_sound_by ws k.Cross e = gives_then (gives_expect k.Join tt) (λ _ b j. gives_then gives_table_reference (λ t rest is. gives_some (cross_join (token_next k.Cross tt e) j is)))
  join_sound_by ws _ e = gives_none

  join_shorter : (x : Join) (ws rest : List Word) → SpellsJoin Whole x ws rest → length rest < length ws
  join_shorter x ws rest (inner_join {e = e} {d = d} m j t o r) = omega (arith, marked_shorter m, shorter_token j, table_reference_shorter t, shorter_token o, w.shorter e d rest r)
  join_shorter x ws rest (cross_join c j t) = omega (arith, shorter_token c, shorter_token j, table_reference_shorter t)

  join_begins : (x : Join) (ws rest : List Word) → SpellsJoin Whole x ws rest → begins_join (peek ws) ≡ true
  join_begins x ws rest (inner_join absent j t o r) = rw (peek_at j) refl
  join_begins x ws rest (inner_join (present i) j t o r) = rw (peek_at i) refl
  join_begins x ws rest (cross_join c j t) = rw (peek_at c) refl

  join_below : (x : Join) (ws rest : List Word) → SpellsJoin Whole x ws rest → Below binds 6 ws
  join_below x ws rest (inner_join absent j t o r) = below_token binds 6 j (lit< tt)
  join_below x ws rest (inner_join (present i) j t o r) = below_token binds 6 i (lit< tt)
  join_below x ws rest (cross_join c j t) = below_token binds 6 c (lit< tt)

  join_parses : Parses binds (parse.join whole) (SpellsJoin Whole) 6
  unfolding parse.join
  join_parses = record { sound = λ ws. join_sound_by ws (peek ws) refl; complete = join_at; shorter = join_shorter }

  joins_at : (xs : List Join) (ws rest : List Word) → Repeated (SpellsJoin Whole) xs ws rest → Below binds 5 rest → repeated begins_join (parse.join whole) ws ≡ Some (xs, rest)
  joins_at = repeated_complete binds begins_join 5 (parse.join whole) (SpellsJoin Whole) 6 join_parses join_begins no_join join_below (lit≤ tt)

  joins_below : (xs : List Join) (ws rest : List Word) → Repeated (SpellsJoin Whole) xs ws rest → Below binds 5 rest → Below binds 6 ws
  joins_below = below_repeated binds begins_join 5 (parse.join whole) (SpellsJoin Whole) 6 join_parses join_begins no_join join_below (lit≤ tt)

  joins_sound : (ws : List Word) → Gives (repeated begins_join (parse.join whole) ws) (λ xs rest. Repeated (SpellsJoin Whole) xs ws rest)
  joins_sound = repeated_sound binds begins_join 5 (parse.join whole) (SpellsJoin Whole) 6 join_parses join_begins no_join join_below (lit≤ tt)

  joins_shorter : (xs : List Join) (ws rest : List Word) → Repeated (SpellsJoin Whole) xs ws rest → length rest ≤ length ws
  joins_shorter = repeated_shorter binds begins_join 5 (parse.join whole) (SpellsJoin Whole) 6 join_parses join_begins no_join join_below (lit≤ tt)

  -- ---- chains

  chain_at : (x : Chain) (ws rest : List Word) → SpellsChain Whole x ws rest → Below binds 5 rest → parse.chain whole ws ≡ Some (x, rest)
  unfolding parse.chain
  chain_at x ws rest (chain {js = js} {a = a} t m) s = rw (table_reference_at t (joins_below js a rest m s), joins_at js a rest m s)

  chain_sound : (ws : List Word) → Gives (parse.chain whole ws) (λ x a. SpellsChain Whole x ws a)
  unfolding parse.chain
  chain_sound ws = gives_then gives_table_reference (λ t a is. gives_then (joins_sound a) (λ js rest m. gives_some (chain is m)))

  chain_shorter : (x : Chain) (ws rest : List Word) → SpellsChain Whole x ws rest → length rest < length ws
  chain_shorter x ws rest (chain {js = js} {a = a} t m) = omega (arith, table_reference_shorter t, joins_shorter js a rest m)

  chains_parse : Parses binds (separated k.Comma (parse.chain whole)) (Separated k.Comma (SpellsChain Whole)) 4
  chains_parse = separated_parses binds k.Comma tt (parse.chain whole) (SpellsChain Whole) 5 (lit< tt) (record { sound = chain_sound; complete = chain_at; shorter = chain_shorter })

  -- ---- SELECT

  select_at : {x : Select} {ws rest : List Word} → SpellsSelect Whole x ws rest → Below binds 2 rest → parse.select whole ws ≡ Some (x, rest)
  unfolding parse.select
  select_at {rest = rest} (select {cs = cs} {w = x} {e = e} {f = f} {g = g} t q l from m filter rs) s =
      let before_group = grouping_below rs s in
      let before_where = optional_below binds 4 k.Where Whole x f g filter (below_more binds 3 4 g before_group (lit≤ tt)) (lit< tt) in
      rw (
        expect_at t,
        quantifier_at q (select_list_never k.Distinct l refl refl) (select_list_never k.All l refl refl),
        select_list_at l (below_token binds 4 from (lit< tt)),
        expect_at from,
        chains_parse.complete cs e f m before_where,
        optional_complete k.Where whole Whole x f g filter (passes binds 3 k.Where g before_group (lit≤ tt)) (λ y a r. w.complete y a g r (below_more binds 3 7 g before_group (lit≤ tt))),
        grouping_at rs s,
      )

  gives_select : {ws : List Word} → Gives (parse.select whole ws) (λ x a. SpellsSelect Whole x ws a)
  unfolding parse.select
  gives_select = gives_then (gives_expect k.Select tt) (λ _ a t. gives_then gives_quantifier (λ d b q. gives_then gives_select_list (λ l c is. gives_then (gives_expect k.From tt) (λ _ e f.
      gives_then (chains_parse.sound e) (λ cs f' m. gives_then (optional_sound k.Where tt whole Whole w.sound f') (λ x g o. gives_then gives_grouping (λ rs rest r.
      gives_some (select t q is f m o r))))))))

  select_shorter : {x : Select} {ws rest : List Word} → SpellsSelect Whole x ws rest → length rest < length ws
  select_shorter (select {cs = cs} {e = e} {f = f} {g = g} t q l from m filter rs) =
      omega (
        arith,
        shorter_token t,
        quantifier_shorter q,
        select_list_shorter l,
        shorter_token from,
        chains_parse.shorter cs e f m,
        optional_shorter (λ y a r. w.shorter y a g r) filter,
        grouping_shorter rs,
      )

  select_begins : {x : Select} {ws rest : List Word} → SpellsSelect Whole x ws rest → peek ws ≡ k.Select
  select_begins (select t q l from m filter rs) = peek_at t

  -- ---- (UNION | EXCEPT) [ALL] select

  further_at : (x : Further) (ws rest : List Word) → SpellsFurther Whole x ws rest → Below binds 2 rest → parse.further whole ws ≡ Some (x, rest)
  unfolding parse.further
  further_at x ws rest (further {b = b} o all_said is) s =
      let p = set_operator_at o in
      let m = marked_at all_said (sees_other k.All k.Select b (select_begins is) refl) in
      rw (p.0, p.1, m.0, m.1, select_at is s)

  further_found : (ws : List Word) (o : Option SetOperator) → set_operator_of (peek ws) ≡ o → Gives (parse.further_of whole o ws) (λ x a. SpellsFurther Whole x ws a)
  further_found ws (Some o) e = gives_then gives_select (λ s rest is. gives_some (further (set_operator_sound ws (peek ws) refl o e) (marked_seen k.All tt (next ws)) is))
  further_found ws None e = gives_none

  further_shorter : (x : Further) (ws rest : List Word) → SpellsFurther Whole x ws rest → length rest < length ws
  further_shorter x ws rest (further o all_said is) = omega (arith, set_operator_shorter o, marked_shorter all_said, select_shorter is)

  further_begins : (x : Further) (ws rest : List Word) → SpellsFurther Whole x ws rest → begins_further (peek ws) ≡ true
  further_begins x ws rest (further o all_said is) = set_operator_begins o

  further_below : (x : Further) (ws rest : List Word) → SpellsFurther Whole x ws rest → Below binds 2 ws
  further_below x ws rest (further o all_said is) = set_operator_below o

  further_parses : Parses binds (parse.further whole) (SpellsFurther Whole) 2
  unfolding parse.further
  further_parses = record { sound = λ ws. further_found ws (set_operator_of (peek ws)) refl; complete = further_at; shorter = further_shorter }

  -- ---- query

  query_at : (x : Query) (ws rest : List Word) → SpellsQuery Whole x ws rest → Below binds 1 rest → parse.query whole ws ≡ Some (x, rest)
  unfolding parse.query
  query_at x ws rest (query {fs = fs} {a = a} is m) s =
      rw (
        select_at is (below_repeated binds begins_further 1 (parse.further whole) (SpellsFurther Whole) 2 further_parses further_begins no_further further_below (lit≤ tt) fs a rest m s),
        repeated_complete binds begins_further 1 (parse.further whole) (SpellsFurther Whole) 2 further_parses further_begins no_further further_below (lit≤ tt) fs a rest m s,
      )

  query_sound : (ws : List Word) → Gives (parse.query whole ws) (λ x a. SpellsQuery Whole x ws a)
  unfolding parse.query
  query_sound ws = gives_then gives_select (λ s a is. gives_then (repeated_sound binds begins_further 1 (parse.further whole) (SpellsFurther Whole) 2 further_parses further_begins no_further further_below (lit≤ tt) a)
      (λ fs rest m. gives_some (query is m)))

  query_shorter : (x : Query) (ws rest : List Word) → SpellsQuery Whole x ws rest → length rest < length ws
  query_shorter x ws rest (query {fs = fs} {a = a} is m) =
      omega (arith, select_shorter is, repeated_shorter binds begins_further 1 (parse.further whole) (SpellsFurther Whole) 2 further_parses further_begins no_further further_below (lit≤ tt) fs a rest m)

  pub query_parses : Parses binds (parse.query whole) (SpellsQuery Whole) 1
  query_parses = record { sound = query_sound; complete = query_at; shorter = query_shorter }

  pub query_begins : {x : Query} {ws rest : List Word} → SpellsQuery Whole x ws rest → peek ws ≡ k.Select
  query_begins (query is m) = select_begins is
