-- SELECT from a view of the Information Schema: what is read is spelled so, and what is spelled so is read.
use Rattle.std.proofs.Common.{◌≡◌, ◌<◌, List, length, Some, refl, arith, lit<, lit≤}
use Rattle.sql_tree.specs.declared.statement.InfoColumns.{InfoColumns}
use Rattle.sql_tree.specs.declared.statement.InfoQuery.{InfoQuery}
use Rattle.sql_tree.specs.declared.statement.InfoTest.{InfoTest}
use Rattle.sql_tree.specs.declared.statement.InfoValue.{InfoValue}
use Rattle.sql_spelling.specs.Kinds.{is_name, same_kind}
use Rattle.sql_words.specs.declared.word.Word.{Word}
use Rattle.sql_spelling.specs.declared.kind.Kind.TheVariants as k
use Rattle.sql_phrases.specs.Reading.{peek, next, sees, after}
use Rattle.sql_phrases.specs.Shapes.{Token, Separated}
use Rattle.sql_grammar.specs.InformationRules.{SpellsInfoValue, literal, number, SpellsInfoTest, equals, is_null, SpellsInfoTests, no_tests, tests_after, SpellsInfoColumns, all_columns, named_columns, SpellsInfoQuery, info_query}
use Rattle.sql_phrases.specs.Parsers.{separated}
use Rattle.sql_grammar.specs.InformationParsers as parse
use Rattle.sql_phrases.proofs.Follow.{follows, Below, below_more, passes, sees_differs, sees_other}
use Rattle.sql_phrases.proofs.Lists.{Gives, gives_some, gives_then, gives_if, gives_weaker, after_not, gives_eat, gives_expect, gives_text, expect_at, text_at, sees_at, after_at, next_at, peek_at, peek_spelled, sees_spelled, below_token, shorter_token, shorter_spelled, Parses, separated_parses}
use Rattle.sql_phrases.proofs.NameProofs.{identifier_at, gives_identifier, identifier_shorter, identifiers_parse, identifiers_begin}

info_value_at : {x : InfoValue} {ws rest : List Word} → SpellsInfoValue x ws rest → parse.info_value ws ≡ Some (x, rest)
unfolding parse.info_value
info_value_at (literal s) = rw (sees_spelled s, text_at s)
info_value_at {ws = ws} (number s) = rw (sees_other k.Literal k.Number ws (peek_spelled s) refl, text_at s)

gives_info_value : {ws : List Word} → Gives (parse.info_value ws) (λ x a. SpellsInfoValue x ws a)
unfolding parse.info_value
gives_info_value {ws} = gives_if (sees k.Literal ws)
    (λ _. gives_then (gives_text k.Literal tt) (λ t a s. gives_some (literal s)))
    (λ _. gives_then (gives_text k.Number tt) (λ t a s. gives_some (number s)))

info_value_shorter : {x : InfoValue} {ws rest : List Word} → SpellsInfoValue x ws rest → length rest < length ws
info_value_shorter (literal s) = shorter_spelled s
info_value_shorter (number s) = shorter_spelled s

info_test_at : (x : InfoTest) (ws rest : List Word) → SpellsInfoTest x ws rest → Below follows 6 rest → parse.info_test ws ≡ Some (x, rest)
unfolding parse.info_test
info_test_at x ws rest (equals {a = a} c e v) s = let i = sees_other k.Is k.Equals a (peek_at e) refl in rw (identifier_at c, i, after_not k.Is a i, expect_at e, info_value_at v)
info_test_at x ws rest (is_null c i n) s = rw (identifier_at c, sees_at i, after_at i, expect_at n)

info_test_sound : (ws : List Word) → Gives (parse.info_test ws) (λ x a. SpellsInfoTest x ws a)
unfolding parse.info_test
info_test_sound ws = gives_then gives_identifier (λ c a is. gives_eat k.Is tt _ _
    (λ i. gives_then (gives_expect k.Null tt) (λ _ b n. gives_some (is_null is i n)))
    (λ e. rw e (gives_then (gives_expect k.Equals tt) (λ _ b q. gives_then gives_info_value (λ v d is'. gives_some (equals is q is'))))))

info_test_shorter : (x : InfoTest) (ws rest : List Word) → SpellsInfoTest x ws rest → length rest < length ws
info_test_shorter x ws rest (equals {a = a} c e v) = omega (arith, identifier_shorter _ ws a c, shorter_token e, info_value_shorter v)
info_test_shorter x ws rest (is_null {a = a} c i n) = omega (arith, identifier_shorter _ ws a c, shorter_token i, shorter_token n)

every_test_parse : Parses follows (separated k.And parse.info_test) (Separated k.And SpellsInfoTest) 5
every_test_parse = separated_parses follows k.And tt parse.info_test SpellsInfoTest 6 (lit< tt) (record { sound = info_test_sound; complete = info_test_at; shorter = info_test_shorter })

info_tests_at : {x : List InfoTest} {ws rest : List Word} → SpellsInfoTests x ws rest → Below follows 5 rest → parse.info_tests ws ≡ Some (x, rest)
unfolding parse.info_tests
info_tests_at {ws = ws} no_tests s = let e = passes follows 5 k.Where ws s (lit≤ tt) in rw (e, after_not k.Where ws e)
info_tests_at {rest = rest} (tests_after {ts = ts} {a = a} t m) s = rw (sees_at t, after_at t, every_test_parse.complete ts a rest m s)

gives_info_tests : {ws : List Word} → Gives (parse.info_tests ws) (λ x a. SpellsInfoTests x ws a)
unfolding parse.info_tests
gives_info_tests {ws} = gives_eat k.Where tt _ _
    (λ t. gives_weaker (every_test_parse.sound (after k.Where ws)) (λ ts a m. tests_after t m))
    (λ e. rw e (gives_some no_tests))

info_columns_at : {x : InfoColumns} {ws rest : List Word} → SpellsInfoColumns x ws rest → Below follows 9 rest → parse.info_columns ws ≡ Some (x, rest)
unfolding parse.info_columns is_name same_kind
info_columns_at (all_columns t) s = rw (sees_at t, after_at t)
info_columns_at {ws = ws} {rest = rest} (named_columns {ns = ns} m) s =
    let e = sees_differs is_name k.Asterisk ws (identifiers_begin ns ws rest m) refl in rw (e, after_not k.Asterisk ws e, identifiers_parse.complete ns ws rest m s)

gives_info_columns : {ws : List Word} → Gives (parse.info_columns ws) (λ x a. SpellsInfoColumns x ws a)
unfolding parse.info_columns
gives_info_columns {ws} = gives_eat k.Asterisk tt _ _
    (λ t. gives_some (all_columns t))
    (λ e. rw e (gives_then (identifiers_parse.sound ws) (λ ns a m. gives_some (named_columns m))))

pub info_query_at : {x : InfoQuery} {ws rest : List Word} → SpellsInfoQuery x ws rest → Below follows 1 rest → (peek ws ≡ k.Select) × (parse.info_query (next ws) ≡ Some (x, rest))
unfolding parse.info_query
info_query_at {rest = rest} (info_query t cs f i p v ts) s =
    (peek_at t, rw (next_at t, info_columns_at cs (below_token follows 9 f (lit< tt)), expect_at f, expect_at i, expect_at p, identifier_at v, info_tests_at ts (below_more follows 1 5 rest s (lit≤ tt))))

pub gives_info_query : {ws a : List Word} → Token k.Select ws a → Gives (parse.info_query a) (λ x rest. SpellsInfoQuery x ws rest)
unfolding parse.info_query
gives_info_query t = gives_then gives_info_columns (λ cs b is. gives_then (gives_expect k.From tt) (λ _ c f. gives_then (gives_expect k.InformationSchema tt) (λ _ d i.
    gives_then (gives_expect k.Period tt) (λ _ e p. gives_then gives_identifier (λ v g is'. gives_then gives_info_tests (λ ts rest tests. gives_some (info_query t is f i p is' tests)))))))
