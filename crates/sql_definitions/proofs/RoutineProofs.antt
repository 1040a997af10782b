-- Parameters: what is read is spelled so, and what is spelled so is read.
use Rattle.std.proofs.Common.{◌≡◌, ◌<◌, false, List, length, Some, refl, arith, lit<}
use Rattle.sql_names.specs.declared.sort.Param.{Param}
use Rattle.sql_spelling.specs.Kinds.{is_name, same_kind}
use Rattle.sql_words.specs.declared.word.Word.{Word}
use Rattle.sql_spelling.specs.declared.kind.Kind.TheVariants as k
use Rattle.sql_phrases.specs.Reading.{sees}
use Rattle.sql_phrases.specs.Shapes.{Separated, absent, present}
use Rattle.sql_phrases.specs.Parsers.{separated}
use Rattle.sql_phrases.proofs.Follow.{follows, Below, sees_other}
use Rattle.sql_phrases.proofs.Lists.{Gives, gives_some, gives_then, gives_weaker, after_not, gives_eat, gives_ate, gives_expect, expect_at, sees_at, after_at, peek_at, below_token, shorter_token, Parses, separated_parses, separated_begins}
use Rattle.sql_phrases.proofs.NameProofs.{identifier_at, gives_identifier, identifier_never, identifier_shorter}
use Rattle.sql_phrases.proofs.TypeLengths.{type_shorter}
use Rattle.sql_phrases.proofs.TypeProofs.{type_at, gives_type}
use Rattle.sql_definitions.specs.RoutineRules.{SpellsParam, param, SpellsParams, no_params, params, SpellsLanguage, no_language, language}
use Rattle.sql_definitions.specs.RoutineParsers as parse

param_at : (x : Param) (ws rest : List Word) → SpellsParam 63 x ws rest → Below follows 10 rest → parse.param ws ≡ Some (x, rest)
unfolding parse.param is_name same_kind
param_at x ws rest (param absent n t) s = let no = identifier_never k.In n refl in rw (after_not k.In ws no, identifier_at n, type_at 63 t s)
param_at x ws rest (param (present i) n t) s = rw (after_at i, identifier_at n, type_at 63 t s)

param_sound : (ws : List Word) → Gives (parse.param ws) (λ x a. SpellsParam 63 x ws a)
unfolding parse.param
param_sound ws = gives_ate k.In tt
    (λ i. gives_then gives_identifier (λ n b is. gives_then (gives_type 63) (λ t rest it. gives_some (param (present i) is it))))
    (λ e. rw e (gives_then gives_identifier (λ n b is. gives_then (gives_type 63) (λ t rest it. gives_some (param absent is it)))))

param_shorter : (x : Param) (ws rest : List Word) → SpellsParam 63 x ws rest → length rest < length ws
param_shorter x ws rest (param {b = b} absent n t) = omega (arith, identifier_shorter _ ws b n, type_shorter 63 t)
param_shorter x ws rest (param {a = a} {b = b} (present i) n t) = omega (arith, shorter_token i, identifier_shorter _ a b n, type_shorter 63 t)

params_parse : Parses follows (separated k.Comma parse.param) (Separated k.Comma (SpellsParam 63)) 9
params_parse = separated_parses follows k.Comma tt parse.param (SpellsParam 63) 10 (lit< tt) (record { sound = param_sound; complete = param_at; shorter = param_shorter })

param_never_ends : (x : Param) (ws rest : List Word) → SpellsParam 63 x ws rest → sees k.RightParen ws ≡ false
unfolding is_name same_kind
param_never_ends x ws rest (param absent n t) = identifier_never k.RightParen n refl
param_never_ends x ws rest (param (present i) n t) = sees_other k.RightParen k.In ws (peek_at i) refl

pub params_at : {ps : List Param} {ws rest : List Word} → SpellsParams 64 ps ws rest → parse.params ws ≡ Some (ps, rest)
unfolding parse.params
params_at (no_params l r) = rw (expect_at l, sees_at r, after_at r)
params_at (params {ps = ps} {a = a} {b = b} l m r) =
    let n : sees k.RightParen a ≡ false = separated_begins (λ ws. sees k.RightParen ws ≡ false) param_never_ends ps a b m in
    rw (expect_at l, n, after_not k.RightParen a n, params_parse.complete ps a b m (below_token follows 9 r (lit< tt)), expect_at r)

pub gives_params : {ws : List Word} → Gives (parse.params ws) (λ ps a. SpellsParams 64 ps ws a)
unfolding parse.params
gives_params {ws} = gives_then (gives_expect k.LeftParen tt) (λ _ a l. gives_eat k.RightParen tt _ _
    (λ r. gives_some (no_params l r))
    (λ e. rw e (gives_then (params_parse.sound a) (λ ps b m. gives_then (gives_expect k.RightParen tt) (λ _ rest r. gives_some (params l m r))))))

pub params_begin : {ps : List Param} {ws rest : List Word} → SpellsParams 64 ps ws rest → sees k.Period ws ≡ false
params_begin {ws = ws} (no_params l r) = sees_other k.Period k.LeftParen ws (peek_at l) refl
params_begin {ws = ws} (params l m r) = sees_other k.Period k.LeftParen ws (peek_at l) refl

pub language_at : {ws rest : List Word} → SpellsLanguage ws rest → sees k.Language rest ≡ false → parse.language ws ≡ Some (tt, rest)
unfolding parse.language
language_at {ws = ws} no_language e = rw (e, after_not k.Language ws e)
language_at (language l q) e = rw (sees_at l, after_at l, expect_at q)

pub gives_language : {ws : List Word} → Gives (parse.language ws) (λ _ a. SpellsLanguage ws a)
unfolding parse.language
gives_language {ws} = gives_eat k.Language tt _ _
    (λ l. gives_weaker (gives_expect k.Sql tt) (λ _ a q. language l q))
    (λ e. rw e (gives_some no_language))
