-- Names: what is read is spelled so, and what is spelled so is read.
use Rattle.std.proofs.Common.{◌≡◌, ℕ, ◌<◌, ◌≤◌, true, false, List, [], ◌∷◌, length, Some, refl, arith, lit<}
use Rattle.sql_names.specs.declared.column.ObjectName.{ObjectName}
use Rattle.sql_spelling.specs.Kinds.{is_name, same_kind}
use Rattle.sql_words.specs.Kinds.{text_of}
use Rattle.sql_words.specs.declared.word.Word.{Word}
use Rattle.sql_spelling.specs.declared.kind.Kind.{Kind}
use Rattle.sql_spelling.specs.declared.kind.Kind.TheVariants as k
use Rattle.sql_phrases.specs.Reading.{peek, next, spelling, sees, after}
use Rattle.sql_phrases.specs.NameRules.{SpellsIdentifier, identifier, SpellsLiteralName, literal_name, SpellsObjectName, unqualified, qualified, SpellsIdentifiers, SpellsColumns, no_columns, columns}
use Rattle.sql_phrases.specs.NameParsers as parse
use Rattle.sql_phrases.specs.NameParsers.{fits_name, sees_name}
use Rattle.sql_phrases.proofs.Follow.{follows, sees_differs}
use Rattle.sql_phrases.proofs.Lists.{Gives, gives_none, gives_some, gives_then, gives_if, after_not, spells_seen, gives_eat, gives_expect, expect_at, sees_at, after_at, next_spelled, spelling_at, sees_spelled, below_token, shorter_token, Parses, separated_parses, separated_begins}
use Rattle.sql_phrases.proofs.NameTexts.{is_name_fits, fits_is_name}

-- ---- name

pub identifier_at : {n : List ℕ} {ws rest : List Word} → SpellsIdentifier n ws rest → parse.identifier ws ≡ Some (n, rest)
unfolding parse.identifier parse.name_next parse.sees_name
identifier_at (identifier {w = w} h is) = rw (h, is_name_fits (text_of w) is)

identifier_from : (ws : List Word) → sees_name ws ≡ true → fits_name (spelling ws) ≡ true → SpellsIdentifier (spelling ws) ws (next ws)
unfolding sees_name is_name same_kind
identifier_from [] e f = cc
identifier_from (w ∷ ws) e f = identifier e (fits_is_name (text_of w) f)

pub gives_identifier : {ws : List Word} → Gives (parse.identifier ws) (λ n a. SpellsIdentifier n ws a)
unfolding parse.identifier parse.name_next
gives_identifier {ws} = gives_if (sees_name ws) (λ e. gives_if (fits_name (spelling ws)) (λ f. gives_some (identifier_from ws e f)) (λ _. gives_none)) (λ _. gives_none)

pub identifier_begins : {n : List ℕ} {ws rest : List Word} → SpellsIdentifier n ws rest → is_name (peek ws) ≡ true
identifier_begins (identifier h is) = h

pub identifier_next : {n : List ℕ} {ws rest : List Word} → SpellsIdentifier n ws rest → next ws ≡ rest
identifier_next (identifier h is) = refl

-- a name doesn't begin with a word that is reserved, nor with a symbol
pub identifier_never : {n : List ℕ} {ws rest : List Word} (by : Kind) → SpellsIdentifier n ws rest → is_name by ≡ false → sees by ws ≡ false
identifier_never {n} {ws} by is d = sees_differs is_name by ws (identifier_begins is) d

pub identifier_shorter : (n : List ℕ) (ws rest : List Word) → SpellsIdentifier n ws rest → length rest < length ws
identifier_shorter n ws rest (identifier h is) = omega arith

pub identifier_parses : (f : Kind → ℕ) (b : ℕ) → Parses f parse.identifier SpellsIdentifier b
identifier_parses f b = record { sound = λ ws. gives_identifier; complete = λ n ws rest is s. identifier_at is; shorter = identifier_shorter }

-- ---- a literal for a name

pub literal_name_at : {n : List ℕ} {ws rest : List Word} → SpellsLiteralName n ws rest → parse.literal_name ws ≡ Some (n, rest)
unfolding parse.literal_name parse.name_next
literal_name_at (literal_name {n = n} s is) = rw (sees_spelled s, spelling_at s, is_name_fits n is, next_spelled s)

pub gives_literal_name : {ws : List Word} → Gives (parse.literal_name ws) (λ n a. SpellsLiteralName n ws a)
unfolding parse.literal_name parse.name_next
gives_literal_name {ws} = gives_if (sees k.Literal ws)
    (λ e. gives_if (fits_name (spelling ws)) (λ f. gives_some (literal_name (spells_seen k.Literal tt e) (fits_is_name (spelling ws) f))) (λ _. gives_none))
    (λ _. gives_none)

pub literal_name_begins : {n : List ℕ} {ws rest : List Word} → SpellsLiteralName n ws rest → sees k.Literal ws ≡ true
literal_name_begins (literal_name s is) = sees_spelled s

-- ---- name | name . name

pub object_name_at : {o : ObjectName} {ws rest : List Word} → SpellsObjectName o ws rest → sees k.Period rest ≡ false → parse.object_name ws ≡ Some (o, rest)
unfolding parse.object_name
object_name_at {rest = rest} (unqualified n) e = rw (identifier_at n, e, after_not k.Period rest e)
object_name_at (qualified s d n) e = rw (identifier_at s, sees_at d, after_at d, identifier_at n)

pub gives_object_name : {ws : List Word} → Gives (parse.object_name ws) (λ o a. SpellsObjectName o ws a)
unfolding parse.object_name
gives_object_name {ws} = gives_then gives_identifier (λ s a is. gives_eat k.Period tt _ _
    (λ d. gives_then gives_identifier (λ n b is'. gives_some (qualified is d is')))
    (λ e. rw e (gives_some (unqualified is))))

pub object_name_begins : {o : ObjectName} {ws rest : List Word} → SpellsObjectName o ws rest → is_name (peek ws) ≡ true
object_name_begins (unqualified n) = identifier_begins n
object_name_begins (qualified s d n) = identifier_begins s

pub object_name_shorter : (o : ObjectName) (ws rest : List Word) → SpellsObjectName o ws rest → length rest < length ws
object_name_shorter o ws rest (unqualified n) = identifier_shorter _ _ _ n
object_name_shorter o ws rest (qualified {a = a} {b = b} s d n) = omega (arith, identifier_shorter _ ws a s, shorter_token d, identifier_shorter _ b rest n)

-- ---- lists of names

pub identifiers_parse : Parses follows parse.identifiers SpellsIdentifiers 9
unfolding parse.identifiers
identifiers_parse = separated_parses follows k.Comma tt parse.identifier SpellsIdentifier 10 (lit< tt) (identifier_parses follows 10)

pub identifiers_begin : (ns : List (List ℕ)) (ws rest : List Word) → SpellsIdentifiers ns ws rest → is_name (peek ws) ≡ true
identifiers_begin ns ws rest m = separated_begins (λ l. is_name (peek l) ≡ true) (λ n l r is. identifier_begins is) ns ws rest m

pub columns_at : {cs : List (List ℕ)} {ws rest : List Word} → SpellsColumns cs ws rest → sees k.LeftParen rest ≡ false → parse.columns ws ≡ Some (cs, rest)
unfolding parse.columns
columns_at {rest = rest} no_columns e = rw (e, after_not k.LeftParen rest e)
columns_at (columns {ns = ns} {a = a} {b = b} l m r) e = rw (sees_at l, after_at l, identifiers_parse.complete ns a b m (below_token follows 9 r (lit< tt)), expect_at r)

pub gives_columns : {ws : List Word} → Gives (parse.columns ws) (λ cs a. SpellsColumns cs ws a)
unfolding parse.columns
gives_columns {ws} = gives_eat k.LeftParen tt _ _
    (λ l. gives_then (identifiers_parse.sound (after k.LeftParen ws)) (λ ns b m. gives_then (gives_expect k.RightParen tt) (λ _ rest r. gives_some (columns l m r))))
    (λ e. rw e (gives_some no_columns))

pub columns_shorter : (cs : List (List ℕ)) (ws rest : List Word) → SpellsColumns cs ws rest → length rest ≤ length ws
columns_shorter cs ws rest no_columns = omega arith
columns_shorter cs ws rest (columns {ns = ns} {a = a} {b = b} l m r) = omega (arith, shorter_token l, identifiers_parse.shorter ns a b m, shorter_token r)
