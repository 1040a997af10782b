-- SELECT from a view of the Information Schema.
use Rattle.std.specs.Prelude.{ℕ, List, []}
use Rattle.sql_names.specs.NameBytes.{NameBytes}
use Rattle.sql_tree.specs.declared.statement.InfoColumns.{InfoColumns}
use Rattle.sql_tree.specs.declared.statement.InfoColumns.TheVariants as columns
use Rattle.sql_tree.specs.declared.statement.InfoQuery.{InfoQuery}
use Rattle.sql_tree.specs.declared.statement.InfoTest.{InfoTest}
use Rattle.sql_tree.specs.declared.statement.InfoTest.TheVariants as tests
use Rattle.sql_tree.specs.declared.statement.InfoValue.{InfoValue}
use Rattle.sql_tree.specs.declared.statement.InfoValue.TheVariants as values
use Rattle.sql_spelling.specs.declared.kind.Kind.TheVariants as k
use Rattle.sql_words.specs.declared.word.Word.{Word}
use Rattle.sql_phrases.specs.Shapes.{Token, SpellsText, Separated}
use Rattle.sql_phrases.specs.NameRules.{SpellsIdentifier, SpellsIdentifiers}

-- lit | Number
pub data SpellsInfoValue : InfoValue → List Word → List Word → Type 0 where
  literal : {t : List ℕ} {ws rest : List Word} → SpellsText k.Literal t ws rest → SpellsInfoValue (values.Literal t) ws rest
  number : {t : List ℕ} {ws rest : List Word} → SpellsText k.Number t ws rest → SpellsInfoValue (values.Number t) ws rest

-- test := name = (lit | Number) | name IS NULL
pub data SpellsInfoTest : InfoTest → List Word → List Word → Type 0 where
  equals : {c : NameBytes} {v : InfoValue} {ws a b rest : List Word} → SpellsIdentifier c ws a → Token k.Equals a b → SpellsInfoValue v b rest → SpellsInfoTest (tests.Equals c v) ws rest
  is_null : {c : NameBytes} {ws a b rest : List Word} → SpellsIdentifier c ws a → Token k.Is a b → Token k.Null b rest → SpellsInfoTest (tests.IsNull c) ws rest

-- [WHERE test {AND test}]
pub data SpellsInfoTests : List InfoTest → List Word → List Word → Type 0 where
  no_tests : {ws : List Word} → SpellsInfoTests [] ws ws
  tests_after : {ts : List InfoTest} {ws a rest : List Word} → Token k.Where ws a → Separated k.And SpellsInfoTest ts a rest → SpellsInfoTests ts ws rest

-- '*' | name,..
pub data SpellsInfoColumns : InfoColumns → List Word → List Word → Type 0 where
  all_columns : {ws rest : List Word} → Token k.Asterisk ws rest → SpellsInfoColumns columns.All ws rest
  named_columns : {ns : List NameBytes} {ws rest : List Word} → SpellsIdentifiers ns ws rest → SpellsInfoColumns (columns.Named ns) ws rest

-- SELECT ('*' | name,..) FROM INFORMATION_SCHEMA . name [WHERE test {AND test}]
pub data SpellsInfoQuery : InfoQuery → List Word → List Word → Type 0 where
  info_query : {cs : InfoColumns} {view : NameBytes} {ts : List InfoTest} {ws a b c d e f rest : List Word} → Token k.Select ws a → SpellsInfoColumns cs a b → Token k.From b c
      → Token k.InformationSchema c d → Token k.Period d e → SpellsIdentifier view e f → SpellsInfoTests ts f rest
      → SpellsInfoQuery (record { columns = cs; view = view; tests = ts }) ws rest
