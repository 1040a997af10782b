-- Statements as they are written.
use Rattle.std.specs.Prelude.{List}
use Rattle.sql_tree.specs.declared.statement.Statement.{Statement}
use Rattle.sql_words.specs.WordForms.{AreWords}
use Rattle.sql_words.specs.declared.word.Word.{Word}
use Rattle.sql_grammar.specs.StatementRules.{Grammar}

-- the grammar reads the statement from words, each of which a text can have
abbrev pub IsWritten : Statement → Type 0
IsWritten statement = (words : List Word) × AreWords words × Grammar words statement
