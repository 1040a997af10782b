-- Laws of the rules of statements.
use Rattle.std.specs.Prelude.{◌≤◌, ℕ, List, []}
use Rattle.sql_tree.specs.declared.statement.Statement.{Statement}
use Rattle.sql_words.specs.declared.word.Word.{Word}
use Rattle.sql_expressions.specs.Depth.{most_open}
use Rattle.sql_grammar.specs.StatementRules.{SpellsStatement}

-- within a number of at least 2 at most that many brackets are open
abbrev pub CountsBrackets : Type 0
CountsBrackets = (n : ℕ) (s : Statement) (words : List Word) → 2 ≤ n → SpellsStatement n s words [] → most_open 0 words ≤ n

-- what is a statement within any number is one within each number that isn't less than the brackets that are open
abbrev pub HasNoOtherLimit : Type 0
HasNoOtherLimit = (m n : ℕ) (s : Statement) (words : List Word) → SpellsStatement m s words [] → most_open 0 words ≤ n → SpellsStatement n s words []
