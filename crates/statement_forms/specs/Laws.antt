-- What the grammar gives of the statements that it reads.
use Rattle.std.specs.Prelude.{ℕ, Bool, List}
use Rattle.sql_tree.specs.declared.expr.Expr.{Expr}
use Rattle.sql_tree.specs.declared.expr.Query.{Query}
use Rattle.sql_tree.specs.declared.statement.CreateTable.{CreateTable}
use Rattle.sql_tree.specs.declared.statement.Statement.TheVariants as statements
use Rattle.sql_words.specs.WordForms.{AreWords}
use Rattle.sql_words.specs.declared.word.Word.{Word}
use Rattle.sql_expressions.specs.ExpressionRules.{SpellsExprWithin, SpellsQueryWithin}
use Rattle.cat_items.specs.Pieces.{AreFormed, expr_pieces, query_pieces}
use Rattle.table_parts.specs.Forms.{HasTableForms}
use Rattle.statement_forms.specs.Written.{IsWritten}

-- an expression that words spell is formed, at any depth of brackets, with VALUE or without
abbrev pub ExpressionsAreFormed : Type 0
ExpressionsAreFormed = (value : Bool) (brackets : ℕ) (e : Expr) (words rest : List Word) → AreWords words → SpellsExprWithin value brackets e words rest → AreFormed (expr_pieces e)

-- so is a query
abbrev pub QueriesAreFormed : Type 0
QueriesAreFormed = (value : Bool) (brackets : ℕ) (q : Query) (words rest : List Word) → AreWords words → SpellsQueryWithin value brackets q words rest → AreFormed (query_pieces q)

-- a table that is created by words has its forms
abbrev pub TablesHaveTheirForms : Type 0
TablesHaveTheirForms = (s : CreateTable) → IsWritten (statements.CreateTable s) → HasTableForms s.elements
