-- What the grammar sees of a word.
use Rattle.std.specs.Prelude.{ℕ, List, []}
use Rattle.sql_spelling.specs.Kinds.{keyword}
use Rattle.sql_spelling.specs.declared.kind.Kind.{Kind}
use Rattle.sql_spelling.specs.declared.kind.Kind.TheVariants as k
use Rattle.sql_words.specs.declared.word.Symbol.{Symbol}
use Rattle.sql_words.specs.declared.word.Symbol.TheVariants as s
use Rattle.sql_words.specs.declared.word.Word.{Word}
use Rattle.sql_words.specs.declared.word.Word.TheVariants as w

abbrev pub symbol_kind : Symbol → Kind
symbol_kind s.LeftParen = k.LeftParen
symbol_kind s.RightParen = k.RightParen
symbol_kind s.Comma = k.Comma
symbol_kind s.Period = k.Period
symbol_kind s.Semicolon = k.Semicolon
symbol_kind s.Equals = k.Equals
symbol_kind s.NotEquals = k.NotEquals
symbol_kind s.LessThan = k.LessThan
symbol_kind s.LessThanOrEquals = k.LessThanOrEquals
symbol_kind s.GreaterThan = k.GreaterThan
symbol_kind s.GreaterThanOrEquals = k.GreaterThanOrEquals
symbol_kind s.PlusSign = k.PlusSign
symbol_kind s.MinusSign = k.MinusSign
symbol_kind s.Asterisk = k.Asterisk
symbol_kind s.Solidus = k.Solidus
symbol_kind s.Concatenation = k.Concatenation

abbrev pub kind_of : Word → Kind
kind_of (w.Plain text) = keyword text
kind_of (w.Quoted text) = k.Name
kind_of (w.Literal text) = k.Literal
kind_of (w.Number text) = k.Number
kind_of (w.Symbol symbol) = symbol_kind symbol

abbrev pub text_of : Word → List ℕ
text_of (w.Plain text) = text
text_of (w.Quoted text) = text
text_of (w.Literal text) = text
text_of (w.Number text) = text
text_of (w.Symbol symbol) = []
