-- The keywords of the grammar, each with its kind.
use Rattle.std.specs.Prelude.{Bool, ℕ, List, [], ◌∷◌, codes}
use Rattle.std.specs.List.{list_any}
use Rattle.std.specs.Str.{bytes_eq}
use Rattle.sql_spelling.specs.declared.kind.Kind.{Kind}
use Rattle.sql_spelling.specs.declared.kind.Kind.TheVariants as k

-- a word in upper case, and its kind
abbrev pub Keyword : Type 0
Keyword = List ℕ × Kind

-- the reserved words
unfoldable pub reserved_words : List Keyword
reserved_words =
    (codes "ALL", k.All) ∷
    (codes "ALTER", k.Alter) ∷
    (codes "AND", k.And) ∷
    (codes "AS", k.As) ∷
    (codes "ATOMIC", k.Atomic) ∷
    (codes "AUTHORIZATION", k.Authorization) ∷
    (codes "AVG", k.Avg) ∷
    (codes "BEGIN", k.Begin) ∷
    (codes "BETWEEN", k.Between) ∷
    (codes "BIGINT", k.Bigint) ∷
    (codes "BOOLEAN", k.Boolean) ∷
    (codes "BY", k.By) ∷
    (codes "CALL", k.Call) ∷
    (codes "CASE", k.Case) ∷
    (codes "CAST", k.Cast) ∷
    (codes "CHAR", k.Char) ∷
    (codes "CHARACTER", k.Character) ∷
    (codes "CHECK", k.Check) ∷
    (codes "COLUMN", k.Column) ∷
    (codes "CONNECT", k.Connect) ∷
    (codes "CONSTRAINT", k.Constraint) ∷
    (codes "COUNT", k.Count) ∷
    (codes "CREATE", k.Create) ∷
    (codes "CROSS", k.Cross) ∷
    (codes "CURRENT_DATE", k.CurrentDate) ∷
    (codes "CURRENT_ROLE", k.CurrentRole) ∷
    (codes "CURRENT_TIME", k.CurrentTime) ∷
    (codes "CURRENT_TIMESTAMP", k.CurrentTimestamp) ∷
    (codes "CURRENT_USER", k.CurrentUser) ∷
    (codes "DATE", k.Date) ∷
    (codes "DEC", k.Dec) ∷
    (codes "DECIMAL", k.Decimal) ∷
    (codes "DEFAULT", k.Default) ∷
    (codes "DELETE", k.Delete) ∷
    (codes "DISCONNECT", k.Disconnect) ∷
    (codes "DISTINCT", k.Distinct) ∷
    (codes "DROP", k.Drop) ∷
    (codes "ELSE", k.Else) ∷
    (codes "END", k.End) ∷
    (codes "EXCEPT", k.Except) ∷
    (codes "EXISTS", k.Exists) ∷
    (codes "FALSE", k.False) ∷
    (codes "FOREIGN", k.Foreign) ∷
    (codes "FROM", k.From) ∷
    (codes "FUNCTION", k.Function) ∷
    (codes "GRANT", k.Grant) ∷
    (codes "GROUP", k.Group) ∷
    (codes "IN", k.In) ∷
    (codes "INNER", k.Inner) ∷
    (codes "INSERT", k.Insert) ∷
    (codes "INT", k.Int) ∷
    (codes "INTEGER", k.Integer) ∷
    (codes "INTO", k.Into) ∷
    (codes "IS", k.Is) ∷
    (codes "JOIN", k.Join) ∷
    (codes "LIKE", k.Like) ∷
    (codes "MAX", k.Max) ∷
    (codes "MIN", k.Min) ∷
    (codes "NONE", k.None) ∷
    (codes "NOT", k.Not) ∷
    (codes "NULL", k.Null) ∷
    (codes "NUMERIC", k.Numeric) ∷
    (codes "ON", k.On) ∷
    (codes "OR", k.Or) ∷
    (codes "PRIMARY", k.Primary) ∷
    (codes "PROCEDURE", k.Procedure) ∷
    (codes "PUBLIC", k.Public) ∷
    (codes "REFERENCES", k.References) ∷
    (codes "RETURN", k.Return) ∷
    (codes "RETURNS", k.Returns) ∷
    (codes "REVOKE", k.Revoke) ∷
    (codes "SELECT", k.Select) ∷
    (codes "SET", k.Set) ∷
    (codes "SMALLINT", k.Smallint) ∷
    (codes "SUM", k.Sum) ∷
    (codes "TABLE", k.Table) ∷
    (codes "THEN", k.Then) ∷
    (codes "TIME", k.Time) ∷
    (codes "TIMESTAMP", k.Timestamp) ∷
    (codes "TO", k.To) ∷
    (codes "TRUE", k.True) ∷
    (codes "UNION", k.Union) ∷
    (codes "UNIQUE", k.Unique) ∷
    (codes "UPDATE", k.Update) ∷
    (codes "USER", k.User) ∷
    (codes "VALUE", k.Value) ∷
    (codes "VALUES", k.Values) ∷
    (codes "VARCHAR", k.Varchar) ∷
    (codes "VARYING", k.Varying) ∷
    (codes "WHEN", k.When) ∷
    (codes "WHERE", k.Where) ∷
    (codes "WITH", k.With) ∷
    []

-- a text in upper case is one of the reserved words
unfoldable pub is_reserved_word : List ℕ → Bool
is_reserved_word text = list_any (λ entry. bytes_eq entry.0 text) reserved_words

-- the words of the grammar that aren't reserved, and those with which statements begin that it lacks
unfoldable pub other_words : List Keyword
other_words =
    (codes "ACTION", k.Action) ∷
    (codes "ADD", k.Add) ∷
    (codes "ADMIN", k.Admin) ∷
    (codes "ASSERTION", k.Assertion) ∷
    (codes "CASCADE", k.Cascade) ∷
    (codes "CONNECTION", k.Connection) ∷
    (codes "DEFINER", k.Definer) ∷
    (codes "DOMAIN", k.Domain) ∷
    (codes "EXECUTE", k.Execute) ∷
    (codes "FOR", k.For) ∷
    (codes "FULL", k.Full) ∷
    (codes "GRANTED", k.Granted) ∷
    (codes "INFORMATION_SCHEMA", k.InformationSchema) ∷
    (codes "INVOKER", k.Invoker) ∷
    (codes "KEY", k.Key) ∷
    (codes "LANGUAGE", k.Language) ∷
    (codes "MATCH", k.Match) ∷
    (codes "NO", k.No) ∷
    (codes "OPTION", k.Option) ∷
    (codes "PARTIAL", k.Partial) ∷
    (codes "PRIVILEGES", k.Privileges) ∷
    (codes "RESTRICT", k.Restrict) ∷
    (codes "ROLE", k.Role) ∷
    (codes "ROUTINE", k.Routine) ∷
    (codes "SCHEMA", k.Schema) ∷
    (codes "SECURITY", k.Security) ∷
    (codes "SIMPLE", k.Simple) ∷
    (codes "SQL", k.Sql) ∷
    (codes "USAGE", k.Usage) ∷
    (codes "VIEW", k.View) ∷
    (codes "CATALOG", k.Catalog) ∷
    (codes "COLLATION", k.Collation) ∷
    (codes "COMMIT", k.Commit) ∷
    (codes "CONSTRAINTS", k.Constraints) ∷
    (codes "DECLARE", k.Declare) ∷
    (codes "GLOBAL", k.Global) ∷
    (codes "LOCAL", k.Local) ∷
    (codes "MERGE", k.Merge) ∷
    (codes "METHOD", k.Method) ∷
    (codes "NAMES", k.Names) ∷
    (codes "ORDERING", k.Ordering) ∷
    (codes "PATH", k.Path) ∷
    (codes "RECURSIVE", k.Recursive) ∷
    (codes "RELEASE", k.Release) ∷
    (codes "ROLLBACK", k.Rollback) ∷
    (codes "SAVEPOINT", k.Savepoint) ∷
    (codes "SEQUENCE", k.Sequence) ∷
    (codes "SESSION", k.Session) ∷
    (codes "START", k.Start) ∷
    (codes "TRANSACTION", k.Transaction) ∷
    (codes "TRANSFORM", k.Transform) ∷
    (codes "TRANSLATION", k.Translation) ∷
    (codes "TRIGGER", k.Trigger) ∷
    (codes "TYPE", k.Type_) ∷
    []
