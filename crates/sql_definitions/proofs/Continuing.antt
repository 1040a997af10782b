-- What may follow the parts of a table's elements.
use Rattle.std.proofs.Common.{ℕ}
use Rattle.sql_spelling.specs.declared.kind.Kind.{Kind}
use Rattle.sql_spelling.specs.declared.kind.Kind.TheVariants as k

-- How tightly a word goes on with what stands before it, in the elements of a table, where ON goes on with a REFERENCES.
abbrev pub continues : Kind → ℕ
continues k.Comma = 9
continues k.Default = 10
continues k.Not = 10
continues k.Constraint = 10
continues k.Primary = 10
continues k.Unique = 10
continues k.References = 10
continues k.Check = 10
continues k.On = 12
continues k.Match = 13
continues k.LeftParen = 14
continues k.Varying = 14
continues k.Period = 15
continues _ = 0
