-- How words hold together in queries and expressions.
use Rattle.std.proofs.Common.{◌≡◌, ℕ, Bool, true, false, List, refl, arith}
use Rattle.std.specs.Prelude.{nat_lt, ◌||◌, if◌then◌else◌}
use denote.Enum.Bare.{sameb}
use Rattle.sql_spelling.specs.Kinds.{is_name, same_kind, number_of}
use Rattle.sql_spelling.specs.contracts.kind.Kind.{the_type}
use Rattle.sql_spelling.specs.declared.kind.Kind.{Kind}
use Rattle.sql_spelling.specs.declared.kind.Kind.TheVariants as k
use Rattle.sql_words.specs.declared.word.Word.{Word}
use Rattle.sql_phrases.specs.Reading.{peek}
use Rattle.sql_phrases.specs.NameParsers.{sees_name}
use Rattle.sql_phrases.proofs.Follow.{Below}

-- a number for the kinds of names, and 0 for the others
abbrev for_names : ℕ → Kind → ℕ
for_names n kind = if sameb the_type kind k.Name || nat_lt (number_of k.With) (number_of kind) then n else 0

-- how tightly a word goes on with what stands before it
abbrev pub binds : Kind → ℕ
binds k.Union = 1
binds k.Except = 1
binds k.When = 1
binds k.Group = 2
binds k.Where = 3
binds k.Comma = 4
binds k.Join = 5
binds k.Inner = 5
binds k.Cross = 5
binds k.On = 5
binds k.As = 6
binds k.Or = 7
binds k.And = 8
binds k.Equals = 9
binds k.NotEquals = 9
binds k.LessThan = 9
binds k.LessThanOrEquals = 9
binds k.GreaterThan = 9
binds k.GreaterThanOrEquals = 9
binds k.Is = 9
binds k.Not = 9
binds k.Between = 9
binds k.In = 9
binds k.Like = 9
binds k.PlusSign = 10
binds k.MinusSign = 10
binds k.Concatenation = 10
binds k.Asterisk = 11
binds k.Solidus = 11
binds k.LeftParen = 12
binds k.Period = 13
binds kind = for_names 6 kind

-- what a word begins: 3 an operand, 2 a factor alone, 1 a negation alone, 0 no expression
abbrev pub opens : Kind → ℕ
opens k.Not = 1
opens k.MinusSign = 2
opens k.Literal = 3
opens k.Number = 3
opens k.LeftParen = 3
opens k.True = 3
opens k.False = 3
opens k.CurrentUser = 3
opens k.CurrentDate = 3
opens k.CurrentTime = 3
opens k.CurrentTimestamp = 3
opens k.Value = 3
opens k.Count = 3
opens k.Sum = 3
opens k.Min = 3
opens k.Max = 3
opens k.Avg = 3
opens k.Case = 3
opens k.Cast = 3
opens k.Exists = 3
opens kind = for_names 3 kind

for_name : (n : ℕ) (kind : Kind) → is_name kind ≡ true → for_names n kind ≡ n
unfolding is_name same_kind
for_name n kind e = rw e refl

pub name_binds : (kind : Kind) → is_name kind ≡ true → binds kind ≡ 6
unfolding is_name same_kind
name_binds k.Union e = cc
name_binds k.Except e = cc
name_binds k.When e = cc
name_binds k.Group e = cc
name_binds k.Where e = cc
name_binds k.Comma e = cc
name_binds k.Join e = cc
name_binds k.Inner e = cc
name_binds k.Cross e = cc
name_binds k.On e = cc
name_binds k.As e = cc
name_binds k.Or e = cc
name_binds k.And e = cc
name_binds k.Equals e = cc
name_binds k.NotEquals e = cc
name_binds k.LessThan e = cc
name_binds k.LessThanOrEquals e = cc
name_binds k.GreaterThan e = cc
name_binds k.GreaterThanOrEquals e = cc
name_binds k.Is e = cc
name_binds k.Not e = cc
name_binds k.Between e = cc
name_binds k.In e = cc
name_binds k.Like e = cc
name_binds k.PlusSign e = cc
name_binds k.MinusSign e = cc
name_binds k.Concatenation e = cc
name_binds k.Asterisk e = cc
name_binds k.Solidus e = cc
name_binds k.LeftParen e = cc
name_binds k.Period e = cc
name_binds kind e = for_name 6 kind e

pub name_opens : (kind : Kind) → is_name kind ≡ true → opens kind ≡ 3
unfolding is_name same_kind
name_opens k.Not e = cc
name_opens k.MinusSign e = cc
name_opens k.Literal e = refl
name_opens k.Number e = refl
name_opens k.LeftParen e = refl
name_opens k.True e = refl
name_opens k.False e = refl
name_opens k.CurrentUser e = refl
name_opens k.CurrentDate e = refl
name_opens k.CurrentTime e = refl
name_opens k.CurrentTimestamp e = refl
name_opens k.Value e = refl
name_opens k.Count e = refl
name_opens k.Sum e = refl
name_opens k.Min e = refl
name_opens k.Max e = refl
name_opens k.Avg e = refl
name_opens k.Case e = refl
name_opens k.Cast e = refl
name_opens k.Exists e = refl
name_opens kind e = for_name 3 kind e

not_named_by : (ws : List Word) (named : Bool) → sees_name ws ≡ named → Below binds 6 ws → sees_name ws ≡ false
unfolding sees_name
not_named_by ws true e s = absurd (omega (arith, name_binds (peek ws) e, s.below))
not_named_by ws false e s = e

-- what stops below names doesn't begin with one
pub not_named : (ws : List Word) → Below binds 6 ws → sees_name ws ≡ false
not_named ws s = not_named_by ws (sees_name ws) refl s
