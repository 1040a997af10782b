-- How many brackets are open in words. CASE and BEGIN open one as well, which END closes.
use Rattle.std.specs.Prelude.{◌-◌, max, ℕ, suc, List, [], ◌∷◌}
use Rattle.sql_words.specs.Kinds.{kind_of}
use Rattle.sql_spelling.specs.declared.kind.Kind.{Kind}
use Rattle.sql_spelling.specs.declared.kind.Kind.TheVariants as k
use Rattle.sql_words.specs.declared.word.Word.{Word}

-- how many are open behind a word of this kind, where this many are open before it
abbrev pub open_after : Kind → ℕ → ℕ
open_after k.LeftParen n = suc n
open_after k.Case n = suc n
open_after k.Begin n = suc n
open_after k.RightParen n = n - 1
open_after k.End n = n - 1
open_after _ n = n

-- how many are open behind words
abbrev pub open_behind : ℕ → List Word → ℕ
open_behind n [] = n
open_behind n (w ∷ ws) = open_behind (open_after (kind_of w) n) ws

-- the greatest number that are open behind a front part of words
abbrev pub most_open : ℕ → List Word → ℕ
most_open n [] = n
most_open n (w ∷ ws) = max n (most_open (open_after (kind_of w) n) ws)
