-- The table in which the code looks keywords up.
use Rattle.std.specs.Prelude.{if◌then◌else◌, ℕ, ◌-◌, List, [], map, slice_index_or}
use Rattle.std.specs.Borrow.{Bor}
use Rattle.std.specs.Char.{is_ascii_uppercase}
use Rattle.sql_spelling.specs.Keywords.{Keyword}
use Rattle.sql_spelling.specs.declared.keywords.TheConstants.{KEYWORDS}
use Rattle.sql_spelling.specs.declared.kind.Kind.{Kind}

-- what references to tables of keywords point to
abbrev pub sections_of : List (Bor (List (Bor (List ℕ) × Kind))) → List (List Keyword)
sections_of tables = map (λ table. map (λ entry. (entry.0.now, entry.1)) table.now) tables

-- the keywords that begin with A, those that begin with B, and so on to Z
unfoldable pub sections : List (List Keyword)
sections = map (λ table. map (λ entry. (entry.0.now, entry.1)) table.now) KEYWORDS

-- the keywords that begin with a letter in upper case
unfoldable pub keywords_of : ℕ → List Keyword
keywords_of letter = if is_ascii_uppercase letter then slice_index_or sections (letter - 65) [] else []
