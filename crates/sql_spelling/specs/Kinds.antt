-- Kinds of words: of each keyword its own, and Name.
use Rattle.std.specs.Prelude.{Bool, if◌then◌else◌, ◌&&◌, ◌||◌, nat_le, nat_lt, ℕ, List, [], ◌∷◌, ◌++◌}
use Rattle.std.specs.Str.{bytes_eq}
use denote.Enum.Bare.{sameb}
use denote.Enum.Declared.{tag_of}
use Rattle.sql_spelling.specs.contracts.kind.Kind.{the_type}
use Rattle.sql_spelling.specs.Keywords.{Keyword, reserved_words, other_words}
use Rattle.sql_spelling.specs.declared.kind.Kind.{Kind}
use Rattle.sql_spelling.specs.declared.kind.Kind.TheVariants as k

-- `==` on kinds
unfoldable pub same_kind : Kind → Kind → Bool
same_kind = sameb the_type

-- the kind that a list of keywords has for a text, and Name for any other
abbrev pub lookup : List Keyword → List ℕ → Kind
lookup [] text = k.Name
lookup (entry ∷ table) text = if bytes_eq entry.0 text then entry.1 else lookup table text

-- the kind of a plain word
unfoldable pub keyword : List ℕ → Kind
keyword text = lookup (reserved_words ++ other_words) text

-- the place of a kind in the order of all kinds
abbrev pub number_of : Kind → ℕ
number_of kind = tag_of the_type kind

-- the kinds of the reserved words are those from All to With
unfoldable pub is_reserved : Kind → Bool
is_reserved kind = nat_le (number_of k.All) (number_of kind) && nat_le (number_of kind) (number_of k.With)

-- those of the other words that stand for names are Name and those after With
unfoldable pub is_name : Kind → Bool
is_name kind = same_kind kind k.Name || nat_lt (number_of k.With) (number_of kind)
