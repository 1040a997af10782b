-- The division of a stream of bytes into lexical parts, and of its parts into statements.
use Rattle.std.specs.Prelude.{◌≡◌, Bool, true, false, ◌==◌, ◌&&◌, ◌||◌, if◌then◌else◌, ℕ, suc, ◌+◌, ◌-◌, List, [], ◌∷◌, ◌++◌, take, drop, map, length, codes, Option, Some, None}
use Rattle.std.specs.Char.{is_ascii_alphanumeric, to_ascii_uppercase}
use Rattle.std.specs.List.{prefix_len, list_all}
use Rattle.std.specs.Option.{option_map}
use Rattle.std.specs.Str.{bytes_eq}

-- what a part is; one that isn't closed reaches to the end of the stream
pub data Form : Type 0 where
  Literal : Form  -- '..'
  QuotedName : Form  -- ".."
  SimpleComment : Form  -- -- up to and with the line feed, or to the end
  BracketedComment : Form  -- /*..*/
  Unclosed : Form  -- a literal, a quoted name or a bracketed comment that isn't closed
  Run : Form  -- letters, digits and underscores, as many as stand together
  Other : Form  -- any other byte

pub record Part : Type 0 where
  pub form : Form
  pub bytes : List ℕ

-- what the part at the front is, and how many bytes it has
pub record Extent : Type 0 where
  pub form : Form
  pub size : ℕ

-- an ASCII letter, a digit or an underscore
unfoldable pub is_run_byte : ℕ → Bool
is_run_byte c = is_ascii_alphanumeric c || (c == 95)

-- space, tab, line feed, vertical tab, form feed, carriage return
unfoldable pub is_space : ℕ → Bool
is_space c = (c == 32) || (c == 9) || (c == 10) || (c == 11) || (c == 12) || (c == 13)

abbrev pub begins_with : ℕ → List ℕ → Bool
begins_with mark [] = false
begins_with mark (c ∷ b) = c == mark

-- how many bytes there are up to and with the first mark
abbrev pub size_to : ℕ → List ℕ → Option ℕ
size_to mark [] = None
size_to mark (c ∷ b) = if c == mark then Some 1 else option_map (λ n. suc n) (size_to mark b)

-- how many bytes there are up to and with the first asterisk and solidus
abbrev pub size_to_bracket : List ℕ → Option ℕ
size_to_bracket [] = None
size_to_bracket (c ∷ b) = if (c == 42) && begins_with 47 b then Some 2 else option_map (λ n. suc n) (size_to_bracket b)

-- a part that begins with so many bytes, and ends in the bytes behind them or reaches to their end
abbrev pub delimited : Form → Form → ℕ → List ℕ → Option ℕ → Extent
delimited form cut opening b (Some size) = record { form = form; size = opening + size }
delimited form cut opening b None = record { form = cut; size = opening + length b }

-- a simple comment, by what stands behind its two minus signs
abbrev pub simple_comment : List ℕ → Extent
simple_comment b = delimited SimpleComment SimpleComment 2 b (size_to 10 b)

-- a bracketed comment, by what stands behind its solidus and asterisk
abbrev pub bracketed_comment : List ℕ → Extent
bracketed_comment b = delimited BracketedComment Unclosed 2 b (size_to_bracket b)

-- the part at the front
unfoldable pub front : List ℕ → Extent
front [] = record { form = Other; size = 0 }
front (c ∷ b) =
    if c == 39 then delimited Literal Unclosed 1 b (size_to 39 b)
    else (if c == 34 then delimited QuotedName Unclosed 1 b (size_to 34 b)
    else (if (c == 45) && begins_with 45 b then simple_comment (drop 1 b)
    else (if (c == 47) && begins_with 42 b then bracketed_comment (drop 1 b)
    else (if is_run_byte c then record { form = Run; size = prefix_len is_run_byte (c ∷ b) }
    else record { form = Other; size = 1 }))))

abbrev pub front_part : List ℕ → Part
front_part b = record { form = (front b).form; bytes = take (front b).size b }

-- these are the parts of b, one after the other
abbrev pub Divides : List Part → List ℕ → Type 0
Divides [] b = b ≡ []
Divides (p ∷ ps) b = (b ≡ [] → ⊥) × (p ≡ front_part b) × Divides ps (drop (front b).size b)

-- a word of SQL, in any case of letters
abbrev pub is_spelled : List ℕ → List ℕ → Bool
is_spelled word run = bytes_eq (map to_ascii_uppercase run) word

-- how many BEGIN and CASE are open behind a run
unfoldable pub level_after : ℕ → List ℕ → ℕ
level_after level run =
    if is_spelled (codes "BEGIN") run || is_spelled (codes "CASE") run then level + 1
    else (if is_spelled (codes "END") run then level - 1 else level)

abbrev pub level_past : ℕ → Form → List ℕ → ℕ
level_past level Run bytes = level_after level bytes
level_past level _ bytes = level

-- a semicolon where no BEGIN or CASE is open ends the statement
abbrev pub ends_statement : ℕ → Form → List ℕ → Bool
ends_statement level Other bytes = bytes_eq bytes (codes ";") && (level == 0)
ends_statement level _ bytes = false

-- the texts of the statements that end, at a level and behind what is held of the open statement
abbrev pub texts_of : ℕ → List ℕ → List Part → List (List ℕ)
texts_of level held [] = []
texts_of level held (p ∷ ps) =
    if ends_statement level p.form p.bytes then held ∷ texts_of 0 [] ps else texts_of (level_past level p.form p.bytes) (held ++ p.bytes) ps

-- what stands after the last end
abbrev pub rest_of : ℕ → List ℕ → List Part → List ℕ
rest_of level held [] = held
rest_of level held (p ∷ ps) =
    if ends_statement level p.form p.bytes then rest_of 0 [] ps else rest_of (level_past level p.form p.bytes) (held ++ p.bytes) ps

-- white space, a simple comment, or a bracketed comment that is closed
abbrev pub is_blank_part : Form → List ℕ → Bool
is_blank_part Other bytes = list_all is_space bytes
is_blank_part SimpleComment bytes = true
is_blank_part BracketedComment bytes = true
is_blank_part _ bytes = false

-- no part is more than that
abbrev pub are_blank : List Part → Bool
are_blank ps = list_all (λ p. is_blank_part p.form p.bytes) ps
