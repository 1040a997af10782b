-- What stands open behind the bytes that came since the last end, byte by byte.
use Rattle.std.specs.Prelude.{Bool, true, false, not, ◌==◌, ◌&&◌, ◌||◌, if◌then◌else◌, ℕ, ◌+◌, ◌-◌, List, fold}
use Rattle.std.specs.Char.{to_ascii_uppercase}
use Rattle.sql_words.specs.Division.{is_run_byte, is_space}
use Rattle.sql_words.specs.declared.scan.Spelling.{Spelling}
use Rattle.sql_words.specs.declared.scan.Spelling.TheVariants as s
use Rattle.sql_words.specs.declared.scan.OpenPart.{OpenPart}
use Rattle.sql_words.specs.declared.scan.OpenPart.TheVariants as o
use Rattle.sql_words.specs.declared.scan.Scan.{Scan}

-- a letter more of BEGIN, CASE or END
abbrev pub next_letter : ℕ → ℕ → Spelling → Spelling
next_letter letter wanted next = if letter == wanted then next else s.Other

abbrev pub first_letter : ℕ → Spelling
first_letter letter = if letter == 66 then s.B else (if letter == 67 then s.C else next_letter letter 69 s.E)

abbrev pub letter_after : Spelling → ℕ → Spelling
letter_after s.Nothing letter = first_letter letter
letter_after s.B letter = next_letter letter 69 s.Be
letter_after s.Be letter = next_letter letter 71 s.Beg
letter_after s.Beg letter = next_letter letter 73 s.Begi
letter_after s.Begi letter = next_letter letter 78 s.Begin
letter_after s.Begin letter = s.Other
letter_after s.C letter = next_letter letter 65 s.Ca
letter_after s.Ca letter = next_letter letter 83 s.Cas
letter_after s.Cas letter = next_letter letter 69 s.Case
letter_after s.Case letter = s.Other
letter_after s.E letter = next_letter letter 78 s.En
letter_after s.En letter = next_letter letter 68 s.End
letter_after s.End letter = s.Other
letter_after s.Other letter = s.Other

-- what a run spells with a byte more, in any case of letters
unfoldable pub spelling_after : Spelling → ℕ → Spelling
spelling_after spelling c = letter_after spelling (to_ascii_uppercase c)

-- the level behind a run that spells this
abbrev pub spelled_level : ℕ → Spelling → ℕ
spelled_level level s.Begin = level + 1
spelled_level level s.Case = level + 1
spelled_level level s.End = level - 1
spelled_level level _ = level

-- whether a byte begins another part than the open one
unfoldable pub begins : OpenPart → ℕ → Bool
begins o.Between c = true
begins (o.Run spelling) c = not (is_run_byte c)
begins o.MinusSign c = not (c == 45)
begins o.Solidus c = not (c == 42)
begins _ c = false

-- the part that a byte begins
unfoldable pub begun : ℕ → OpenPart
begun c = if c == 39 then o.Literal
    else (if c == 34 then o.QuotedName
    else (if c == 45 then o.MinusSign
    else (if c == 47 then o.Solidus
    else (if is_run_byte c then o.Run (spelling_after s.Nothing c) else o.Between))))

-- the open part with a byte more
unfoldable pub continued : OpenPart → ℕ → OpenPart
continued o.Between c = o.Between
continued (o.Run spelling) c = o.Run (spelling_after spelling c)
continued o.MinusSign c = o.SimpleComment
continued o.Solidus c = o.BracketedComment
continued o.Literal c = if c == 39 then o.Between else o.Literal
continued o.QuotedName c = if c == 34 then o.Between else o.QuotedName
continued o.SimpleComment c = if c == 10 then o.Between else o.SimpleComment
continued o.BracketedComment c = if c == 42 then o.Asterisk else o.BracketedComment
continued o.Asterisk c = if c == 47 then o.Between else (if c == 42 then o.Asterisk else o.BracketedComment)

-- the level, with the run that is open
abbrev pub level_with : ℕ → OpenPart → ℕ
level_with level (o.Run spelling) = spelled_level level spelling
level_with level _ = level

-- whether the open part leaves what came blank
abbrev pub is_blank_open : OpenPart → Bool
is_blank_open o.Between = true
is_blank_open o.SimpleComment = true
is_blank_open _ = false

-- whether all that came is blank
abbrev pub is_blank_scan : Scan → Bool
is_blank_scan scan = scan.blank && is_blank_open scan.open_part

-- whether a part that begins with this byte may be blank
unfoldable pub may_be_blank : ℕ → Bool
may_be_blank c = is_space c || (c == 45) || (c == 47)

abbrev pub start : Scan
start = record { open_part = o.Between; level = 0; blank = true }

-- a byte more
abbrev pub scan_after : Scan → ℕ → Scan
scan_after scan c =
    if begins scan.open_part c
    then record { open_part = begun c; level = level_with scan.level scan.open_part; blank = is_blank_scan scan && may_be_blank c }
    else record { open_part = continued scan.open_part c; level = scan.level; blank = scan.blank }

-- whether a byte is a semicolon that ends the statement
abbrev pub ends_scan : Scan → ℕ → Bool
ends_scan scan c = (c == 59) && begins scan.open_part c && (level_with scan.level scan.open_part == 0)

-- what stands open behind these bytes, which came since the last end
abbrev pub scan_of : List ℕ → Scan
scan_of held = fold scan_after start held
