-- What is written for a reply.
use Rattle.std.specs.Prelude.{true, false, ℕ, List, [], ◌∷◌, ◌++◌, codes, decimal, flat_map, length}
use Rattle.printed_rows.specs.RowTexts.{rows_text}
use Rattle.sql_spelling.specs.Texts.{name_text}
use Rattle.cat_items.specs.ItemTexts.{path_text, need_text, item_text}
use Rattle.cat_items.specs.declared.edit.Refusal.{Refusal}
use Rattle.cat_items.specs.declared.edit.Refusal.TheVariants as r
use Rattle.cat_engine.specs.declared.reply.Reply.{Reply}
use Rattle.cat_engine.specs.declared.reply.Reply.TheVariants.{Ok, Warn, Rows, Refused, JournalFull, OutOfMemory}
use Rattle.cat_engine.specs.Warning.{Warning}
use Rattle.cat_engine.specs.Warning.TheVariants.{NotRevoked, NotGranted}

-- the number and the SQLSTATE, and a space where something is carried
abbrev pub code_text : Refusal → List ℕ
code_text (r.BadToken offset) = codes "00 42000 "
code_text r.Syntax = codes "01 42000"
code_text r.NotInProfile = codes "02 Y0002"
code_text r.NotConnected = codes "03 08003"
code_text r.ConnectionInUse = codes "04 08002"
code_text r.UnknownUser = codes "05 28000"
code_text (r.UnknownName path) = codes "06 42000 "
code_text (r.NotOwner schema) = codes "07 42000 "
code_text (r.NoPrivilege need) = codes "08 42000 "
code_text (r.StillNeeded item true) = codes "09 2B000 "
code_text (r.StillNeeded item false) = codes "09 42000 "
code_text (r.NameExists path) = codes "10 42000 "
code_text r.RoleCycle = codes "11 42000"
code_text (r.InvalidRole true) = codes "12 0L000"
code_text (r.InvalidRole false) = codes "12 0P000"
code_text r.TypeMismatch = codes "13 42000"
code_text r.NoSuchKey = codes "14 42000"
code_text r.OnlyColumn = codes "15 42000"
code_text (r.Repeated path) = codes "16 42000 "
code_text r.NameReserved = codes "17 42000"
code_text (r.Ambiguous name) = codes "18 42000 "
code_text (r.CatalogFull count) = codes "19 Y0019 "

-- what is carried
abbrev pub carried_text : Refusal → List ℕ
carried_text (r.BadToken offset) = decimal offset
carried_text (r.UnknownName path) = path_text path
carried_text (r.NotOwner schema) = name_text schema
carried_text (r.NoPrivilege need) = need_text need
carried_text (r.StillNeeded item by_rights) = item_text item
carried_text (r.NameExists path) = path_text path
carried_text (r.Repeated path) = path_text path
carried_text (r.Ambiguous name) = name_text name
carried_text (r.CatalogFull count) = decimal count
carried_text refusal = []

abbrev pub warning_text : Warning → List ℕ
warning_text NotRevoked = codes "WARN 01006" ++ 10 ∷ []
warning_text NotGranted = codes "WARN 01007" ++ 10 ∷ []

-- the line of a reply, or its lines
abbrev pub reply_text : Reply → List ℕ
reply_text Ok = codes "OK" ++ 10 ∷ []
reply_text (Warn warning) = warning_text warning
reply_text (Rows found) = (codes "ROWS " ++ decimal (length found.rows) ++ 10 ∷ []) ++ rows_text found.rows
reply_text (Refused refusal) = codes "ERR " ++ code_text refusal ++ carried_text refusal ++ 10 ∷ []
reply_text (JournalFull held) = codes "ERR 20 Y0020 " ++ decimal held ++ 10 ∷ []
reply_text OutOfMemory = codes "ERR 21 Y0021" ++ 10 ∷ []

-- the lines of replies, one after the other
abbrev pub output : List Reply → List ℕ
output replies = flat_map reply_text replies
