-- What statements read and change, and the state of a book.
use Rattle.std.specs.Prelude.{ℕ, ◌+◌, ◌<◌, List, [], ◌∷◌, length}
use Rattle.sql_names.specs.NameBytes.{NameBytes}
use Rattle.cat_items.specs.declared.item.Item.{Item}
use Rattle.cat_items.specs.declared.limits.Limits.{Limits}
use Rattle.cat_engine.specs.declared.journal.Entry.{Entry}
use Rattle.cat_engine.specs.declared.session.Session.{Session}

-- the catalogue, and the sessions that made connections, in the order of their numbers
pub record Content : Type 0 where
  pub catalogue : List Item
  pub sessions : List (ℕ × Session)

-- with the users that the book opened with, the journal, the oldest entry first, and the limits
pub record State : Type 0 where
  pub users : List NameBytes
  pub content : Content
  pub journal : List Entry
  pub limits : Limits

-- the bytes that an entry of this text holds
abbrev pub bytes_of : List ℕ → ℕ
bytes_of text = 64 + length text

-- the bytes that a journal holds
abbrev pub bytes_held : List Entry → ℕ
bytes_held [] = 0
bytes_held (entry ∷ entries) = bytes_of entry.text + bytes_held entries

-- the journal has no room for this text
abbrev pub IsJournalFull : State → List ℕ → Type 0
IsJournalFull state text = state.limits.journal < bytes_held state.journal + bytes_of text
