-- A book as a machine that sessions share, in turns.
use Rattle.std.specs.Prelude.{◌≡◌, ◌⊎◌, ◌≤◌, ℕ, Bool, true, false, List, map, length}
use Rattle.catalog_lock.specs.declared.history.Event.{Event}
use Rattle.catalog_lock.specs.History.{event}
use Rattle.cat_engine.specs.Contents.{State}
use Rattle.cat_engine.specs.Histories.{IsOpening, IsAfter}
use Rattle.cat_engine.specs.Steps.{Step}
use Rattle.cat_engine.specs.declared.journal.Entry.{Entry}
use Rattle.cat_engine.specs.declared.machine.Origin.{Origin}
use Rattle.cat_engine.specs.declared.reply.Reply.{Reply}
use Rattle.cat_engine.specs.declared.reply.Reply.TheVariants.{JournalFull, OutOfMemory}

-- a journal as the events of a history, and back
abbrev pub event_of : Entry → Event
event_of entry = event entry.session entry.text

abbrev pub entry_of : Event → Entry
entry_of e = record { session = e.session; text = e.text }

abbrev pub history_of : State → List Event
history_of book = map event_of book.journal

abbrev pub origin_of : State → Origin
origin_of book = record { users = book.users; limits = book.limits }

-- a text of a statement has at most 65,535 bytes
abbrev pub IsTaken : Origin → List ℕ → Type 0
IsTaken origin text = length text ≤ 65535

-- the reply of a step, after a history from the opening
pub record IsReplyAfter (origin : Origin) (history : List Event) (number : ℕ) (text : List ℕ) (reply : Reply) : Type 0 where
  pub start : State
  pub before : State
  pub after : State
  pub opening : IsOpening origin.users origin.limits start
  pub earlier : IsAfter start (map entry_of history) before
  pub step : Step before number text reply after

-- a reply to a statement that has its entry
abbrev pub is_entered : Reply → Bool
is_entered OutOfMemory = false
is_entered (JournalFull held) = false
is_entered reply = true

-- a reply that leaves all as it was: memory ran out, or the journal is full
abbrev pub IsUnentered : Origin → List Event → ℕ → List ℕ → Reply → Type 0
IsUnentered origin history number text reply = (reply ≡ OutOfMemory) ⊎ ((held : ℕ) × (reply ≡ JournalFull held) × IsReplyAfter origin history number text reply)
