-- Histories: what a book was, and what it answered.
use Rattle.std.specs.Prelude.{◌≡◌, ◌≢◌, ◌↔◌, ◌≤◌, ℕ, ◌+◌, List, [], ◌∷◌, Some, take, length, slice_get}
use Rattle.std.specs.List.{All, AllPairs, Contains}
use Rattle.sql_names.specs.NameBytes.{NameBytes}
use Rattle.cat_items.specs.declared.item.Item.{Item}
use Rattle.cat_items.specs.declared.limits.Limits.{Limits}
use Rattle.cat_items.specs.Catalogues.{IsInOrder, IsUserOf}
use Rattle.cat_items.specs.Shape.{IsAuthorizationName}
use Rattle.cat_engine.specs.Contents.{State, bytes_of, IsJournalFull}
use Rattle.cat_engine.specs.Steps.{Step}
use Rattle.cat_engine.specs.declared.journal.Entry.{Entry}
use Rattle.cat_engine.specs.declared.reply.Reply.{Reply}

-- the users alone, no connection, and an empty journal
pub record IsOpening (users : List NameBytes) (limits : Limits) (state : State) : Type 0 where
  pub order : IsInOrder state.content.catalogue
  pub members : (x : Item) → Contains state.content.catalogue x ↔ IsUserOf users x
  pub sessions : state.content.sessions ≡ []
  pub journal : state.journal ≡ []
  pub within : state.limits ≡ limits
  pub named : state.users ≡ users

-- the state after a history, which is one step after the other
abbrev pub IsAfter : State → List Entry → State → Type 0
IsAfter old [] new = new ≡ old
IsAfter old (entry ∷ entries) new = (reply : Reply) × (middle : State) × Step old entry.session entry.text reply middle × IsAfter middle entries new

-- the reply to the k-th entry of a history, counted from 0
pub record IsReplyAt (start : State) (history : List Entry) (k : ℕ) (reply : Reply) : Type 0 where
  pub entry : Entry
  pub at : slice_get history k ≡ Some entry
  pub before : State
  pub after : State
  pub earlier : IsAfter start (take k history) before
  pub step : Step before entry.session entry.text reply after

-- a journal that holds so many bytes has room for one entry after the other, each of them a statement's text
abbrev pub HasRoomFor : ℕ → ℕ → List Entry → Type 0
HasRoomFor limit held [] = Unit {0}
HasRoomFor limit held (entry ∷ entries) = (length entry.text ≤ 65535) × (held + bytes_of entry.text ≤ limit) × HasRoomFor limit (held + bytes_of entry.text) entries

-- no entry finds the journal full
abbrev pub IsLegal : Limits → List Entry → Type 0
IsLegal limits history = HasRoomFor limits.journal 0 history

-- each entry is a statement's text that doesn't find the journal full, where it comes in its turn
abbrev pub EachFindsRoom : State → List Entry → Type 0
EachFindsRoom start history = (k : ℕ) (entry : Entry) (before : State) → slice_get history k ≡ Some entry → IsAfter start (take k history) before
    → (length entry.text ≤ 65535) × (¬ (IsJournalFull before entry.text))

-- the users differ, and may be users; the journal is a legal history, and the state is the one after it
pub record IsReached (state : State) : Type 0 where
  pub distinct : AllPairs (λ a b. a ≢ b) state.users
  pub allowed : All IsAuthorizationName state.users
  pub start : State
  pub opening : IsOpening state.users state.limits start
  pub after : IsAfter start state.journal state
  pub legal : IsLegal state.limits state.journal
