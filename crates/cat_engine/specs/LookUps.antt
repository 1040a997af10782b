-- The edit by which a text takes look-ups in the board of the catalogue.
use Rattle.std.specs.Prelude.{◌≡◌, ℕ, List, Some}
use Rattle.sql_tree.specs.declared.statement.Statement.{Statement}
use Rattle.cat_items.specs.declared.edit.Edit.{Edit}
use Rattle.cat_items.specs.declared.edit.Who.{Who}
use Rattle.catalogue_edits.specs.LookUps.{HasEdit}
use Rattle.cat_engine.specs.Contents.{Content, State, IsJournalFull}
use Rattle.cat_engine.specs.Sessions.{who_of}
use Rattle.cat_engine.specs.WordRefusals.{Reads}

-- the statement has this edit for whom the session's current connection is for
abbrev pub HasSessionEdit : ℕ → Content → Statement → Edit → Type 0
HasSessionEdit number old statement edit = (who : Who) × (who_of old.sessions number ≡ Some who) × HasEdit old.catalogue who statement edit

-- the text is a statement that has it
abbrev pub HasTextEdit : ℕ → Content → List ℕ → Edit → Type 0
HasTextEdit number old text edit = (statement : Statement) × Reads text statement × HasSessionEdit number old statement edit

-- and the journal has room for the text
abbrev pub HasStepEdit : State → ℕ → List ℕ → Edit → Type 0
HasStepEdit old number text edit = (¬ (IsJournalFull old text)) × HasTextEdit number old.content text edit
