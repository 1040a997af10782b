-- One step of a book: a session's text, the reply, and the state after it.
use Rattle.std.specs.Prelude.{◌≡◌, ◌⊎◌, ℕ, List, [], ◌∷◌, ◌++◌}
use Rattle.sql_tree.specs.declared.statement.Statement.{Statement}
use Rattle.cat_items.specs.declared.edit.Refusal.{Refusal}
use Rattle.cat_items.specs.declared.limits.Limits.{Limits}
use Rattle.edit_rules.specs.First.{First, Passes}
use Rattle.cat_engine.specs.Contents.{Content, State, bytes_held, IsJournalFull}
use Rattle.cat_engine.specs.Effects.{Changes, reply_of}
use Rattle.cat_engine.specs.Refusals.{text_refusals}
use Rattle.cat_engine.specs.WordRefusals.{Reads}
use Rattle.cat_engine.specs.declared.outcome.Outcome.{Outcome}
use Rattle.cat_engine.specs.declared.reply.Reply.{Reply}
use Rattle.cat_engine.specs.declared.reply.Reply.TheVariants.{Refused, JournalFull, OutOfMemory}

-- the text is refused, and nothing changes
pub record IsRefused (limits : Limits) (number : ℕ) (old : Content) (text : List ℕ) (reply : Reply) (new : Content) : Type 0 where
  pub refusal : Refusal
  pub first : First (text_refusals limits number old text) refusal
  pub told : reply ≡ Refused refusal
  pub same : new ≡ old

-- the text isn't refused, and what its statement does is done
pub record IsDone (limits : Limits) (number : ℕ) (old : Content) (text : List ℕ) (reply : Reply) (new : Content) : Type 0 where
  pub passes : Passes (First (text_refusals limits number old text))
  pub statement : Statement
  pub reads : Reads text statement
  pub outcome : Outcome
  pub changes : Changes statement number old outcome new
  pub told : reply ≡ reply_of outcome

abbrev pub Answers : Limits → ℕ → Content → List ℕ → Reply → Content → Type 0
Answers limits number old text reply new = IsRefused limits number old text reply new ⊎ IsDone limits number old text reply new

-- the journal has room for the text, which is answered, and gets its entry
pub record IsEntered (old : State) (number : ℕ) (text : List ℕ) (reply : Reply) (new : State) : Type 0 where
  pub room : ¬ (IsJournalFull old text)
  pub answers : Answers old.limits number old.content text reply new.content
  pub journal : new.journal ≡ old.journal ++ record { session = number; text = text } ∷ []
  pub limits : new.limits ≡ old.limits
  pub users : new.users ≡ old.users

-- the journal is full, and nothing changes
pub record IsTurnedAway (old : State) (text : List ℕ) (reply : Reply) (new : State) : Type 0 where
  pub full : IsJournalFull old text
  pub told : reply ≡ JournalFull (bytes_held old.journal)
  pub same : new ≡ old

abbrev pub Step : State → ℕ → List ℕ → Reply → State → Type 0
Step old number text reply new = IsTurnedAway old text reply new ⊎ IsEntered old number text reply new

-- or memory ran out, and nothing changes
abbrev pub StepOrNone : State → ℕ → List ℕ → Reply → State → Type 0
StepOrNone old number text reply new = Step old number text reply new ⊎ ((reply ≡ OutOfMemory) × (new ≡ old))
