-- What a statement does that isn't refused.
use Rattle.std.specs.Prelude.{◌≡◌, ℕ, Option, Some, None}
use Rattle.sql_tree.specs.declared.statement.Connect.{Connect as ConnectParts}
use Rattle.sql_tree.specs.declared.statement.InfoQuery.{InfoQuery}
use Rattle.sql_tree.specs.declared.statement.Statement.{Statement}
use Rattle.sql_tree.specs.declared.statement.Statement.TheVariants.{Connect, SetConnection, Disconnect, Select, SetSchema, SetRole}
use Rattle.cat_items.specs.declared.edit.Who.{Who}
use Rattle.information_schema.specs.Answers.{IsAnswerFor}
use Rattle.information_schema.specs.declared.answers.Rows.{Rows}
use Rattle.catalogue_edits.specs.declared.warning.Warning.{Warning}
use Rattle.catalogue_edits.specs.Revisions.{IsRevised}
use Rattle.cat_engine.specs.Contents.{Content}
use Rattle.cat_engine.specs.Refusals.{connection_name, role_chosen}
use Rattle.cat_engine.specs.Sessions.{session_of, who_of, with_session, connected, switched, disconnected, set_for}
use Rattle.cat_engine.specs.declared.outcome.Outcome.{Outcome}
use Rattle.cat_engine.specs.declared.outcome.Outcome.TheVariants.{Answered, Done, Warned}
use Rattle.cat_engine.specs.declared.reply.Reply.{Reply}
use Rattle.cat_engine.specs.declared.reply.Reply.TheVariants.{Ok, Rows as RowsReply, Warn}
use Rattle.cat_engine.specs.declared.session.Connection.{Connection}
use Rattle.cat_engine.specs.declared.session.Session.{Session}
use Rattle.cat_engine.specs.declared.session.Setting.TheVariants.{Schema, Role}

-- the connection that CONNECT makes; its schema is at first the one that is called like the user
abbrev pub connection_of : ConnectParts → Connection
connection_of c = record { name = connection_name c; who = record { user = c.user; role = None; schema = c.user } }

-- the session of this number is changed, and nothing else
abbrev pub ChangesSession : ℕ → (Session → Session) → Content → Content → Type 0
ChangesSession number change old new = new ≡ record { catalogue = old.catalogue; sessions = with_session old.sessions number (change (session_of old.sessions number)) }

-- the statement makes the new catalogue of the old one, and the sessions stay
pub record Revises (statement : Statement) (number : ℕ) (old : Content) (warning : Option Warning) (new : Content) : Type 0 where
  pub who : Who
  pub current : who_of old.sessions number ≡ Some who
  pub revised : IsRevised old.catalogue who statement warning new.catalogue
  pub sessions : new.sessions ≡ old.sessions

-- SELECT answers with rows of what the session sees, and changes nothing
pub record IsAnswered (query : InfoQuery) (number : ℕ) (old : Content) (outcome : Outcome) (new : Content) : Type 0 where
  pub who : Who
  pub current : who_of old.sessions number ≡ Some who
  pub rows : Rows
  pub answers : IsAnswerFor old.catalogue who query rows.rows
  pub told : outcome ≡ Answered rows
  pub same : new ≡ old

-- what is done, with this warning or with none
abbrev pub outcome_of : Option Warning → Outcome
outcome_of None = Done
outcome_of (Some warning) = Warned warning

-- an edit of the catalogue is done, with what is told of it
abbrev pub Edits : Statement → ℕ → Content → Outcome → Content → Type 0
Edits statement number old outcome new = (warning : Option Warning) × (outcome ≡ outcome_of warning) × Revises statement number old warning new

-- what a statement of this session does
abbrev pub Changes : Statement → ℕ → Content → Outcome → Content → Type 0
Changes (Connect c) number old outcome new = ChangesSession number (λ s. connected s (connection_of c)) old new × (outcome ≡ Done)
Changes (SetConnection name) number old outcome new = ChangesSession number (λ s. switched s name) old new × (outcome ≡ Done)
Changes (Disconnect name) number old outcome new = ChangesSession number (λ s. disconnected s name) old new × (outcome ≡ Done)
Changes (SetSchema name) number old outcome new = ChangesSession number (λ s. set_for s (Schema name)) old new × (outcome ≡ Done)
Changes (SetRole choice) number old outcome new = ChangesSession number (λ s. set_for s (Role (role_chosen choice))) old new × (outcome ≡ Done)
Changes (Select query) number old outcome new = IsAnswered query number old outcome new
Changes statement number old outcome new = Edits statement number old outcome new

-- the reply to it
abbrev pub reply_of : Outcome → Reply
reply_of Done = Ok
reply_of (Warned warning) = Warn warning
reply_of (Answered rows) = RowsReply rows
