-- Each state that a history reaches has a good catalogue, whose users are those that the book opened with; and each
-- connection is for one of them.
use Rattle.std.proofs.Common.{◌≡◌, ◌↔◌, ℕ, List, Some, refl, sym, subst, inl, inr}
use Rattle.std.specs.List.{Contains}
use Rattle.sql_names.specs.NameBytes.{NameBytes}
use Rattle.sql_tree.specs.declared.statement.Statement.{Statement}
use Rattle.sql_tree.specs.declared.statement.Statement.TheVariants.{Connect, SetConnection, Disconnect, Select, SetSchema, SetRole}
use Rattle.cat_items.specs.declared.edit.Who.{Who}
use Rattle.cat_items.specs.declared.item.Item.{Item}
use Rattle.cat_items.specs.declared.item.Item.TheVariants.{User}
use Rattle.cat_items.specs.declared.limits.Limits.{Limits}
use Rattle.cat_items.specs.Catalogues.{IsUserOf}
use Rattle.cat_items.specs.Good.{IsGood}
use Rattle.cat_items.specs.Reach.{Has}
use Rattle.cat_items.specs.Rights.{IsAuthorization}
use Rattle.role_edit.specs.CreatedRoles.{IsTaken}
use Rattle.edit_rules.specs.First.{First, Passes}
use Rattle.statement_forms.specs.Written.{IsWritten}
use Rattle.cat_engine.specs.declared.outcome.Outcome.{Outcome}
use Rattle.catalogue_edits.proofs.Openings.{opening_good}
use Rattle.catalogue_edits.proofs.SoundEdits.{revision_good, revision_leaves_users}
use Rattle.cat_engine.specs.Contents.{Content, State}
use Rattle.cat_engine.specs.Effects.{Changes, ChangesSession, connection_of}
use Rattle.cat_engine.specs.Histories.{IsReached}
use Rattle.cat_engine.specs.Refusals.{role_chosen, statement_refusals}
use Rattle.cat_engine.specs.Sessions.{connected, disconnected, set_for, switched, who_of}
use Rattle.cat_engine.specs.declared.session.Session.{Session}
use Rattle.cat_engine.specs.declared.session.Setting.TheVariants.{Schema, Role}
use Rattle.cat_engine.proofs.Answering.{connected_passes}
use Rattle.cat_engine.proofs.ConnectedUsers.{AllFor, nothing_for, statement_for, who_for}
use Rattle.cat_engine.proofs.Kept.{after_keeps}

module _ (users : List NameBytes) where
  -- a good catalogue of these users
  record IsGoodOf (c : List Item) : Type 0 where
    pub good : IsGood c
    pub names : (name : NameBytes) → Contains c (User name) ↔ Contains users name

  change_good : (number : ℕ) (change : Session → Session) (old new : Content) → ChangesSession number change old new → IsGoodOf old.catalogue → IsGoodOf new.catalogue
  change_good number change old new made good = subst (λ (c : Content). IsGoodOf c.catalogue) (sym made) good

  statement_good : (limits : Limits) (number : ℕ) (old new : Content) (s : Statement) (outcome : Outcome) → IsWritten s → Passes (First (statement_refusals limits number old s)) → Changes s number old outcome new
      → IsGoodOf old.catalogue → IsGoodOf new.catalogue
  statement_good limits number old new (Connect c) outcome is passes changes = change_good number (λ x. connected x (connection_of c)) old new changes.0
  statement_good limits number old new (SetConnection name) outcome is passes changes = change_good number (λ x. switched x name) old new changes.0
  statement_good limits number old new (Disconnect name) outcome is passes changes = change_good number (λ x. disconnected x name) old new changes.0
  statement_good limits number old new (SetSchema name) outcome is passes changes = change_good number (λ x. set_for x (Schema name)) old new changes.0
  statement_good limits number old new (SetRole choice) outcome is passes changes = change_good number (λ x. set_for x (Role (role_chosen choice))) old new changes.0
  statement_good limits number old new (Select query) outcome is passes changes = subst (λ (c : Content). IsGoodOf c.catalogue) (sym changes.same)
  statement_good limits number old new s outcome is passes changes = λ good. record {
    good = revision_good limits old.catalogue changes.2.who s changes.0 new.catalogue is
        (λ refusal h. passes refusal (inr (connected_passes old.sessions number changes.2.who changes.2.current, inl (changes.2.who, changes.2.current, h)))) changes.2.revised good.good;
    names = λ name.
        let stay = revision_leaves_users old.catalogue changes.2.who s changes.0 new.catalogue changes.2.revised name in
        (λ h. (good.names name).0 (stay.0 h), λ h. stay.1 ((good.names name).1 h));
  }

  -- and connections for them alone
  AreKept : Content → Type 0
  AreKept c = IsGoodOf c.catalogue × AllFor users c.sessions

  statement_keeps : (limits : Limits) (number : ℕ) (old new : Content) (s : Statement) (outcome : Outcome) → IsWritten s → Passes (First (statement_refusals limits number old s)) → Changes s number old outcome new → AreKept old → AreKept new
  unfolding AreKept
  statement_keeps limits number old new s outcome is passes changes kept = (
    statement_good limits number old new s outcome is passes changes kept.0,
    statement_for users limits number old new s outcome (λ name. (kept.0.names name).0) passes changes kept.1,
  )

  opening_names : (c : List Item) → ((x : Item) → Contains c x ↔ IsUserOf users x) → (name : NameBytes) → Contains c (User name) ↔ Contains users name
  opening_names c members name = (
    λ h. let is = (members (User name)).0 h in let same : is.0 ≡ name = let e = is.2 in cc in subst (Contains users) same is.1,
    λ h. (members (User name)).1 (name, h, refl),
  )

reached : (state : State) → IsReached state → IsGoodOf state.users state.content.catalogue × AllFor state.users state.content.sessions
unfolding AreKept
reached state is = after_keeps (AreKept state.users) (statement_keeps state.users) is.start state.journal state is.after (
  record {
    good = opening_good state.users is.start.content.catalogue is.allowed is.opening.order is.opening.members;
    names = opening_names state.users is.start.content.catalogue is.opening.members;
  },
  subst (AllFor state.users) (sym is.opening.sessions) (nothing_for state.users),
)

pub reached_good : (state : State) → IsReached state → IsGood state.content.catalogue
reached_good state is = (reached state is).0.good

pub reached_users : (state : State) → IsReached state → (name : NameBytes) → Contains state.content.catalogue (User name) ↔ Contains state.users name
reached_users state is = (reached state is).0.names

pub reached_connected : (state : State) → IsReached state → (number : ℕ) (who : Who) → who_of state.content.sessions number ≡ Some who → Contains state.content.catalogue (User who.user)
reached_connected state is number who current = (reached_users state is who.user).1 (who_for state.users state.content.sessions number who (reached state is).1 current)

-- a taken name is one of the catalogue, the session's user's too
pub taken_stands : (state : State) → IsReached state → (number : ℕ) (who : Who) → who_of state.content.sessions number ≡ Some who → (name : NameBytes)
    → IsTaken state.content.catalogue who name ↔ Has state.content.catalogue (IsAuthorization name)
taken_stands state is number who current name = (
  λ taken. elim taken [ inl stands ↦ stands | inr same ↦ (User who.user, reached_connected state is number who current, sym same) ],
  λ stands. inl stands,
)
