use Rattle.std.proofs.Common.{◌≡◌, ◌∙◌, None, ℕ, List, [], ◌∷◌, refl, sym, subst}
use Rattle.edit_rules.specs.First.{First, Passes}
use Rattle.cat_engine.specs.ConnectionRefusals.{connection_in_use, unknown_user}
use Rattle.cat_engine.specs.Contents.{Content}
use Rattle.cat_engine.specs.Effects.{ChangesSession, connection_of}
use Rattle.cat_engine.specs.Refusals.{connection_name}
use Rattle.cat_engine.specs.Sessions.{session_of, with_session, connected}
use Rattle.cat_engine.proofs.Answering.{connect_done}
use Rattle.cat_engine.proofs.Decided.{so}
use Rattle.cat_engine.proofs.environment.Environment.connect.Goals as goal
use Rattle.cat_engine.proofs.environment.Environment.connect.Goals.{in-Some, in-None}

pub returns : goal.returns
returns c =
    let named : c.match-connection.name ≡ connection_name c.args.parts = elim c.match-connection.branch [
      | in-Some w ↦ rw w.in-Some.is w.name-is
      | in-None w ↦ rw w.in-None.is w.name-is
    ] in
    let made : c.connect.new.self ≡ with_session c.self.inside.sessions c.args.number
    (connected (session_of c.self.inside.sessions c.args.number) (record { name = c.match-connection.name; who = record { user = c.args.parts.user; role = None; schema = c.in_ok-copy.field-0 } })) = c.in_ok-connect.ensures.ok in
    let then_made : c.connect.new.self ≡ with_session c.self.inside.sessions c.args.number
    (connected (session_of c.self.inside.sessions c.args.number) (record { name = c.match-connection.name; who = record { user = c.args.parts.user; role = None; schema = c.args.parts.user } })) =
    subst
    (λ (s : List ℕ). c.connect.new.self ≡ with_session c.self.inside.sessions c.args.number
    (connected (session_of c.self.inside.sessions c.args.number) (record { name = c.match-connection.name; who = record { user = c.args.parts.user; role = None; schema = s } })))
    c.in_ok-copy.ensures made in
    let before : Content = record { catalogue = c.self.inside.store; sessions = c.self.inside.sessions } in
    let after : Content = record { catalogue = c.self.inside.store; sessions = c.connect.new.self } in
    let done = connect_done before c.args.number c.args.parts c.match-connection.name c.connect.new.self named (sym c.has.ensures ∙ c.if-has.false) (so _ _ (rw c.catalogue.ensures.items at c.is_user.ensures) c.if-not-is_user.false) then_made in
    let whole = subst
    (λ (old : Content). Passes (First (connection_in_use old.sessions c.args.number (connection_name c.args.parts) ∷ unknown_user old.catalogue c.args.parts.user ∷ []))
    × ChangesSession c.args.number (λ s. connected s (connection_of c.args.parts)) old after)
    c.self.view_is done in
    (whole.0, (whole.1, refl))
