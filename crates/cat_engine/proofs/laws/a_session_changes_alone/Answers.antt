use Rattle.cat_engine.proofs.OwnSessions.{own-changed, others-kept}
use Rattle.cat_engine.proofs.laws.a_session_changes_alone.Goals as goal

pub returns : goal.returns
returns c = record { own = own-changed; others = others-kept }
