use Rattle.cat_engine.proofs.OwnSessions.{set-current, set-nothing}
use Rattle.cat_engine.proofs.laws.a_setting_is_that_of_the_current_connection.Goals as goal

pub returns : goal.returns
returns c = record { set = set-current; nothing = set-nothing }
