use Rattle.std.proofs.Common.{nat_cmp}
use Rattle.std.specs.BTreeMap.{is_at}
use Rattle.cat_engine.proofs.SessionLaws.{unchanged}
use Rattle.cat_engine.proofs.sessions.Sessions.connect.Goals as goal

pub returns-in-Some-clause-err : goal.returns-in-Some-clause-err
returns-in-Some-clause-err c = rw (← c.self.view_is) (unchanged c.connect.result (is_at (nat_cmp c.args.number)) c.self.inside.sessions.entries _ c.in-Some.session.now c.connect.new.self c.in-Some.ensures.value c.connect.ensures.err
    (c.get_mut.follows.holds c.connect.new.self).0)
