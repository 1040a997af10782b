use Rattle.std.proofs.Common.{nat_cmp}
use Rattle.std.specs.BTreeMap.{is_at}
use Rattle.cat_engine.proofs.SessionLaws.{unchanged}
use Rattle.cat_engine.proofs.sessions.Sessions.set.Goals as goal
use Rattle.cat_engine.proofs.sessions.Sessions.set.Goals.{in-Some, in-None+in-Schema-1, in-None+in-Role+in-Some-1, in-None+in-Role+in-None-1}

pub returns-clause-err : goal.returns-clause-err
returns-clause-err c = elim c.match-get_mut.branch [
  | in-Some w ↦ rw (w.result-is, w.self-inside-is, ← c.self.view_is) (unchanged w.set.result (is_at (nat_cmp c.args.number)) c.self.inside.sessions.entries _ w.in-Some.session.now w.set.new.self w.in-Some.ensures.value w.set.ensures.err
      (c.get_mut.follows.holds w.set.new.self).0)
  | in-None+in-Schema-1 w ↦ rw w.result-is tt
  | in-None+in-Role+in-Some-1 w ↦ rw w.result-is tt
  | in-None+in-Role+in-None-1 w ↦ rw w.result-is tt
]
