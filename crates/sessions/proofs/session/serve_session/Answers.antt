use Rattle.sessions.proofs.CallLaws.{script_later}
use Rattle.sessions.proofs.Complete.{completes}
use Rattle.sessions.proofs.session.serve_session.Goals as goal

pub returns : goal.returns
returns g c = let ran = c.run_line-ran.ensures in record {
  missed = c.run_line-ran.result.missed;
  same = script_later _ _ _ _ _ _ _ ran.script;
  script = ran.script;
  complete = completes _ _ _ _ _ _ _ _ _ _ _ _ ran.script ran.read_fault ran.write_fault;
  read_fault = ran.read_fault;
  write_fault = ran.write_fault;
  take_later = ran.take_later;
  put_later = ran.put_later;
}
