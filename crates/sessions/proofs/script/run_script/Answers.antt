use Rattle.sessions.specs.Calls.{IsApplied}
use Rattle.sessions.proofs.Complete.{completes}
use Rattle.sessions.proofs.script.run_script.Goals as goal

pub returns-clause-complete : goal.returns-clause-complete
returns-clause-complete g c = completes IsApplied _ _ _ _ _ _ _ _ _ _ _ c.run_stream-ran.ensures.script c.run_stream-ran.ensures.read_fault c.run_stream-ran.ensures.write_fault
