use Rattle.std.proofs.Common.{arith, ◌∙◌}
use Rattle.std.proofs.lemmas.Grind.{common_steps}
use Rattle.svc_io.proofs.Told.{Got-take, GotFront-take}
use Rattle.svc_io.proofs.put.put_all.Goals as goal

pub loop-at-preserved : goal.loop-at-preserved
loop-at-preserved g c = record {
  within = grind (arith, common_steps, c.in-Ok.ensures.bound);
  bytes = Got-take _ _ _ _ _ _ c.loop-at.invariant.bytes c.in-Ok.ensures.bytes;
  faults = c.in-Ok.ensures.unfailed ∙ c.loop-at.invariant.faults;
  beside = c.in-Ok.ensures.beside ∙ c.loop-at.invariant.beside;
}

pub returns-in-Err-clause-bytes : goal.returns-in-Err-clause-bytes
returns-in-Err-clause-bytes g c = GotFront-take _ _ _ _ _ c.loop-at.invariant.bytes c.in-Err.ensures.err
