use Rattle.drop_edit.proofs.PartLemmas.{routine_held}
use Rattle.drop_edit.proofs.parts.routine_parts.Goals as goal

pub returns-clause-function : goal.returns-clause-function
returns-clause-function c = routine_held c.args.object.now c.into-key.result c.into-key.ensures

pub returns-clause-procedure : goal.returns-clause-procedure
returns-clause-procedure c = routine_held c.args.object.now c.into-key.result c.into-key.ensures

pub returns-clause-routine : goal.returns-clause-routine
returns-clause-routine c = routine_held c.args.object.now c.into-key.result c.into-key.ensures
