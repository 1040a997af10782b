use Rattle.routine_edit.proofs.SoundRoutines.{sound_result}
use Rattle.routine_edit.proofs.routines.create_routine.Goals as goal

pub returns-clause-sound : goal.returns-clause-sound
returns-clause-sound c = sound_result c.args.c.now.items c.args.who.now c.args.signature c.args.body.now c.edit_of.result c.requires.good c.requires.formed c.edit_of.ensures
