use Rattle.std.proofs.Common.{refl, inl}
use Rattle.std.proofs.lemmas.Bool.{false≢true}
use Rattle.edit_rules.proofs.FirstLaws.{passes_one}
use Rattle.routine_edit.specs.CreatedRoutines.{routine_exists}
use Rattle.routine_edit.proofs.names.test_new_routine.Goals as goal

pub returns-then-not-is_routine : goal.returns-then-not-is_routine
returns-then-not-is_routine c = (passes_one (routine_exists c.args.c.now.items c.args.routine.now) (λ refusal r. false≢true (c.if-not-is_routine.ensures.1 r.0)), tt)

pub returns : goal.returns
returns c = rw c.in_ok-path.ensures (inl (c.if-not-is_routine.ensures.0 refl, refl), tt)
