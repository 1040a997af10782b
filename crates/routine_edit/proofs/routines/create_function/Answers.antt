use Rattle.std.proofs.Common.{sym, subst}
use Rattle.edit_rules.specs.First.{IsTested}
use Rattle.name_scopes.specs.declared.scope.Signature.{Signature}
use Rattle.statement_steps.specs.Steps.{refusals_of}
use Rattle.routine_edit.specs.CreatedRoutines.{routine_steps}
use Rattle.routine_edit.specs.Making.{IsFormedRoutine}
use Rattle.routine_edit.proofs.Settled.{function_formed}
use Rattle.routine_edit.proofs.routines.create_function.Goals as goal

pub create_routine-requires-clause-formed : goal.create_routine-requires-clause-formed
create_routine-requires-clause-formed c = subst (λ (s : Signature). IsFormedRoutine s c.args.parts.now.body) (sym c.in_ok-signature.ensures) (function_formed c.args.who.now c.args.parts.now c.requires.written)

pub returns-clause-tested : goal.returns-clause-tested
returns-clause-tested c =
    subst (λ (s : Signature). IsTested (refusals_of c.args.c.now.items c.args.who.now (routine_steps c.args.c.now.items c.args.who.now s c.args.parts.now.body)) (routine_steps c.args.c.now.items c.args.who.now s c.args.parts.now.body).edit c.create_routine.result)
    c.in_ok-signature.ensures c.create_routine.ensures.tested
