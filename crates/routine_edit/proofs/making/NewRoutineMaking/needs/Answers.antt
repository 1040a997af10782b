use Rattle.routine_edit.specs.CreatedRoutines.{body_in}
use Rattle.routine_edit.proofs.RoutineLemmas.{needs_of_definer, needs_of_invoker}
use Rattle.routine_edit.proofs.making.NewRoutineMaking.needs.Goals as goal

pub returns-in-Definer : goal.returns-in-Definer
returns-in-Definer c =
    needs_of_definer c.args.self.now.signature (body_in c.args._c.now.items c.args._who.now c.args.self.now.signature c.args.self.now.body.now) c.args.made.now c.requires c.in-Definer.ensures

pub returns-in-Invoker : goal.returns-in-Invoker
returns-in-Invoker c =
    needs_of_invoker c.args.self.now.signature (body_in c.args._c.now.items c.args._who.now c.args.self.now.signature c.args.self.now.body.now) c.args.made.now c.requires c.in-Invoker.ensures
