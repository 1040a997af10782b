use Rattle.routine_edit.specs.CreatedRoutines.{body_in}
use Rattle.routine_edit.proofs.RoutineLemmas.{edit_made}
use Rattle.routine_edit.proofs.making.NewRoutineMaking.edit.Goals as goal

pub returns : goal.returns
returns c =
    let signature = c.args.self.now.signature in
    edit_made signature (body_in c.args._c.now.items c.args._who.now signature c.args.self.now.body.now) c.args._c.now.items c.in_ok-routine.routine c.args.made.resolved c.adding.result c.requires.made.body c.in_ok-routine.ensures c.adding.ensures
