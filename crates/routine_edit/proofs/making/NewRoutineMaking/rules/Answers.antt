use Rattle.std.proofs.Common.{subst}
use Rattle.routine_edit.specs.CreatedRoutines.{body_in}
use Rattle.routine_edit.specs.Making.{IsNamedBody}
use Rattle.routine_edit.proofs.RoutineLemmas.{typed, untyped}
use Rattle.routine_edit.proofs.making.NewRoutineMaking.rules.Goals as goal

pub returns-in-None : goal.returns-in-None
returns-in-None c =
    let signature = c.args.self.now.signature in
    let outcome = body_in c.args._c.now.items c.args._who.now signature c.args.self.now.body.now in
    (untyped signature outcome (subst (IsNamedBody signature outcome) c.in-None.is c.requires.named), tt)

pub returns-in-Some : goal.returns-in-Some
returns-in-Some c =
    let signature = c.args.self.now.signature in
    let outcome = body_in c.args._c.now.items c.args._who.now signature c.args.self.now.body.now in
    let is = subst (IsNamedBody signature outcome) c.in-Some.is c.requires.named in
    (typed signature outcome c.in-Some.resolved is, record { body = is; none = c.new.ensures })
