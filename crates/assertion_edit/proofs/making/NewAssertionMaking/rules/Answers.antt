use Rattle.std.proofs.Common.{subst}
use Rattle.edit_conditions.specs.Conditions.{IsFound}
use Rattle.assertion_edit.specs.CreatedAssertions.{outcome_of}
use Rattle.assertion_edit.proofs.AssertionLemmas.{typed, untyped}
use Rattle.assertion_edit.proofs.making.NewAssertionMaking.rules.Goals as goal

pub returns-in-None : goal.returns-in-None
returns-in-None c =
    let outcome = outcome_of c.args._c.now.items c.args._who.now c.args.self.now.condition.now in
    (untyped outcome (subst (IsFound outcome) c.in-None.is c.requires.named), tt)

pub returns-in-Some : goal.returns-in-Some
returns-in-Some c =
    let outcome = outcome_of c.args._c.now.items c.args._who.now c.args.self.now.condition.now in
    let is = subst (IsFound outcome) c.in-Some.is c.requires.named in
    (typed outcome c.in-Some.resolved is, is)
