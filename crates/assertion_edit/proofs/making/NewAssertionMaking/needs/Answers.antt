use Rattle.assertion_edit.specs.CreatedAssertions.{outcome_of}
use Rattle.assertion_edit.proofs.AssertionLemmas.{needed}
use Rattle.assertion_edit.proofs.making.NewAssertionMaking.needs.Goals as goal

pub returns : goal.returns
returns c = needed (outcome_of c.args._c.now.items c.args._who.now c.args.self.now.condition.now) c.args.made.now c.requires
