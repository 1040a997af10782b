use Rattle.added_parts.proofs.Extending.{both_hold}
use Rattle.added_parts.proofs.extended.Extended.check_stands.Goals as goal

pub returns-then-constraint_stands : goal.returns-then-constraint_stands
returns-then-constraint_stands c = both_hold c.each_stands.result (c.constraint_stands.ensures.0 c.if-constraint_stands.true) c.each_stands.ensures
