use Rattle.std.proofs.Common.{refl}
use Rattle.table_changes.proofs.PartLemmas.{constraint_held}
use Rattle.table_changes.proofs.constraints.OldConstraint.parts.Goals as goal

pub returns : goal.returns
returns c = constraint_held c.args.self.now.table c.args.self.now.constraint.now _ refl
