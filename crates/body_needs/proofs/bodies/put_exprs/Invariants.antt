use Rattle.std.proofs.Common.{drop}
use Rattle.cat_items.specs.Needs as spec
use Rattle.body_needs.proofs.Gained.{Leads}
use Rattle.body_needs.proofs.bodies.put_exprs.Given as goal

abbrev pub invariant-loop-one : goal.invariant-loop-one
invariant-loop-one l = Leads spec.expr_needs l.initial.needs l.needs (drop l.one-index l.all) l.all
