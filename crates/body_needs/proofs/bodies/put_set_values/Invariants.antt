use Rattle.std.proofs.Common.{drop}
use Rattle.sql_tree.specs.declared.body.Assignment.{Assignment}
use Rattle.cat_items.specs.Needs as spec
use Rattle.body_needs.proofs.Gained.{Leads}
use Rattle.body_needs.proofs.bodies.put_set_values.Given as goal

abbrev pub invariant-loop-one : goal.invariant-loop-one
invariant-loop-one l = Leads (λ (a : Assignment). spec.value_needs a.value) l.initial.needs l.needs (drop l.one-index l.all) l.all
