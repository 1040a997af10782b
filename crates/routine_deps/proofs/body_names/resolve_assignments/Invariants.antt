use Rattle.std.proofs.Common.{◌≡◌, [], drop}
use Rattle.routine_deps.specs.BodyNames as spec
use Rattle.routine_deps.proofs.body_names.resolve_assignments.Given as goal

abbrev pub invariant-loop-one : goal.invariant-loop-one
invariant-loop-one g l = spec.in_order (spec.assignment (g.D.Dictionary.known l.dictionary) l.scope l.table) [] l.all ≡ spec.in_order (spec.assignment (g.D.Dictionary.known l.dictionary) l.scope l.table) l.out (drop l.one-index l.all)
