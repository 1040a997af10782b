use Rattle.std.proofs.Common.{◌≡◌, drop}
use Rattle.routine_deps.specs.BodyTypes as spec
use Rattle.routine_deps.proofs.body_types.assignments_fit.Given as goal

abbrev pub invariant-loop-one : goal.invariant-loop-one
invariant-loop-one g l = spec.assignments_fit (g.D.Dictionary.known l.dictionary) l.scope l.table l.all ≡ spec.assignments_fit (g.D.Dictionary.known l.dictionary) l.scope l.table (drop l.one-index l.all)
