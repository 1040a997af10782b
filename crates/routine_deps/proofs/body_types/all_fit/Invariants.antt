use Rattle.std.proofs.Common.{◌≡◌, drop}
use Rattle.routine_deps.specs.BodyTypes as spec
use Rattle.routine_deps.proofs.body_types.all_fit.Given as goal

abbrev pub invariant-loop-one : goal.invariant-loop-one
invariant-loop-one g l = spec.all_fit (g.D.Dictionary.known l.dictionary) l.scope l.all ≡ spec.all_fit (g.D.Dictionary.known l.dictionary) l.scope (drop l.one-index l.all)
