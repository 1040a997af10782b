use Rattle.std.proofs.Common.{◌≡◌, drop}
use Rattle.routine_deps.specs.BodyTypes as spec
use Rattle.routine_deps.proofs.body_types.values_fit.Given as goal

abbrev pub invariant-loop-at : goal.invariant-loop-at
invariant-loop-at g l = spec.values_match (g.D.Dictionary.known l.dictionary) l.scope l.table l.columns l.values ≡ spec.values_match (g.D.Dictionary.known l.dictionary) l.scope l.table (drop l.at l.columns) (drop l.at l.values)
