use Rattle.std.proofs.Common.{◌≡◌, [], drop}
use Rattle.routine_deps.specs.BodyNames as spec
use Rattle.routine_deps.proofs.body_names.resolve_acts.Given as goal

abbrev pub invariant-loop-one : goal.invariant-loop-one
invariant-loop-one g l = spec.in_order (spec.act (g.D.Dictionary.known l.dictionary) l.scope) [] l.all ≡ spec.in_order (spec.act (g.D.Dictionary.known l.dictionary) l.scope) l.out (drop l.one-index l.all)
