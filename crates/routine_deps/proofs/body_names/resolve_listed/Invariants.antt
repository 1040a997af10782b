use Rattle.std.proofs.Common.{◌≡◌, [], drop}
use Rattle.routine_deps.specs.BodyNames as spec
use Rattle.routine_deps.proofs.body_names.resolve_listed.Given as goal

abbrev pub invariant-loop-one : goal.invariant-loop-one
invariant-loop-one g l = spec.in_order (spec.target_column (g.D.Dictionary.known l.dictionary) l.table) [] l.columns ≡ spec.in_order (spec.target_column (g.D.Dictionary.known l.dictionary) l.table) l.out (drop l.one-index l.columns)
