use Rattle.std.proofs.Common.{◌≡◌, ◌++◌, drop}
use Rattle.routine_deps.specs.BodyNames as spec
use Rattle.routine_deps.proofs.scopes.sorts_of.Given as goal

abbrev pub invariant-loop-name : goal.invariant-loop-name
invariant-loop-name g l = spec.sorts_of (g.D.Dictionary.known l.dictionary) l.table l.names ≡ l.out ++ spec.sorts_of (g.D.Dictionary.known l.dictionary) l.table (drop l.name-index l.names)
