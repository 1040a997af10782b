use Rattle.std.proofs.Common.{◌≡◌, drop}
use Rattle.query_types.specs.Aggregates as spec
use Rattle.query_types.proofs.aggregates.all_own.Given as goal

abbrev pub invariant-loop-group : goal.invariant-loop-group
invariant-loop-group l = spec.all_own l.groups ≡ spec.all_own (drop l.group-index l.groups)
