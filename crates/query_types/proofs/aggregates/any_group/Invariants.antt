use Rattle.std.proofs.Common.{◌≡◌, drop}
use Rattle.query_types.specs.Aggregates as spec
use Rattle.query_types.proofs.aggregates.any_group.Given as goal

abbrev pub invariant-loop-group : goal.invariant-loop-group
invariant-loop-group l = spec.any_group l.at l.name l.groups ≡ spec.any_group l.at l.name (drop l.group-index l.groups)
