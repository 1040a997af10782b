use Rattle.std.proofs.Common.{◌≡◌, drop}
use Rattle.query_types.specs.Aggregates as spec
use Rattle.query_types.proofs.aggregates.all_grouped.Given as goal

abbrev pub invariant-loop-one : goal.invariant-loop-one
invariant-loop-one l = spec.all_grouped l.groups l.all ≡ spec.all_grouped l.groups (drop l.one-index l.all)
