use Rattle.std.proofs.Common.{◌≡◌, drop}
use Rattle.name_scopes.specs.Single as spec
use Rattle.name_scopes.proofs.single.has_name.Given as goal

abbrev pub invariant-loop-one : goal.invariant-loop-one
invariant-loop-one l = spec.has_name l.name l.names ≡ spec.has_name l.name (drop l.one-index l.names)
