use Rattle.std.proofs.Common.{◌≡◌, drop}
use Rattle.name_scopes.specs.Single as spec
use Rattle.name_scopes.proofs.single.has_param.Given as goal

abbrev pub invariant-loop-one : goal.invariant-loop-one
invariant-loop-one l = spec.has_param l.name l.params ≡ spec.has_param l.name (drop l.one-index l.params)
