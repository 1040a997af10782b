use Rattle.std.proofs.Common.{◌≡◌, drop}
use Rattle.name_scopes.specs.Known as known
use Rattle.type_rules.proofs.parts.param_sort.Given as goal

abbrev pub invariant-loop-one : goal.invariant-loop-one
invariant-loop-one l = known.column_in l.name l.params ≡ known.column_in l.name (drop l.one-index l.params)
