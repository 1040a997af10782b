use Rattle.std.proofs.Common.{◌≡◌, ◌++◌, drop, map}
use Rattle.sql_names.specs.declared.sort.Param.{Param}
use Rattle.routine_edit.proofs.repeated.names_of.Given as goal

abbrev pub invariant-loop-one : goal.invariant-loop-one
invariant-loop-one l = map (λ (p : Param). p.name) l.all ≡ l.names ++ map (λ (p : Param). p.name) (drop l.one-index l.all)
