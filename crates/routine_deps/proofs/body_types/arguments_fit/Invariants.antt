use Rattle.std.proofs.Common.{◌≡◌, drop, map}
use Rattle.sql_names.specs.declared.sort.Param.{Param}
use Rattle.routine_deps.specs.BodyTypes as spec
use Rattle.routine_deps.proofs.body_types.arguments_fit.Given as goal

abbrev pub invariant-loop-at : goal.invariant-loop-at
invariant-loop-at g l = spec.arguments_match (g.D.Dictionary.known l.dictionary) l.scope (map (λ (p : Param). p.sort) l.params) l.all ≡ spec.arguments_match (g.D.Dictionary.known l.dictionary) l.scope (map (λ (p : Param). p.sort) (drop l.at l.params)) (drop l.at l.all)
