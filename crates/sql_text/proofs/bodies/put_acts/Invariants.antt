use Rattle.std.proofs.Common.{◌≡◌, ◌++◌, take, codes}
use Rattle.std.specs.List.{flat_map}
use Rattle.sql_text.specs.Bodies as spec
use Rattle.sql_text.proofs.bodies.put_acts.Given as goal

abbrev pub invariant-loop-one : goal.invariant-loop-one
invariant-loop-one l = l.out ≡ l.initial.out ++ flat_map (λ act. codes " " ++ spec.act_text act ++ codes ";") (take l.one-index l.all)
