use Rattle.std.proofs.Common.{rules, arith, append_assoc}
use Rattle.std.proofs.lemmas.Grind.{common_steps}
use Rattle.sql_text.specs.Bodies as spec
use Rattle.sql_text.proofs.bodies.put_body.Goals as goal

pub returns-in_ok-put_acts-in-Atomic : goal.returns-in_ok-put_acts-in-Atomic
unfolding spec.body_text
returns-in_ok-put_acts-in-Atomic c = first_of (search (rules, append_assoc), grind (arith, common_steps, append_assoc))
