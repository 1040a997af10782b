use Rattle.edit_rules.specs.Privileges.{no_privilege}
use Rattle.edit_rules.proofs.FirstLaws.{passes_one}
use Rattle.edit_rules.proofs.privileges.test_privileges.Goals as goal

pub returns-in-None : goal.returns-in-None
returns-in-None c = (passes_one (no_privilege c.args.c.now.items c.args.owner.now c.args.needs.now) (λ refusal r. c.in-None.ensures r.0 r.1.is), tt)
