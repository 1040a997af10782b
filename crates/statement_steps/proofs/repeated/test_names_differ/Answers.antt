use Rattle.edit_rules.proofs.FirstLaws.{passes_one}
use Rattle.statement_steps.specs.Repeated.{repeated_name}
use Rattle.statement_steps.proofs.Repeats.{none_again}
use Rattle.statement_steps.proofs.repeated.test_names_differ.Goals as goal

pub returns-in-None-clause-tested : goal.returns-in-None-clause-tested
returns-in-None-clause-tested c = (passes_one (repeated_name c.args.names.now) (λ refusal r. none_again c.args.names.now r.0 c.in-None.ensures.none r.1), tt)
