use Rattle.std.proofs.Common.{subst}
use Rattle.table_parts.specs.Marks.{MarksDiffer, marks_in}
use Rattle.edit_rules.proofs.FirstLaws.{passes_one}
use Rattle.table_names.specs.Refusals.{repeated_name}
use Rattle.table_names.proofs.RepeatLemmas.{none_repeated}
use Rattle.table_names.proofs.refusals.test_repeated.Goals as goal

pub returns-in-None-clause-tested : goal.returns-in-None-clause-tested
returns-in-None-clause-tested c = (
  passes_one (repeated_name c.args.made.now c.args.parts.now) (λ refusal r. none_repeated (marks_in c.args.parts.now) r.0 (subst MarksDiffer c.in_ok-marks.ensures c.in-None.ensures.none) r.1),
  tt,
)
