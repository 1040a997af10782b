use Rattle.std.proofs.Common.{refl}
use Rattle.std.proofs.lemmas.Bool.{both_ways}
use Rattle.domain_edits.proofs.ChangedDomains.{check_lies, stands}
use Rattle.domain_edits.proofs.dropping.check_of.Goals as goal

pub chosen_in-requires : goal.chosen_in-requires
chosen_in-requires c = check_lies c.args.c.now.items c.args.dropped.now.domain c.args.dropped.now.name _ refl

pub returns : goal.returns
returns c = (
  stands c.args.c.now.items c.args.dropped.now.domain c.args.dropped.now.name c.in_ok-checks.checks c.in_ok-checks.ensures (λ empty. both_ways _ c.if-is_empty.false (c.is_empty.ensures.1 empty)),
  c.in_ok-checks.ensures,
)
