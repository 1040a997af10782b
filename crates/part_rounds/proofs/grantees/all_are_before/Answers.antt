use Rattle.std.proofs.Common.{sym, ◌∙◌, arith}
use Rattle.part_rounds.proofs.TitleLaws.{before_to}
use Rattle.part_rounds.proofs.grantees.all_are_before.Goals as goal

pub returns-then-last-options : goal.returns-then-last-options
returns-then-last-options c = λ e k d from below. before_to c.args.options.now c.args.title c.requires c.in-Some.last c.if-last-options.true (λ x. sym e ∙ c.is_before.ensures x) k d from (omega (arith, below, c.in-Some.ensures))
