use Rattle.part_rounds.proofs.OptionLaws.{knows_more}
use Rattle.part_rounds.proofs.options.kept.Goals as goal

pub returns-in-Some : goal.returns-in-Some
returns-in-Some c = λ all s t within knows. knows_more all s t c.args.found c.in-Some.of c.in-Some.is c.if-of.true within knows
