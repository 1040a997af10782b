use Rattle.part_rounds.proofs.GrantedLaws.{starts_to_public}
use Rattle.part_rounds.proofs.grantees.is_marked_to_public.Goals as goal

pub is_marked_from-requires-clause-start : goal.is_marked_from-requires-clause-start
is_marked_from-requires-clause-start c = starts_to_public c.args.grant c.args.options.now c.args.start c.in-Some.title c.in-Some.ensures.some c.requires.start
