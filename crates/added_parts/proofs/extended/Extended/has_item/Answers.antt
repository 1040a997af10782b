use Rattle.std.proofs.lemmas.Bool.{both_ways}
use Rattle.added_parts.proofs.Extending.{there_in_second}
use Rattle.added_parts.proofs.extended.Extended.has_item.Goals as goal

pub returns-else-is_there : goal.returns-else-is_there
returns-else-is_there c = there_in_second c.args.self.now.old.now.items c.args.self.now.added.now.items c.args.x.now c.is_there-else-is_there.result
    (λ old. both_ways _ c.if-is_there.false (c.is_there.ensures.1 old)) c.is_there-else-is_there.ensures
