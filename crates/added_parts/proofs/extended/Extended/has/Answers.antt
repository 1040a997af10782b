use Rattle.std.proofs.lemmas.Bool.{both_ways}
use Rattle.cat_items.specs.Ranges.{IsIn}
use Rattle.added_parts.proofs.Extending.{has_in_second}
use Rattle.added_parts.proofs.extended.Extended.has.Goals as goal

pub returns-else-any_in : goal.returns-else-any_in
returns-else-any_in c = has_in_second c.args.self.now.old.now.items c.args.self.now.added.now.items (IsIn c.args.part) c.any_in-else-any_in.result
    (λ old. both_ways _ c.if-any_in.false (c.any_in.ensures.1 old)) c.any_in-else-any_in.ensures
