use Rattle.std.proofs.Common.{inl}
use Rattle.grant_edit.proofs.Lists.{some_shown}
use Rattle.grant_edit.proofs.named.refused.Goals as goal

pub returns-else-is_empty : goal.returns-else-is_empty
returns-else-is_empty c = inl (some_shown c.args.granted.now.items c.as_slice.result.now c.as_slice.ensures.value c.if-is_empty.ensures)
