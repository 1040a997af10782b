use Rattle.std.proofs.Common.{sym, ◌∙◌}
use Rattle.cat_items.proofs.Merges.{cut_by_test}
use Rattle.cat_items.proofs.batch.cut_from_end.Goals as goal

pub returns-in-Some : goal.returns-in-Some
returns-in-Some c = cut_by_test _ _ _ _ c.requires c.in-Some.ensures.value c.compare_items.ensures (sym c.is_lt.ensures ∙ c.if-is_lt.true)
