use Rattle.std.proofs.Common.{◌∙◌, sym}
use Rattle.sql_words.proofs.Sizes.{bracket-next}
use Rattle.sql_words.proofs.tokens.size_to_bracket.Goals as goal

pub loop-index-preserved : goal.loop-index-preserved
loop-index-preserved c = c.loop-index.invariant ∙ bracket-next _ _ c.loop-index-test.true (sym (rw c.byte_at.ensures.value at c.closes_bracket.ensures.value) ∙ c.if-closes_bracket.false)
