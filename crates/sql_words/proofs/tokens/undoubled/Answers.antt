use Rattle.std.proofs.Common.{◌∙◌, refl}
use Rattle.sql_words.proofs.Sizes.{undoubled-skip, undoubled-keep}
use Rattle.sql_words.proofs.tokens.undoubled.Goals as goal
use Rattle.sql_words.proofs.tokens.undoubled.Goals.{then-doubled, else-doubled+in_ok-push}

pub loop-byte-preserved : goal.loop-byte-preserved
loop-byte-preserved c = elim c.if-doubled.branch [
  | then-doubled w ↦ rw (w.inside-is, w.doubled-is) (c.loop-byte.invariant ∙ undoubled-skip _ _ _ _ _ c.loop-byte-test.true w.if-doubled.true)
  | else-doubled+in_ok-push w ↦ rw (w.inside-is, w.in_ok-push.ensures.items, w.doubled-is)
      (c.loop-byte.invariant ∙ undoubled-keep _ _ _ _ _ _ c.loop-byte-test.true w.if-doubled.false refl)
]
