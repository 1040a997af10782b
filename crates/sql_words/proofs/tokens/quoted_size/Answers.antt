use Rattle.std.proofs.Common.{◌∙◌, arith}
use Rattle.sql_words.proofs.Sizes.{quoted-turn, quoted-byte}
use Rattle.sql_words.proofs.tokens.quoted_size.Goals as goal
use Rattle.sql_words.proofs.tokens.quoted_size.Goals.{then-byte-quote, else-byte-quote+else-behind}

pub loop-index-preserved : goal.loop-index-preserved
loop-index-preserved c = elim c.if-byte-quote.branch [
  | then-byte-quote w ↦ record {
    size = rw w.behind-is (c.loop-index.invariant.size ∙ quoted-turn _ _ _ _ c.loop-index-test.true w.if-byte-quote.true);
    some = λ _. omega arith;
  }
  | else-byte-quote+else-behind w ↦ record {
    size = rw (w.behind-is, w.if-behind.false) (c.loop-index.invariant.size ∙ quoted-byte _ _ _ _ c.loop-index-test.true w.if-byte-quote.false w.if-behind.false);
    some = λ _. omega arith;
  }
]
