use Rattle.std.proofs.Common.{◌≡◌, ◌<◌, true, false, drop}
use Rattle.sql_words.specs.Words.{quoted_size}
use Rattle.sql_words.proofs.Sizes.{past}
use Rattle.sql_words.proofs.tokens.quoted_size.Given as goal

abbrev pub invariant-loop-index : goal.invariant-loop-index
invariant-loop-index l = record {
  size : quoted_size l.quote false l.text ≡ past l.index (quoted_size l.quote l.behind (drop l.index l.text));
  some : l.behind ≡ true → 0 < l.index;
}
