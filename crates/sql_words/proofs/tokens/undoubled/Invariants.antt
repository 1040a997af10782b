use Rattle.std.proofs.Common.{◌≡◌, ◌++◌, false, drop}
use Rattle.sql_words.specs.Words as spec
use Rattle.sql_words.proofs.tokens.undoubled.Given as goal

abbrev pub invariant-loop-byte : goal.invariant-loop-byte
invariant-loop-byte l = spec.undoubled l.quote false l.bytes ≡ l.inside.items ++ spec.undoubled l.quote l.doubled (drop l.byte-index l.bytes)
