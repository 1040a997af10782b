use Rattle.std.proofs.Common.{◌≡◌, drop}
use Rattle.sql_words.specs.Division.{size_to}
use Rattle.sql_words.proofs.Sizes.{past}
use Rattle.sql_words.proofs.tokens.size_to.Given as goal

abbrev pub invariant-loop-index : goal.invariant-loop-index
invariant-loop-index l = size_to l.mark l.text ≡ past l.index (size_to l.mark (drop l.index l.text))
