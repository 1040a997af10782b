use Rattle.std.proofs.Common.{◌≡◌, drop}
use Rattle.sql_words.specs.Division.{size_to_bracket}
use Rattle.sql_words.proofs.Sizes.{past}
use Rattle.sql_words.proofs.tokens.size_to_bracket.Given as goal

abbrev pub invariant-loop-index : goal.invariant-loop-index
invariant-loop-index l = size_to_bracket l.text ≡ past l.index (size_to_bracket (drop l.index l.text))
