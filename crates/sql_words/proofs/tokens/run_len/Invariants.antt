use Rattle.std.proofs.Common.{◌≡◌, ◌+◌, drop}
use Rattle.std.specs.List.{prefix_len}
use Rattle.sql_words.specs.Tokens.{is_in}
use Rattle.sql_words.proofs.tokens.run_len.Given as goal

abbrev pub invariant-loop-index : goal.invariant-loop-index
invariant-loop-index l = prefix_len (is_in l.class) l.text ≡ l.index + prefix_len (is_in l.class) (drop l.index l.text)
