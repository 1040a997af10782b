use Rattle.std.proofs.Common.{length, ◌-◌, ◌≡◌, ◌≤◌, zero, drop}
use Rattle.sql_words.specs.Words.{words_of, words_from}
use Rattle.sql_words.proofs.WordsSoFar.{words_before}
use Rattle.sql_words.proofs.reading.words.Given as goal

abbrev pub invariant-loop-at : goal.invariant-loop-at
invariant-loop-at l = record {
  within : l.at ≤ length l.text;
  words : words_of l.text ≡ words_before l.words.items (words_from zero l.at (drop l.at l.text));
}

abbrev pub decreases-loop-at : goal.decreases-loop-at
decreases-loop-at l = length l.text - l.at
