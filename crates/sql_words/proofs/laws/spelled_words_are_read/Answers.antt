use Rattle.sql_words.proofs.SpelledWords.{spelled-words-are-read}
use Rattle.sql_words.proofs.laws.spelled_words_are_read.Goals as goal

pub returns : goal.returns
returns c = λ words are. spelled-words-are-read words are
