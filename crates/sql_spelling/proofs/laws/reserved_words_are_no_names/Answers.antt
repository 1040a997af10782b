use Rattle.sql_spelling.proofs.ReservedWords.{reserved-by-list, names-by-list}
use Rattle.sql_spelling.proofs.laws.reserved_words_are_no_names.Goals as goal

pub returns : goal.returns
returns c = λ text. (reserved-by-list text, names-by-list text)
