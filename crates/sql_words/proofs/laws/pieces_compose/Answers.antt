use Rattle.sql_words.proofs.Streams.{texts_from-append, rest_from-append}
use Rattle.sql_words.proofs.laws.pieces_compose.Goals as goal

pub returns : goal.returns
returns c = λ held b more. (texts_from-append held b more, rest_from-append held b more)
