use Rattle.sql_words.proofs.ReadWords.{texts-have-words}
use Rattle.catalogue_calls.proofs.reading.read.Goals as goal

pub returns : goal.returns
returns c = (c.in-Ok.words.items, texts-have-words c.args.text.now c.in-Ok.words.items c.in-Ok.ensures, c.in-Ok-statement.ensures.found)
