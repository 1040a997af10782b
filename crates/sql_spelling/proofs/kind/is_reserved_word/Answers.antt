use Rattle.std.proofs.Common.{◌∙◌, ap}
use Rattle.sql_spelling.specs.Kinds.{is_reserved}
use Rattle.sql_spelling.proofs.ReservedWords.{reserved-by-list}
use Rattle.sql_spelling.proofs.kind.is_reserved_word.Goals as goal

pub returns : goal.returns
returns c = c.is_reserved.ensures ∙ (ap is_reserved c.keyword.ensures ∙ reserved-by-list c.args.text.now)
