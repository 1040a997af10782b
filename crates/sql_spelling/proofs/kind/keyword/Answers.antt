use Rattle.std.proofs.Common.{◌∙◌, sym, arith}
use Rattle.sql_spelling.proofs.Dictionary.{keyword-text, keyword-short}
use Rattle.sql_spelling.proofs.kind.keyword.Goals as goal

pub returns-in-empty : goal.returns-in-empty
returns-in-empty c = sym (keyword-short _ c.in-empty.len_below)

pub returns-in-len1-up : goal.returns-in-len1-up
returns-in-len1-up c = rw c.keywords_of.ensures at c.lookup.ensures ∙ sym (keyword-text _ (omega arith))
