use Rattle.sql_words.proofs.Parts.{texts-by-parts, blank-by-parts}
use Rattle.sql_words.proofs.laws.texts_are_those_of_the_parts.Goals as goal

pub returns-clause-texts : goal.returns-clause-texts
returns-clause-texts c = λ b ps d. texts-by-parts b ps d

pub returns-clause-blank : goal.returns-clause-blank
returns-clause-blank c = λ b ps d. blank-by-parts b ps d
