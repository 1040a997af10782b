use Rattle.sql_words.proofs.Divisions.{a_division, division-divides, one-division, parts-join}
use Rattle.sql_words.proofs.laws.each_stream_has_one_division.Goals as goal

pub returns-clause-division : goal.returns-clause-division
returns-clause-division c = λ b. (a_division b, division-divides b, λ qs e. one-division (a_division b) qs b (division-divides b) e)

pub returns-clause-parts : goal.returns-clause-parts
returns-clause-parts c = λ b ps d. parts-join ps b d
