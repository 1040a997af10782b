use Rattle.cat_engine.proofs.LegalLaws.{legal_journal}
use Rattle.cat_engine.proofs.laws.the_journal_is_the_history.Goals as goal

pub returns : goal.returns
returns c = λ users limits start state history opening legal after. legal_journal users limits start opening history state legal after
