use Rattle.cat_engine.proofs.LegalLaws.{legal_finds}
use Rattle.cat_engine.proofs.laws.a_legal_history_finds_room.Goals as goal

pub returns : goal.returns
returns c = λ users limits start state history opening after. legal_finds users limits start opening history state after
