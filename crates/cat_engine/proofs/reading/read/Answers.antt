use Rattle.cat_engine.proofs.Answering.{read_done}
use Rattle.cat_engine.proofs.Decided.{so}
use Rattle.cat_engine.proofs.reading.read.Goals as goal

pub returns : goal.returns
returns c = read_done c.args.text.now c.in_ok-words.words.items c.in-Ok.found c.in_ok-words.ensures.1 c.in-Ok.ensures.found (so _ _ c.is_built.ensures c.if-not-is_built.false) (λ o. let e = c.in-Ok.ensures.profile.1 o in cc)
