use Rattle.std.proofs.Common.{sym}
use Rattle.cat_engine.proofs.Answering.{answered}
use Rattle.cat_engine.proofs.environment.Environment.select.Goals as goal

pub answer-requires : goal.answer-requires
answer-requires c = rw c.catalogue.ensures.items c.places.ensures

pub returns-in-Ok : goal.returns-in-Ok
returns-in-Ok c =
    let told = rw c.catalogue.ensures.items at c.in-Ok.ensures in
    rw (← c.self.view_is) (answered c.args.number _ c.in-Some.who.now c.args.query.now c.in-Ok.rows (sym c.in-Some.ensures) told.0 told.1)
