use Rattle.std.proofs.lemmas.Result.{on_ok_weaker}
use Rattle.table_needs.proofs.NeedLemmas.{check_needs, foreign_needs}
use Rattle.table_needs.proofs.needs.push_constraint.Goals as goal

pub returns-in-Foreign : goal.returns-in-Foreign
returns-in-Foreign c = on_ok_weaker c.push_references.result (foreign_needs c.args.x.now c.in-Foreign.foreign c.get-foreign.result.now c.args.needs.now c.push_references.new.needs c.in-Foreign.is c.get-foreign.ensures) c.push_references.ensures

pub returns-in-Check : goal.returns-in-Check
returns-in-Check c = on_ok_weaker c.push_copies.result (check_needs c.args.x.now c.in-Check.check c.get.result.now c.args.needs.now c.push_copies.new.out c.in-Check.is c.get.ensures) c.push_copies.ensures
