use Rattle.std.proofs.Common.{sym}
use Rattle.edit_suspects.proofs.Finding.{found_none, found_one}
use Rattle.edit_suspects.proofs.seeds.find.Goals as goal

pub returns-in_ok-push-clause-found : goal.returns-in_ok-push-clause-found
returns-in_ok-push-clause-found g c = found_one c.args.board.now c.args.key.now c.in-Some.ensures.whole c.args.numbers.now.items c.in-Some.number c.push.new.self.items c.in_ok-push.ensures.items c.in-Some.ensures.found

pub returns-in_default-clause-found : goal.returns-in_default-clause-found
returns-in_default-clause-found g c = found_none c.args.board.now c.args.key.now c.in_default.ensures.whole c.args.numbers.now.items (sym c.in_default.ensures.node)
