use Rattle.edit_arrivals.proofs.Walking.{found_passed}
use Rattle.edit_arrivals.proofs.keys.next_key.Goals as goal

pub returns-then-stands_from-clause-passed : goal.returns-then-stands_from-clause-passed
returns-then-stands_from-clause-passed c = found_passed c.args.found.now.items c.args.rights.now c.items.result.now c.args.passed.now c.stands_from.new.from c.args.x.now c.items.ensures.items c.requires.passed c.stands_from.ensures.passed
