use Rattle.std.proofs.Common.{◌+◌, ◌-◌, arith}
use Rattle.shown_items.proofs.Positions.{one_position, position_at, position_within}
use Rattle.shown_items.proofs.columns.position.Goals as goal

pub returns-clause-is : goal.returns-clause-is
returns-clause-is c =
    let order = c.items-items.ensures.order in
    let low = position_within c.args.c.now.items order c.args.x.now c.args.at c.columns_of-all.result.start c.columns_of-all.result.end c.columns_of-all.ensures c.requires in
    position_at c.args.c.now.items order c.args.x.now c.args.at c.columns_of-all.result.start c.columns_of-all.result.end (c.args.at + 1 - c.columns_of-all.result.start) c.columns_of-all.ensures c.requires (omega (arith, low.0))

pub returns-clause-only : goal.returns-clause-only
returns-clause-only c n p =
    let order = c.items-items.ensures.order in
    let low = position_within c.args.c.now.items order c.args.x.now c.args.at c.columns_of-all.result.start c.columns_of-all.result.end c.columns_of-all.ensures c.requires in
    one_position c.args.c.now.items order c.args.x.now n (c.args.at + 1 - c.columns_of-all.result.start) p
    (position_at c.args.c.now.items order c.args.x.now c.args.at c.columns_of-all.result.start c.columns_of-all.result.end (c.args.at + 1 - c.columns_of-all.result.start) c.columns_of-all.ensures c.requires (omega (arith, low.0)))
