use Rattle.std.proofs.Common.{arith, sym, ◌∙◌, ◌<◌, length}
use Rattle.item_lists.proofs.Steps.{before_to, gap_here}
use Rattle.item_lists.proofs.walking.place_from.Goals as goal

pub search_from-requires-clause-before : goal.search_from-requires-clause-before
search_from-requires-clause-before c =
    let items = c.args.items.now in
    let low : c.args.from < length items = omega arith in
    before_to items c.args.x.now c.args.from c.index-items-from.result low c.index-items-from.is c.requires.order (sym c.compare_items.ensures ∙ c.in-Less.is)

pub returns-in-Greater-clause-place : goal.returns-in-Greater-clause-place
returns-in-Greater-clause-place c =
    let items = c.args.items.now in
    let low : c.args.from < length items = omega arith in
    gap_here items c.args.x.now c.args.from c.index-items-from.result low c.index-items-from.is c.requires.order (sym c.compare_items.ensures ∙ c.in-Greater.is) c.requires.before
