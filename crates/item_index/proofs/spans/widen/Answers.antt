use Rattle.std.proofs.Common.{◌+◌, ◌*◌, arith}
use Rattle.item_index.specs.Spans.{span_at}
use Rattle.item_index.proofs.SpanLemmas.{texts-moved}
use Rattle.item_index.proofs.spans.widen.Goals as goal

pub returns-clause-texts : goal.returns-clause-texts
returns-clause-texts c =
    let e = c.args.cells.now.ok.0 in
    let f = c.copy_within.new.self.ok.0 in
    let n = c.copy_within.ensures.len in
    let t = c.requires.top in
    texts-moved c.args.cells.now.items c.copy_within.new.self.items c.args.spans.now c.args.top c.args.at (2 * (span_at c.args.spans.now c.args.at).len + 2) c.requires.sound c.requires.at
    (omega arith) (omega arith) c.copy_within.ensures.by_index.1 c.copy_within.ensures.by_index.0
