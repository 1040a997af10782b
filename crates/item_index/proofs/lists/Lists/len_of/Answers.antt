use Rattle.std.proofs.Common.{length, sym, ap, arith, ◌∙◌}
use Rattle.std.proofs.lemmas.List.{get_or_read, length-map}
use Rattle.item_index.specs.Spans.{no_span, span_at, text_of}
use Rattle.item_index.proofs.SpanLemmas.{below_length, length-text_of, list_at-texts}
use Rattle.item_index.proofs.lists.Lists.len_of.Goals as goal

pub returns-clause-value : goal.returns-clause-value
returns-clause-value c =
    let cells = c.self.inside.cells.items in
    let spans = c.self.inside.spans.items in
    let there = rw (length-map spans (text_of cells)) at (rw (← c.self.view_is) at c.requires) in
    let span_is = get_or_read spans c.args.list c.index.result.now there c.index.ensures no_span in
    let top = c.self.invariant.1 in
    let e = c.self.inside.cells.ok.0 in
    let below = below_length spans c.self.inside.top (length cells) c.args.list c.self.invariant.0 (omega arith) there in
    rw (← c.self.view_is, span_is) (sym (ap length (list_at-texts cells spans c.args.list there) ∙ length-text_of cells (span_at spans c.args.list) below))
