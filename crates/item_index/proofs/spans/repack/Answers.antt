use Rattle.std.proofs.Common.{rules, ap, ◌∙◌, ◌≡◌, length, arith}
use Rattle.item_index.specs.Spans.{span_at}
use Rattle.item_index.proofs.Packing.{IsMore, fits_next, nothing_packed, ArePacked-step}
use Rattle.item_index.proofs.SpanLemmas.{below_length, length-text_of, texts-same}
use Rattle.item_index.proofs.spans.repack.Goals as goal
use Rattle.item_index.proofs.spans.repack.Goals.{then-i-grown, else-i-grown}

pub slice_bounds-copy_from_slice-end : goal.slice_bounds-copy_from_slice-end
slice_bounds-copy_from_slice-end c =
    let more : IsMore c.loop-i.i c.args.grown c.if-i-grown.more = elim c.if-i-grown.branch [ then-i-grown w ↦ (λ _. w.more-is, λ n. absurd (n w.if-i-grown.true)) | else-i-grown w ↦ (λ e. absurd (w.if-i-grown.false e), λ _. w.more-is) ] in
    let f = fits_next c.args.from.now c.loop-i.to c.args.spans.now c.loop-i.spans c.loop-i.top c.loop-i.i c.args.grown c.if-i-grown.more c.loop-i.invariant more c.loop-i-test.true (let e = c.loop-i.auto.to in let h = c.requires.enough in omega arith) in
    search rules

pub loop-i-init : goal.loop-i-init
loop-i-init c = nothing_packed c.args.from.now c.args.to.now c.args.spans.now c.args.grown

pub loop-i-preserved : goal.loop-i-preserved
loop-i-preserved c =
    let more : IsMore c.loop-i.i c.args.grown c.if-i-grown.more = elim c.if-i-grown.branch [ then-i-grown w ↦ (λ _. w.more-is, λ n. absurd (n w.if-i-grown.true)) | else-i-grown w ↦ (λ e. absurd (w.if-i-grown.false e), λ _. w.more-is) ] in
    let len = c.loop-i.auto.to in
    let enough = c.requires.enough in
    let fits = fits_next c.args.from.now c.loop-i.to c.args.spans.now c.loop-i.spans c.loop-i.top c.loop-i.i c.args.grown c.if-i-grown.more c.loop-i.invariant more c.loop-i-test.true (omega arith) in
    let here : span_at c.loop-i.spans c.loop-i.i ≡ span_at c.args.spans.now c.loop-i.i = c.loop-i.invariant.rest c.loop-i.i (omega arith) in
    let below = below_length c.args.spans.now (length c.args.from.now) (length c.args.from.now) c.loop-i.i c.requires.sound (omega arith) c.loop-i-test.true in
    ArePacked-step c.args.from.now c.loop-i.to c.copy_from_slice.new.self c.args.spans.now c.loop-i.spans c.loop-i.top c.loop-i.i c.args.grown c.if-i-grown.more c.loop-i.invariant more c.loop-i-test.true
    c.loop-i.auto.spans fits c.copy_from_slice.ensures.after
    (ap length c.copy_from_slice.ensures.after ∙ length-text_of c.args.from.now (span_at c.loop-i.spans c.loop-i.i) (rw here below))

pub returns-clause-texts : goal.returns-clause-texts
returns-clause-texts c = texts-same _ _ _ _ c.loop-i.auto.spans (λ k h. c.loop-i.invariant.shown k (omega arith))
