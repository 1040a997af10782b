use Rattle.std.proofs.Common.{◌++◌, ap, sym, ◌∙◌}
use Rattle.table_parts.specs.Marks.{part_marks}
use Rattle.table_parts.proofs.MarkLemmas.{marks_more}
use Rattle.table_parts.proofs.marks.marks_of.Goals as goal

pub loop-at-preserved : goal.loop-at-preserved
loop-at-preserved c = record {
  marks = c.in_ok-push_part.ensures ∙ ap (λ m. m ++ part_marks c.loop-at.at c.index-parts-at.result) c.loop-at.invariant.marks
      ∙ sym (marks_more c.as_slice-parts.result.now c.loop-at.at c.index-parts-at.result c.loop-at-test.true c.index-parts-at.is);
}
