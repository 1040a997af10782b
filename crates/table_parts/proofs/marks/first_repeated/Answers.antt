use Rattle.std.proofs.Common.{◌≡◌, List, false, true, subst}
use Rattle.table_parts.specs.declared.marks.Mark.{Mark}
use Rattle.table_parts.specs.Marks.{MarksDiffer, IsRepeated}
use Rattle.table_parts.proofs.Repeats.{parted_at, differ_more, differ_all}
use Rattle.table_parts.proofs.marks.first_repeated.Goals as goal

pub returns-then-is_among-clause-found : goal.returns-then-is_among-clause-found
returns-then-is_among-clause-found c =
    subst (λ (all : List Mark). IsRepeated all c.index-marks-at.result) c.as_slice-marks.ensures (record {
      before = _;
      after = _;
      parts = parted_at c.as_slice-marks.result.now c.loop-at.at c.index-marks-at.result c.loop-at-test.true c.index-marks-at.is;
      differ = c.loop-at.invariant.differ;
      again = c.is_among.ensures.0 c.if-is_among.true;
    })

pub loop-at-preserved : goal.loop-at-preserved
loop-at-preserved c = record {
  differ = differ_more c.as_slice-marks.result.now c.loop-at.at c.index-marks-at.result c.loop-at-test.true c.index-marks-at.is c.loop-at.invariant.differ (λ h. let both : false ≡ true = c.if-is_among.ensures.1 h in cc);
}

pub returns-clause-none : goal.returns-clause-none
returns-clause-none c = subst MarksDiffer c.as_slice-marks.ensures (differ_all c.as_slice-marks.result.now c.loop-at.at c.loop-at-test.false c.loop-at.invariant.differ)
