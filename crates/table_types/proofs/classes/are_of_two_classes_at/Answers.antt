use Rattle.std.proofs.Common.{arith}
use Rattle.std.proofs.lemmas.Bool.{false≢true}
use Rattle.std.proofs.lemmas.Option.{slice_get_within}
use Rattle.table_types.specs.Types.{DifferAt}
use Rattle.table_types.proofs.ClassLemmas.{differ_more}
use Rattle.table_types.proofs.classes.are_of_two_classes_at.Goals as goal

pub loop-at-preserved : goal.loop-at-preserved
loop-at-preserved c = record {
  none = differ_more (DifferAt c.args.own.now c.args.others.now c.args.columns.now c.args.names.now) c.loop-at.at c.loop-at.invariant.none (λ so. false≢true (c.if-differ_at.ensures.1 so));
}

pub returns : goal.returns
returns c = (
  λ e. absurd (false≢true e),
  λ h. absurd (c.loop-at.invariant.none h.0
      (let within = slice_get_within c.args.columns.now h.0 h.1.0 h.1.2 in omega (arith, c.len-at-end.ensures, c.loop-at-test.false, within)) h.1),
)
