use Rattle.std.proofs.Common.{◌≡◌, ℕ, List, false, true, subst}
use Rattle.statement_steps.specs.Repeated.{IsFirstAgain}
use Rattle.statement_steps.proofs.Repeats.{Differ, parted_at, differ_begin, differ_more, differ_all}
use Rattle.statement_steps.proofs.repeated.first_again.Goals as goal

pub loop-at-init : goal.loop-at-init
loop-at-init c = record { differ = differ_begin c.as_slice-names.result.now }

pub returns-then-is_among-clause-found : goal.returns-then-is_among-clause-found
returns-then-is_among-clause-found c =
    subst (λ (all : List (List ℕ)). IsFirstAgain all c.index-names-at.result) c.as_slice-names.ensures (record {
      before = _;
      after = _;
      parts = parted_at c.as_slice-names.result.now c.loop-at.at c.index-names-at.result c.loop-at-test.true c.index-names-at.is;
      differ = c.loop-at.invariant.differ;
      again = c.is_among.ensures.0 c.if-is_among.true;
    })

pub loop-at-preserved : goal.loop-at-preserved
loop-at-preserved c = record {
  differ = differ_more c.as_slice-names.result.now c.loop-at.at c.index-names-at.result c.loop-at-test.true c.index-names-at.is c.loop-at.invariant.differ (λ h. let both : false ≡ true = c.if-is_among.ensures.1 h in cc);
}

pub returns-clause-none : goal.returns-clause-none
returns-clause-none c = subst Differ c.as_slice-names.ensures (differ_all c.as_slice-names.result.now c.loop-at.at c.loop-at-test.false c.loop-at.invariant.differ)
