use Rattle.std.proofs.Common.{◌↔◌, subst}
use Rattle.std.specs.List.{Any, Contains}
use Rattle.edit_rules.proofs.Lists.{take_whole}
use Rattle.domain_edits.specs.Found.{Asks}
use Rattle.domain_edits.proofs.DomainLemmas.{asked_more, none_gains, some_gains}
use Rattle.domain_edits.proofs.checks.needs_of.Goals as goal
use Rattle.domain_edits.proofs.checks.needs_of.Goals.{in-Some+in_ok-push_needs, in_default}

pub loop-one-preserved : goal.loop-one-preserved
loop-one-preserved c = record {
  asked = λ need.
      asked_more c.args.all.now c.as_slice-one-items.result.now c.loop-one.one-index c.one-item.result c.loop-one.needs c.match-one.needs need c.as_slice-one-items.ensures c.loop-one-test.true c.one-item.is (c.loop-one.invariant.asked need)
      (elim c.match-one.branch [
        | in-Some+in_ok-push_needs w ↦ some_gains c.one-item.result w.in-Some.resolved c.loop-one.needs c.match-one.needs need w.in-Some.is (rw w.needs-is w.in_ok-push_needs.ensures)
        | in_default w ↦ none_gains c.one-item.result c.loop-one.needs c.match-one.needs need w.in_default.not-Some w.needs-is
      ]);
}

pub returns : goal.returns
returns c = λ need.
    subst (λ l. Contains c.loop-one.needs need ↔ Any (Asks need) l) (take_whole c.args.all.now c.as_slice-one-items.result.now c.loop-one.one-index c.as_slice-one-items.ensures c.loop-one-test.false) (c.loop-one.invariant.asked need)
