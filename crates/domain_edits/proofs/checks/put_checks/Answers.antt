use Rattle.std.proofs.Common.{ap, sym, subst, ◌∙◌, inl, inr, length, take}
use Rattle.sql_names.specs.declared.object.Object.{Object}
use Rattle.cat_items.specs.declared.item.DomainCheck.{DomainCheck}
use Rattle.cat_items.specs.declared.item.Item.TheVariants as item
use Rattle.table_names.specs.Named.{HaveOwnNames}
use Rattle.domain_edits.proofs.DomainLemmas.{apart}
use Rattle.domain_edits.proofs.MadeChecks.{grown, only_checks, same_check, whole}
use Rattle.domain_edits.proofs.checks.put_checks.Goals as goal

pub put_check-requires : goal.put_check-requires
put_check-requires c = λ x h e.
    let own : HaveOwnNames c.as_slice-named.result.now = subst HaveOwnNames (sym c.as_slice-named.ensures) c.requires.names in
    elim ((c.loop-at.invariant.members (item.DomainCheck x)).0 h) [
      | inl was ↦ c.requires.new x was
      | inr among ↦
          let of = only_checks c.args.domain.now (take c.loop-at.at c.as_slice-named.result.now) (take c.loop-at.at c.as_slice-all.result.now) (item.DomainCheck x) among in
          let names = sym of.4 ∙ ap (λ (k : DomainCheck). k.name) (sym (same_check x of.0 of.1)) ∙ e in
          apart c.as_slice-named.result.now c.loop-at.at c.index-named-at.result own c.loop-at-test.true c.index-named-at.is of.2 of.3 (ap (λ (o : Object). o.name) names)
    ]

pub loop-at-preserved : goal.loop-at-preserved
loop-at-preserved c = record {
  members =
      grown c.args.domain.now c.as_slice-named.result.now c.as_slice-all.result.now c.loop-at.at c.index-named-at.result c.index-all-at.result c.args.added.now.items c.loop-at.added.items c.put_check.new.added.items
      (ap length c.as_slice-all.ensures ∙ c.requires.length ∙ sym (ap length c.as_slice-named.ensures)) c.loop-at-test.true c.index-named-at.is c.index-all-at.is c.loop-at.invariant.members c.in_ok-put_check.ensures;
}

pub returns : goal.returns
returns c = λ x.
    whole c.args.domain.now c.args.named.now c.args.all.now c.as_slice-named.result.now c.as_slice-all.result.now c.loop-at.at c.args.added.now.items c.loop-at.added.items c.as_slice-named.ensures c.as_slice-all.ensures c.requires.length c.loop-at-test.false
    c.loop-at.invariant.members x
