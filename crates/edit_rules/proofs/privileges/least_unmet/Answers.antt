use Rattle.std.proofs.Common.{◌∙◌, inl, inr, sym, subst, false}
use Rattle.std.specs.Option.{option_copied}
use Rattle.std.proofs.lemmas.Bool.{both_ways}
use Rattle.edit_rules.proofs.PrivilegeLemmas.{IsMet, unmet_stays, unmet_comes, unmet_done}
use Rattle.edit_rules.proofs.privileges.least_unmet.Goals as goal
use Rattle.edit_rules.proofs.privileges.least_unmet.Goals.{then-not-is_behind+then-not-met_by, else-not-is_behind, else-not-is_behind-via-then-not-is_behind+else-not-met_by, else-not-is_behind-via-else-not-is_behind}

pub loop-need-preserved : goal.loop-need-preserved
loop-need-preserved c =
    let P = IsMet c.args.c.now.items c.args.owner.now in
    record {
      room = elim c.if-not-is_behind.branch [
        | then-not-is_behind+then-not-met_by w ↦ w.walk-is ∙ w.met_by.ensures.room ∙ c.loop-need.invariant.room
        | else-not-is_behind w ↦ w.walk-is ∙ elim w.else-not-is_behind.branch [
          | else-not-is_behind-via-then-not-is_behind+else-not-met_by w' ↦ w'.walk-is ∙ w'.met_by.ensures.room ∙ c.loop-need.invariant.room
          | else-not-is_behind-via-else-not-is_behind w' ↦ w'.walk-is ∙ c.loop-need.invariant.room
        ]
      ];
      least = elim c.if-not-is_behind.branch [
        | then-not-is_behind+then-not-met_by w ↦ rw w.least-is
            (unmet_comes c.args.c.now.items c.args.owner.now c.args.needs.now _ c.loop-need.need-index (option_copied c.loop-need.least) c.need-item.result c.as_slice-need-items.ensures c.loop-need-test.true c.need-item.is c.loop-need.invariant.least
            (λ behind. both_ways _ w.if-not-is_behind.true (c.is_behind.ensures.1 behind)) (λ met. both_ways _ w.if-not-met_by.true (w.met_by.ensures.answer.1 (subst P (sym w.into.ensures) met))))
        | else-not-is_behind w ↦ rw w.least-is
            (unmet_stays c.args.c.now.items c.args.owner.now c.args.needs.now _ c.loop-need.need-index (option_copied c.loop-need.least) c.need-item.result c.as_slice-need-items.ensures c.loop-need-test.true c.need-item.is c.loop-need.invariant.least
            (elim w.else-not-is_behind.branch [
              | else-not-is_behind-via-then-not-is_behind+else-not-met_by w' ↦ inr (subst P w'.into.ensures (w'.met_by.ensures.answer.0 w'.if-not-met_by.false))
              | else-not-is_behind-via-else-not-is_behind w' ↦ inl (c.is_behind.ensures.0 w'.if-not-is_behind.false)
            ]))
      ];
    }

pub returns : goal.returns
returns c = unmet_done c.args.c.now.items c.args.owner.now c.args.needs.now _ c.loop-need.need-index (option_copied c.loop-need.least) c.as_slice-need-items.ensures c.loop-need-test.false c.loop-need.invariant.least
