use Rattle.std.proofs.Common.{◌∙◌, List, sym, [], ◌∷◌}
use Rattle.cat_items.specs.declared.item.Item.{Item}
use Rattle.edit_rules.proofs.FirstLaws.{exit_of_others, passes_both}
use Rattle.catalogue_edits.specs.Limits.{too_many_items, too_many_columns}
use Rattle.catalogue_edits.specs.Restrict.{still_needed}
use Rattle.catalogue_edits.specs.Stores.{IsAdmitted}
use Rattle.catalogue_edits.proofs.Outcomes.{further_refused, none_refused}
use Rattle.catalogue_edits.proofs.Stored.{made_by}
use Rattle.catalogue_edits.proofs.store.admit.Goals as goal

pub prepare_restricted-requires-clause-fit : goal.prepare_restricted-requires-clause-fit
prepare_restricted-requires-clause-fit g c = (c.requires.sound.edited, c.requires.sound.fit)

pub test_restrict-requires : goal.test_restrict-requires
test_restrict-requires g c =
    let is = rw c.in-Further.is at c.in_ok-cascade.ensures.tried in
    (c.requires.sound.edited, is.0, record { order = c.requires.good.survivors.order; fit = c.requires.sound.fit; is_new = is.1.1; has_effects = is.1.2 })

pub unreachable-requires : goal.unreachable-requires
unreachable-requires g c =
    let is = rw c.in-Further.is at c.in_ok-cascade.ensures.tried in
    further_refused c.args.c.now.items c.args.edit.now is.0 c.args.restrict is.1.3.0 (sym c.is_some-restricted.ensures ∙ is.1.0) is.1.1 is.1.3.1 c.in_ok-test_restrict-in-Further.ensures.0

pub change_of-requires : goal.change_of-requires
change_of-requires g c =
    let is = rw c.in-Ready.is at c.in_ok-cascade.ensures.tried in
    (c.requires.sound.edited, is.0, made_by c.prepare_restricted.new.board c.args.c.now.items is.0 c.args.edit.now c.in-Ready.cascade c.requires.good c.requires.sound is.1.0)

pub test_limits-requires-clause-change : goal.test_limits-requires-clause-change
test_limits-requires-clause-change g c =
    let is = rw c.in-Ready.is at c.in_ok-cascade.ensures.tried in
    (is.0, is.1.0.made, c.in_ok-change.ensures c.requires.sound.edited is.0 (made_by c.prepare_restricted.new.board c.args.c.now.items is.0 c.args.edit.now c.in-Ready.cascade c.requires.good c.requires.sound is.1.0))

pub returns-in_err-test_limits-clause-tested : goal.returns-in_err-test_limits-clause-tested
returns-in_err-test_limits-clause-tested g c =
    let old = c.args.c.now.items in
    let edit = c.args.edit.now in
    let is = rw c.in-Ready.is at c.in_ok-cascade.ensures.tried in
    let done : Unit {0} → Type 0 = λ value. Unit {0} in
    exit_of_others (still_needed old c.args.restrict edit ∷ []) (too_many_items c.args.limits.now old edit ∷ too_many_columns c.args.limits.now old edit ∷ []) done
    (λ admitted. (new : List Item) × IsAdmitted c.prepare_restricted.new.board old edit new admitted) c.in_err-test_limits.field-0.0 c.from_residual-in_err-test_limits.result c.from_residual-in_err-test_limits.ensures.1
    (none_refused old edit is.0 c.args.restrict is.1.0.made (λ some. is.1.1 (c.is_some-restricted.ensures ∙ some))) c.in_err-test_limits.ensures.tested

pub returns-clause-tested : goal.returns-clause-tested
returns-clause-tested g c =
    let old = c.args.c.now.items in
    let edit = c.args.edit.now in
    let is = rw c.in-Ready.is at c.in_ok-cascade.ensures.tried in (
      passes_both (still_needed old c.args.restrict edit ∷ []) (too_many_items c.args.limits.now old edit ∷ too_many_columns c.args.limits.now old edit ∷ []) (none_refused old edit is.0 c.args.restrict is.1.0.made (λ some. is.1.1 (c.is_some-restricted.ensures ∙ some))) c.in_ok-test_limits.ensures.tested.0,
      (
        is.0,
        record {
          cascade = is.1.0;
          change = c.in_ok-change.ensures c.requires.sound.edited is.0 (made_by c.prepare_restricted.new.board old is.0 edit c.in-Ready.cascade c.requires.good c.requires.sound is.1.0);
        },
      ),
    )
