use Rattle.std.proofs.lemmas.Bool.{both_ways, false≢true}
use Rattle.std.proofs.Common.{refl, subst, sym}
use Rattle.cat_items.specs.declared.item.Check.{Check}
use Rattle.domain_drop.specs.CheckCopies.{IsCopy, IsToCopy, Pair}
use Rattle.domain_drop.proofs.CopyLemmas.{made_copy, meeting_as, not_copied, one_copy}
use Rattle.domain_drop.proofs.FreedLemmas.{on_ok}
use Rattle.domain_drop.proofs.copies.copy_check.Goals as goal

pub returns-then-not-is_based : goal.returns-then-not-is_based
returns-then-not-is_based c = not_copied c.args.c.now.items (record { column = c.args.column.now; check = c.args.check.now }) c.args.copies.now (λ to. false≢true (c.if-not-is_based.ensures.1 to.0))

pub returns-then-not-branch : goal.returns-then-not-branch
returns-then-not-branch c =
    let p : Pair = record { column = c.args.column.now; check = c.args.check.now } in
    let meets = meeting_as c.args.c.now.items p c.in_ok-needs.needs c.in_ok-cond.cond c.in_ok-cond.ensures c.in_ok-needs.ensures in
    not_copied c.args.c.now.items p c.args.copies.now (λ to. both_ways _ c.if-not-branch.true (c.in_ok-owner_meets.ensures.1 (meets.1 to.1)))

pub returns : goal.returns
returns c =
    let items = c.args.c.now.items in
    let p : Pair = record { column = c.args.column.now; check = c.args.check.now } in
    let needs = c.in_ok-needs.needs in
    let cond = c.in_ok-cond.cond in
    let meets = meeting_as items p needs cond c.in_ok-cond.ensures c.in_ok-needs.ensures in
    let to : IsToCopy items p = (c.if-not-is_based.ensures.0 refl, meets.0 (c.in_ok-owner_meets.ensures.0 c.if-not-branch.false)) in
    let copy : IsCopy items c.args.copies.now p c.in_ok-copy.copy = made_copy items c.args.copies.now p c.in_ok-copy.copy needs cond c.in_ok-cond.ensures c.in_ok-needs.ensures c.in_ok-copy.ensures in
    on_ok c.push.result _ _ (λ grows. one_copy items p c.args.copies.now _ c.in_ok-new.field-0 to (subst (λ (x : Check). IsCopy items c.args.copies.now p x) (sym c.in_ok-new.ensures) copy) grows) c.push.ensures.ok
