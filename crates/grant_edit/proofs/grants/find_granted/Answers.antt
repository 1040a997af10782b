use Rattle.std.proofs.Common.{Vec, Global, [], ◌∷◌, ◌++◌, ◌↔◌, take, sym, subst, ◌∙◌}
use Rattle.std.specs.List.{Contains}
use Rattle.std.proofs.lemmas.Bool.{both_ways}
use Rattle.cat_items.specs.declared.need.Need.{Need}
use Rattle.edit_rules.proofs.Lists.{take_next, take_whole}
use Rattle.grant_edit.specs.Grants.{AllGranted, CanGrant, IsToBeGranted}
use Rattle.grant_edit.proofs.GrantLemmas.{all_more, granted_more, granted_same, not_all}
use Rattle.grant_edit.proofs.Lists.{contains_at}
use Rattle.grant_edit.proofs.grants.find_granted.Goals as goal
use Rattle.grant_edit.proofs.grants.find_granted.Goals.{then-met_by+in_ok-push_granted, else-met_by}

pub met_by-requires-clause-room : goal.met_by-requires-clause-room
met_by-requires-clause-room c = rw c.loop-need.invariant.room c.in_ok-walk.ensures

pub push_granted-requires-clause-room : goal.push_granted-requires-clause-room
push_granted-requires-clause-room c = rw (c.met_by.ensures.room, c.loop-need.invariant.room) c.in_ok-walk.ensures

pub push_granted-requires-clause-on : goal.push_granted-requires-clause-on
push_granted-requires-clause-on c = c.requires c.need-item.result (contains_at c.args.named.now.items c.deref-need-items.result.now c.loop-need.need-index c.deref-need-items.ensures.value c.need-item.result c.loop-need-test.true c.need-item.is)

pub loop-need-preserved : goal.loop-need-preserved
loop-need-preserved c =
    let items = c.args.c.now.items in
    let grantor = c.args.grantor.now in
    let object = c.args.object.now in
    let named = c.args.named.now.items in
    let need = c.need-item.result in
    let old = c.loop-need.needs.items in
    let front = take c.loop-need.need-index named in
    let next = take_next named c.deref-need-items.result.now c.loop-need.need-index c.deref-need-items.ensures.value need c.loop-need-test.true c.need-item.is in
    elim c.if-met_by.branch [
      | then-met_by+in_ok-push_granted w ↦
          let can : CanGrant items grantor need = subst (CanGrant items grantor) c.into.ensures (c.met_by.ensures.answer.0 w.if-met_by.true) in
          record {
            room = w.walk-is ∙ w.in_ok-push_granted.ensures.room ∙ c.met_by.ensures.room ∙ c.loop-need.invariant.room;
            members = λ n. subst (λ l. Contains c.if-met_by.needs.items n ↔ IsToBeGranted items grantor object l n) (sym next)
                (subst (λ (v : Vec Need Global). Contains v.items n ↔ IsToBeGranted items grantor object (front ++ need ∷ []) n) (sym w.needs-is)
                (granted_more items grantor object old w.push_granted.new.needs.items front need c.loop-need.invariant.members w.in_ok-push_granted.ensures.members n));
            all = subst (λ l. AllGranted items grantor l c.if-met_by.all) (sym next)
                (subst (λ b. AllGranted items grantor (front ++ need ∷ []) b) (sym w.all-is) (all_more items grantor front need c.loop-need.all c.loop-need.invariant.all can));
          }
      | else-met_by w ↦
          let cannot : CanGrant items grantor need → ⊥ = λ can. both_ways _ w.if-met_by.false (c.met_by.ensures.answer.1 (subst (CanGrant items grantor) (sym c.into.ensures) can)) in
          record {
            room = w.walk-is ∙ c.met_by.ensures.room ∙ c.loop-need.invariant.room;
            members = λ n. subst (λ l. Contains c.if-met_by.needs.items n ↔ IsToBeGranted items grantor object l n) (sym next)
                (subst (λ (v : Vec Need Global). Contains v.items n ↔ IsToBeGranted items grantor object (front ++ need ∷ []) n) (sym w.needs-is)
                (granted_same items grantor object old front need c.loop-need.invariant.members cannot n));
            all = subst (λ l. AllGranted items grantor l c.if-met_by.all) (sym next)
                (subst (λ b. AllGranted items grantor (front ++ need ∷ []) b) (sym w.all-is) (not_all items grantor front need cannot));
          }
    ]

pub returns-clause-members : goal.returns-clause-members
returns-clause-members c need =
    subst (λ l. Contains c.loop-need.needs.items need ↔ IsToBeGranted c.args.c.now.items c.args.grantor.now c.args.object.now l need) (take_whole c.args.named.now.items c.deref-need-items.result.now c.loop-need.need-index c.deref-need-items.ensures.value c.loop-need-test.false) (c.loop-need.invariant.members need)

pub returns-clause-all : goal.returns-clause-all
returns-clause-all c =
    subst (λ l. AllGranted c.args.c.now.items c.args.grantor.now l c.loop-need.all) (take_whole c.args.named.now.items c.deref-need-items.result.now c.loop-need.need-index c.deref-need-items.ensures.value c.loop-need-test.false) c.loop-need.invariant.all
