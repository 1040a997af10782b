use Rattle.std.proofs.Common.{List, subst, sym}
use Rattle.cat_items.specs.declared.item.Item.{Item}
use Rattle.cat_items.specs.Batch.{HaveNoKeyInCommon, IsJoined, IsWithout}
use Rattle.catalogue_changes.proofs.Changed.{may_come, changed_list}
use Rattle.catalogue_changes.proofs.change.make.Goals as goal

pub put_in_all-requires-clause-new : goal.put_in_all-requires-clause-new
put_in_all-requires-clause-new c =
    let old = c.args.c.now.items in
    let rest = c.take_out_all.new.self.items in
    let without = subst (λ (l : List Item). IsWithout old l rest) c.items.ensures.items c.take_out_all.ensures.members in
    subst (λ (l : List Item). HaveNoKeyInCommon rest l) (sym c.into_items.ensures.items) (may_come old c.requires.change.0 rest c.args.change c.requires.change.1 without)

pub returns : goal.returns
returns c = λ new is.
    let old = c.args.c.now.items in
    let rest = c.take_out_all.new.self.items in
    let made = c.put_in_all.new.self.items in
    let without = subst (λ (l : List Item). IsWithout old l rest) c.items.ensures.items c.take_out_all.ensures.members in
    let joined = subst (λ (l : List Item). IsJoined rest l made) c.into_items.ensures.items c.put_in_all.ensures.members in
    changed_list old new rest made c.args.change is without joined c.put_in_all.ensures.order
