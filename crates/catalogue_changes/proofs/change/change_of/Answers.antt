use Rattle.std.proofs.Common.{List, subst}
use Rattle.cat_items.specs.declared.item.Item.{Item}
use Rattle.catalogue_changes.specs.Parts.{AreArriving}
use Rattle.catalogue_changes.proofs.Changed.{same_apart, same_join, same_rest, same_within, leaving_within, fallen_within, gained_apart, is_change}
use Rattle.catalogue_changes.proofs.change.change_of.Goals as goal

pub arriving-requires-clause-within : goal.arriving-requires-clause-within
arriving-requires-clause-within c = leaving_within c.args.c.now.items c.requires.0 c.args.edit.now c.requires.1 c.args.effects.now c.requires.2 c.in_ok-leaving.leaving.items c.in_ok-leaving.ensures

pub take_out_all-requires-clause-out_within : goal.take_out_all-requires-clause-out_within
take_out_all-requires-clause-out_within c =
    let old = c.args.c.now.items in
    let edit = c.args.edit.now in
    let effects = c.args.effects.now in
    let out = c.in_ok-leaving.leaving.items in
    let some = c.in_ok-arriving.field-0.items in
    let are = subst (λ (l : List Item). AreArriving old out l some) c.as_slice.ensures c.in_ok-arriving.ensures.members in
    same_within c.as_slice-2.result.now c.of_sorted-coming.result.items effects.fallen.items some c.as_slice-2.ensures.value c.of_sorted-coming.ensures.items
    (fallen_within old c.requires.0 edit c.requires.1 effects c.requires.2 out c.in_ok-leaving.ensures some are)

pub put_in_copies-requires-clause-new : goal.put_in_copies-requires-clause-new
put_in_copies-requires-clause-new c =
    let old = c.args.c.now.items in
    let edit = c.args.edit.now in
    let effects = c.args.effects.now in
    let out = c.in_ok-leaving.leaving.items in
    let some = c.in_ok-arriving.field-0.items in
    let rest = c.take_out_all.new.self.items in
    let are = subst (λ (l : List Item). AreArriving old out l some) c.as_slice.ensures c.in_ok-arriving.ensures.members in
    let without = same_rest c.of_sorted-coming.result.items c.as_slice-2.result.now some effects.fallen.items rest c.of_sorted-coming.ensures.items c.as_slice-2.ensures.value c.take_out_all.ensures.members in
    same_apart rest c.as_slice-3.result.now rest effects.gained.items (λ i. rest) c.as_slice-3.ensures.value
    (gained_apart old c.requires.0 edit c.requires.1 effects c.requires.2 out c.in_ok-leaving.ensures some are rest without)

pub returns : goal.returns
returns c = λ edited new made.
    let old = c.args.c.now.items in
    let edit = c.args.edit.now in
    let effects = c.args.effects.now in
    let out = c.in_ok-leaving.leaving.items in
    let some = c.in_ok-arriving.field-0.items in
    let rest = c.take_out_all.new.self.items in
    let more = c.put_in_copies.new.c.items in
    let are = subst (λ (l : List Item). AreArriving old out l some) c.as_slice.ensures c.in_ok-arriving.ensures.members in
    let without = same_rest c.of_sorted-coming.result.items c.as_slice-2.result.now some effects.fallen.items rest c.of_sorted-coming.ensures.items c.as_slice-2.ensures.value c.take_out_all.ensures.members in
    let joined = same_join rest c.as_slice-3.result.now rest effects.gained.items more (λ i. rest) c.as_slice-3.ensures.value c.in_ok-put_in_copies.ensures.members in
    is_change old edited edit new effects made out c.in_ok-leaving.ensures some are rest without more c.in_ok-put_in_copies.ensures.order joined
    (record { leaving = c.in_ok-leaving.leaving; coming = c.put_in_copies.new.c }) (λ i. out) (λ i. more)
