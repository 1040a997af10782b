use Rattle.std.proofs.Common.{◌≡◌, List, ◌∙◌, sym, subst}
use Rattle.std.specs.List.{Contains}
use Rattle.cat_items.specs.declared.item.Item.{Item}
use Rattle.new_catalogues.proofs.Joins.{same_without, same_joined, changed_within, added_keys, edited_list}
use Rattle.new_catalogues.proofs.edits.edited.Goals as goal

pub take_out_all-requires-clause-out_within : goal.take_out_all-requires-clause-out_within
take_out_all-requires-clause-out_within c = λ y h.
    let all : c.of_sorted-edited.result.items ≡ c.args.c.now.items = c.of_sorted-edited.ensures.items ∙ c.in_ok-copies.ensures ∙ c.items.ensures.items in
    subst (λ (l : List Item). Contains l y) (sym all) (c.requires.1.target y (subst (λ (l : List Item). Contains l y) c.as_slice.ensures h))

pub take_out_all-requires-2-clause-out_within : goal.take_out_all-requires-2-clause-out_within
take_out_all-requires-2-clause-out_within c = λ y h.
    let old = c.args.c.now.items in
    let edit = c.args.edit.now in
    let all : c.of_sorted-edited.result.items ≡ old = c.of_sorted-edited.ensures.items ∙ c.in_ok-copies.ensures ∙ c.items.ensures.items in
    let first = same_without c.of_sorted-edited.result.items old c.as_slice.result.now edit.target c.take_out_all.new.self.items all c.as_slice.ensures c.take_out_all.ensures.members in
    changed_within old c.take_out_all.new.self.items c.requires.0 edit c.requires.1 first y (subst (λ (l : List Item). Contains l y) c.as_slice-2.ensures h)

pub join-requires-clause-keys : goal.join-requires-clause-keys
join-requires-clause-keys c = λ x y hx hy e.
    let old = c.args.c.now.items in
    let edit = c.args.edit.now in
    let rest = c.take_out_all.new.self.items in
    let kept = c.take_out_all-2.new.self.items in
    let all : c.of_sorted-edited.result.items ≡ old = c.of_sorted-edited.ensures.items ∙ c.in_ok-copies.ensures ∙ c.items.ensures.items in
    let first = same_without c.of_sorted-edited.result.items old c.as_slice.result.now edit.target rest all c.as_slice.ensures c.take_out_all.ensures.members in
    let second = same_without rest rest c.as_slice-2.result.now edit.changed kept (λ i. rest) c.as_slice-2.ensures c.take_out_all-2.ensures.members in
    added_keys old rest kept c.requires.0 edit c.requires.1.is_edited first second x y hx (subst (λ (l : List Item). Contains l y) c.as_slice-3.ensures hy) e

pub returns : goal.returns
returns c =
    let old = c.args.c.now.items in
    let edit = c.args.edit.now in
    let rest = c.take_out_all.new.self.items in
    let kept = c.take_out_all-2.new.self.items in
    let new = c.join.new.c.items in
    let all : c.of_sorted-edited.result.items ≡ old = c.of_sorted-edited.ensures.items ∙ c.in_ok-copies.ensures ∙ c.items.ensures.items in
    let first = same_without c.of_sorted-edited.result.items old c.as_slice.result.now edit.target rest all c.as_slice.ensures c.take_out_all.ensures.members in
    let second = same_without rest rest c.as_slice-2.result.now edit.changed kept (λ i. rest) c.as_slice-2.ensures c.take_out_all-2.ensures.members in
    let third = same_joined kept c.as_slice-3.result.now edit.added new c.as_slice-3.ensures c.in_ok-join.ensures.members in
    edited_list old rest kept new edit first second third c.in_ok-join.ensures.order
