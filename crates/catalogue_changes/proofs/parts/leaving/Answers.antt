use Rattle.std.proofs.Common.{◌≡◌, ◌∙◌}
use Rattle.catalogue_changes.proofs.Changed.{same_apart, same_join, changed_apart, lost_apart, leaving_list}
use Rattle.catalogue_changes.proofs.parts.leaving.Goals as goal

pub put_in_copies-requires-clause-new : goal.put_in_copies-requires-clause-new
put_in_copies-requires-clause-new c =
    let edit = c.args.edit.now in
    let first : c.of_sorted-leaving.result.items ≡ edit.target = c.of_sorted-leaving.ensures.items ∙ c.in_ok-copies.ensures ∙ c.as_slice.ensures in
    same_apart c.of_sorted-leaving.result.items c.as_slice-2.result.now edit.target edit.changed first c.as_slice-2.ensures (changed_apart c.requires.0 c.requires.1 edit c.requires.2 c.args.effects.now c.requires.3)

pub put_in_copies-requires-2-clause-new : goal.put_in_copies-requires-2-clause-new
put_in_copies-requires-2-clause-new c =
    let edit = c.args.edit.now in
    let both = c.put_in_copies.new.c.items in
    let first : c.of_sorted-leaving.result.items ≡ edit.target = c.of_sorted-leaving.ensures.items ∙ c.in_ok-copies.ensures ∙ c.as_slice.ensures in
    let joined = same_join c.of_sorted-leaving.result.items c.as_slice-2.result.now edit.target edit.changed both first c.as_slice-2.ensures c.in_ok-put_in_copies.ensures.members in
    same_apart both c.as_slice-3.result.now both c.args.effects.now.lost.items (λ i. both) c.as_slice-3.ensures.value (lost_apart c.requires.0 c.requires.1 edit c.requires.2 c.args.effects.now c.requires.3 both joined)

pub returns : goal.returns
returns c =
    let edit = c.args.edit.now in
    let both = c.put_in_copies.new.c.items in
    let new = c.put_in_copies-2.new.c.items in
    let first : c.of_sorted-leaving.result.items ≡ edit.target = c.of_sorted-leaving.ensures.items ∙ c.in_ok-copies.ensures ∙ c.as_slice.ensures in
    let joined = same_join c.of_sorted-leaving.result.items c.as_slice-2.result.now edit.target edit.changed both first c.as_slice-2.ensures c.in_ok-put_in_copies.ensures.members in
    let again = same_join both c.as_slice-3.result.now both c.args.effects.now.lost.items new (λ i. both) c.as_slice-3.ensures.value c.in_ok-put_in_copies-2.ensures.members in
    leaving_list c.requires.0 c.requires.1 edit c.requires.2 c.args.effects.now c.requires.3 both new joined again c.in_ok-put_in_copies-2.ensures.order
