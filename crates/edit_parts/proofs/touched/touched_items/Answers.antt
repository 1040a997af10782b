use Rattle.std.proofs.Common.{ℕ, ap, arith, get_or, length, subst}
use Rattle.std.specs.List.{Contains}
use Rattle.std.proofs.lemmas.List.Elements.{Contains-get_or}
use Rattle.topic_keys.proofs.Adding.{IsOfSome, each_end}
use Rattle.topic_lists.proofs.Runs.{gets_from_none}
use Rattle.edit_parts.specs.Touched.{IsRightAt, IsLeftAt, IsTouchedItem, IsTouchedRight}
use Rattle.edit_parts.proofs.TouchedLaws.{all_touched, fits_apart, in_order_alike, number_more, rights_known, touched_known}
use Rattle.edit_parts.proofs.touched.touched_items.Goals as goal

pub push_marked-requires-clause-apart : goal.push_marked-requires-clause-apart
push_marked-requires-clause-apart g c = fits_apart c.args.board.now c.args.edit.now c.requires.fits

pub push_marked-requires-clause-node : goal.push_marked-requires-clause-node
push_marked-requires-clause-node g c =
    let numbers = c.as_slice-number-items.result.now in
    let number : ℕ = get_or numbers c.loop-number.number-index 0 in
    c.requires.nodes number (subst (λ l. Contains l number) c.as_slice-number-items.ensures.keys (Contains-get_or numbers c.loop-number.number-index 0 c.loop-number-test.true))

pub loop-number-preserved : goal.loop-number-preserved
loop-number-preserved g c =
    let graph = c.args.board.now in
    let edit = c.args.edit.now in
    let numbers = c.as_slice-number-items.result.now in
    let marks = c.args.marks.now.keys in
    let same = c.as_slice-number-items.ensures.keys in
    let i = c.loop-number.number-index in
    let low = c.loop-number-test.true in
    let step = c.in_ok-push_marked.ensures in
    record {
      items = number_more (IsLeftAt graph edit) numbers marks same i low c.new-items.result.items c.loop-number.items.items c.push_marked.new.items.items c.loop-number.invariant.items step.items;
      rights = number_more (IsRightAt graph) numbers marks same i low c.new-rights.result.items c.loop-number.rights.items c.push_marked.new.rights.items c.loop-number.invariant.rights step.rights;
      ticks = omega (arith, c.loop-number.invariant.ticks, c.push_marked.ensures.ticks);
    }

pub in_order-requires : goal.in_order-requires
in_order-requires g c =
    let graph = c.args.board.now in
    let edit = c.args.edit.now in
    let marks = c.args.marks.now.keys in
    let none = c.new-items.result.items in
    let items = c.loop-number.items.items in
    let all = each_end (IsLeftAt graph edit) marks none items c.loop-number.number-index (omega (arith, c.loop-number-test.false, ap length c.as_slice-number-items.ensures.keys)) c.loop-number.invariant.items in
    touched_known graph edit marks (fits_apart graph edit c.requires.fits) c.push_all.new.items.items
    (all_touched graph edit marks none items c.new-items.ensures.items all c.as_slice.result.now c.push_all.new.items.items c.as_slice.ensures c.in_ok-push_all.ensures)

pub in_order-requires-2 : goal.in_order-requires-2
in_order-requires-2 g c =
    let graph = c.args.board.now in
    let marks = c.args.marks.now.keys in
    let none = c.new-rights.result.items in
    let rights = c.loop-number.rights.items in
    rights_known graph marks rights
    (gets_from_none (IsOfSome (IsRightAt graph) marks) (IsTouchedRight graph marks) none rights c.new-rights.ensures.items (λ y. (λ h. h, λ h. h))
    (each_end (IsRightAt graph) marks none rights c.loop-number.number-index (omega (arith, c.loop-number-test.false, ap length c.as_slice-number-items.ensures.keys)) c.loop-number.invariant.rights))

pub returns-clause-items : goal.returns-clause-items
returns-clause-items g c =
    let graph = c.args.board.now in
    let edit = c.args.edit.now in
    let marks = c.args.marks.now.keys in
    let none = c.new-items.result.items in
    let items = c.loop-number.items.items in
    let all = each_end (IsLeftAt graph edit) marks none items c.loop-number.number-index (omega (arith, c.loop-number-test.false, ap length c.as_slice-number-items.ensures.keys)) c.loop-number.invariant.items in
    in_order_alike (IsTouchedItem graph marks edit) c.push_all.new.items.items c.in_order.result.items c.of_sorted.result.items c.in_order.ensures c.of_sorted.ensures.items
    (all_touched graph edit marks none items c.new-items.ensures.items all c.as_slice.result.now c.push_all.new.items.items c.as_slice.ensures c.in_ok-push_all.ensures)

pub returns-clause-rights : goal.returns-clause-rights
returns-clause-rights g c =
    let graph = c.args.board.now in
    let marks = c.args.marks.now.keys in
    let none = c.new-rights.result.items in
    let rights = c.loop-number.rights.items in
    in_order_alike (IsTouchedRight graph marks) rights c.in_order-2.result.items c.of_sorted-2.result.items c.in_order-2.ensures c.of_sorted-2.ensures.items
    (gets_from_none (IsOfSome (IsRightAt graph) marks) (IsTouchedRight graph marks) none rights c.new-rights.ensures.items (λ y. (λ h. h, λ h. h))
    (each_end (IsRightAt graph) marks none rights c.loop-number.number-index (omega (arith, c.loop-number-test.false, ap length c.as_slice-number-items.ensures.keys)) c.loop-number.invariant.rights))
