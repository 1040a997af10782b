use Rattle.std.proofs.Common.{◌≡◌, ◌↔◌, ◌≤◌, ℕ, List, [], length, arith, subst, sym}
use Rattle.std.specs.List.{Contains}
use Rattle.finite_chains.proofs.Members.{Contains-nil}
use Rattle.item_index.specs.Graphs.{Graph}
use Rattle.cat_items.specs.declared.item.Item.{Item}
use Rattle.topic_keys.specs.Lists.{Gets}
use Rattle.topic_keys.proofs.Adding.{IsOfFirst, IsOfSome, each_begin, each_end, each_more}
use Rattle.topic_lists.proofs.Runs.{gets_from_none}
use Rattle.asked_parts.specs.Under.{IsUnderAny, IsUnderKey, IsUnmarked, look_ups}
use Rattle.asked_parts.proofs.UnderLaws.{rest_is_unmarked, sum_below, sum_of_front, sum_to}
use Rattle.asked_parts.proofs.under.items_under.Goals as goal

all_under : (g : Graph Item) (marks : List ℕ) (keys none all : List Item) (i : ℕ) → length keys ≤ i → none ≡ [] → Gets (IsOfFirst (IsUnderKey g marks) keys i) none all → (y : Item) → Contains all y ↔ IsUnderAny g marks keys y
all_under g marks keys none all i high empty found =
    let R = IsUnderKey g marks in
    gets_from_none (IsOfSome R keys) (IsUnderAny g marks keys) none all empty (λ y. (λ h. h, λ h. h)) (each_end R keys none all i high found)

under_is_unmarked : (g : Graph Item) (marks : List ℕ) (keys : List Item) (y : Item) → IsUnderAny g marks keys y → IsUnmarked g marks y
under_is_unmarked g marks keys y h = rest_is_unmarked g marks h.2.0 y h.2.2

pub loop-key-init : goal.loop-key-init
loop-key-init g c =
    let graph = c.args.board.now in
    let marks = c.args.marks.now.keys in
    record {
      found = each_begin (IsUnderKey graph marks) c.args.keys.now c.new-found.result.items;
      apart = λ x y h. absurd (Contains-nil x (subst (λ l. Contains l x) (c.new-found.ensures.items) h));
      ticks = omega (arith);
    }

pub put_under-requires-clause-key : goal.put_under-requires-clause-key
put_under-requires-clause-key g c = c.requires c.key-item.result (c.loop-key.key-index, c.loop-key-test.true, sym c.key-item.is)

pub loop-key-preserved : goal.loop-key-preserved
loop-key-preserved g c =
    let graph = c.args.board.now in
    let R = IsUnderKey graph c.args.marks.now.keys in
    let i = c.loop-key.key-index in
    let key = c.key-item.result in
    record {
      found = each_more R c.args.keys.now c.new-found.result.items c.loop-key.found.items c.put_under.new.found.items i key c.loop-key-test.true c.key-item.is c.loop-key.invariant.found c.in_ok-put_under.ensures.found;
      apart = c.in_ok-put_under.ensures.apart;
      ticks = omega (arith, c.loop-key.invariant.ticks, c.put_under.ensures.ticks, sum_to (look_ups graph) c.args.keys.now i key c.loop-key-test.true c.key-item.is);
    }

pub returns-in_err-put_under-clause-ticks : goal.returns-in_err-put_under-clause-ticks
returns-in_err-put_under-clause-ticks g c =
    omega (arith, c.loop-key.invariant.ticks, c.put_under.ensures.ticks, sum_below (look_ups c.args.board.now) c.args.keys.now c.loop-key.key-index c.key-item.result c.loop-key-test.true c.key-item.is)

pub in_order-requires : goal.in_order-requires
in_order-requires g c =
    let graph = c.args.board.now in
    let marks = c.args.marks.now.keys in
    let are = all_under graph marks c.args.keys.now c.new-found.result.items c.loop-key.found.items c.loop-key.key-index (omega (arith, c.loop-key-test.false)) c.new-found.ensures.items c.loop-key.invariant.found in
    λ x y here there. c.loop-key.invariant.apart x y here (under_is_unmarked graph marks c.args.keys.now y ((are y).0 there))

pub returns-clause-found : goal.returns-clause-found
returns-clause-found g c =
    let are = all_under c.args.board.now c.args.marks.now.keys c.args.keys.now c.new-found.result.items c.loop-key.found.items c.loop-key.key-index (omega (arith, c.loop-key-test.false)) c.new-found.ensures.items c.loop-key.invariant.found in
    λ y. (
      λ h. (are y).0 ((c.in_order.ensures.members y).0 (subst (λ l. Contains l y) c.of_sorted.ensures.items h)),
      λ h. subst (λ l. Contains l y) (sym c.of_sorted.ensures.items) ((c.in_order.ensures.members y).1 ((are y).1 h)),
    )

pub returns-clause-apart : goal.returns-clause-apart
returns-clause-apart g c = λ x y h. c.loop-key.invariant.apart x y ((c.in_order.ensures.members x).0 (subst (λ l. Contains l x) c.of_sorted.ensures.items h))

pub returns-clause-ticks : goal.returns-clause-ticks
returns-clause-ticks g c = omega (arith, c.loop-key.invariant.ticks, sum_of_front (look_ups c.args.board.now) c.loop-key.key-index c.args.keys.now)
