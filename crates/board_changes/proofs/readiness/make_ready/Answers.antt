use Rattle.std.proofs.Common.{◌≡◌, ◌∙◌, ℕ, List, length, max, ap, sym, subst, arith}
use Rattle.std.specs.List.{AllZip, flat_map, sum_by}
use Rattle.std.proofs.Math.Nat.{le-max_left, le-max_right}
use Rattle.item_index.specs.Graphs.{Graph, HasKey, with_spare}
use Rattle.graph_steps.specs.Steps.{AreNodes}
use Rattle.cat_items.specs.declared.item.Item.{Item}
use Rattle.cat_items.specs.contracts.item.ItemPartialEq.TheImpl as same
use Rattle.board_changes.specs.Leaving.{links_with, look_ups_with}
use Rattle.board_changes.specs.Readiness.{IsPlanned}
use Rattle.board_changes.proofs.Forward.{looked_up, made_ready, out_nodes, out_once, planned_still}
use Rattle.board_changes.proofs.Going.{Differ}
use Rattle.board_changes.proofs.readiness.make_ready.Goals as goal

pub keys_of-requires : goal.keys_of-requires
keys_of-requires g c =
    subst (λ (ns : List ℕ). AreNodes c.reserve.new.self ns) (sym c.as_slice-out.ensures.value)
    (subst (λ (h : Graph Item). AreNodes h c.args.plan.out.items) (sym c.in_ok-reserve.ensures.ok) (out_nodes same.ghosts.eq c.args.board.now c.args.plan c.requires.planned))

pub links_of-requires-clause-nodes : goal.links_of-requires-clause-nodes
links_of-requires-clause-nodes g c =
    subst (λ (ns : List ℕ). AreNodes c.reserve.new.self ns) (sym c.as_slice-out.ensures.value)
    (subst (λ (h : Graph Item). AreNodes h c.args.plan.out.items) (sym c.in_ok-reserve.ensures.ok) (out_nodes same.ghosts.eq c.args.board.now c.args.plan c.requires.planned))

pub links_of-requires-clause-once : goal.links_of-requires-clause-once
links_of-requires-clause-once g c = subst Differ (sym c.as_slice-out.ensures.value) (out_once same.ghosts.eq c.args.board.now c.args.plan c.requires.planned)

pub returns-in_err-keys-clause-few : goal.returns-in_err-keys-clause-few
returns-in_err-keys-clause-few g c =
    let now = c.reserve.new.self in
    let out = c.args.plan.out.items in
    let all = looked_up c.args.board.now now _ _ out c.in_ok-reserve.ensures.ok in
    let first = c.keys_of.ensures.few in
    let count = ap length c.as_slice-out.ensures.value in
    omega arith

pub returns-in_err-links-clause-few : goal.returns-in_err-links-clause-few
returns-in_err-links-clause-few g c =
    let now = c.reserve.new.self in
    let out = c.args.plan.out.items in
    let all = looked_up c.args.board.now now _ _ out c.in_ok-reserve.ensures.ok in
    let first = c.keys_of.ensures.few in
    let last = c.links_of.ensures.few in
    let count = ap length c.as_slice-out.ensures.value in
    let same_sum = ap (sum_by (look_ups_with now)) c.as_slice-out.ensures.value in
    omega arith

pub returns-in_err-with_capacity-clause-few : goal.returns-in_err-with_capacity-clause-few
returns-in_err-with_capacity-clause-few g c =
    let now = c.reserve.new.self in
    let out = c.args.plan.out.items in
    let all = looked_up c.args.board.now now _ _ out c.in_ok-reserve.ensures.ok in
    let first = c.keys_of.ensures.few in
    let last = c.links_of.ensures.few in
    let count = ap length c.as_slice-out.ensures.value in
    let same_sum = ap (sum_by (look_ups_with now)) c.as_slice-out.ensures.value in
    omega arith

pub returns-clause-few : goal.returns-clause-few
returns-clause-few g c =
    let now = c.reserve.new.self in
    let out = c.args.plan.out.items in
    let all = looked_up c.args.board.now now _ _ out c.in_ok-reserve.ensures.ok in
    let first = c.keys_of.ensures.few in
    let last = c.links_of.ensures.few in
    let count = ap length c.as_slice-out.ensures.value in
    let same_sum = ap (sum_by (look_ups_with now)) c.as_slice-out.ensures.value in
    omega arith

pub returns-clause-planned : goal.returns-clause-planned
returns-clause-planned g c = λ old new suspect planned.
    subst (λ (h : Graph Item). IsPlanned same.ghosts.eq h old new suspect c.args.plan) (sym c.in_ok-reserve.ensures.ok) (planned_still same.ghosts.eq c.args.board.now _ _ old new suspect c.args.plan planned)

pub returns-clause-ready : goal.returns-clause-ready
returns-clause-ready g c =
    let now = c.reserve.new.self in
    let out = c.args.plan.out.items in
    let before = c.args.board.now in
    let some = c.max.result in
    let some_is = c.max.ensures in
    let one = le-max_right c.len-2.result 1 in
    let enough = le-max_left c.len-2.result 1 in
    let count = c.len-2.ensures in
    let keys_len = c.len.ensures in
    let keys_count : c.len.result ≡ length c.args.plan.keys.items = omega arith in
    let is = c.in_ok-reserve.ensures.ok ∙ ap (λ (n : ℕ). with_spare before (max before.spare_keys n) (max before.spare_links some)) keys_count in
    let old = c.in_ok-keys.ensures.keys in
    let capacity = c.in_ok-with_capacity.ensures.capacity in
    let given = c.len-3.ensures in
    made_ready same.ghosts.eq before now _ some c.requires.whole (out_once same.ghosts.eq before c.args.plan c.requires.planned) is (omega arith) (omega arith) c.requires.placed
    (old.0, subst (λ (ns : List ℕ). AllZip (HasKey now) ns old.0) c.as_slice-out.ensures.value old.1, old.2)
    (c.in_ok-links.ensures.taken ∙ ap (λ (ns : List ℕ). flat_map (links_with now ns) ns) c.as_slice-out.ensures.value)
    (omega arith)
