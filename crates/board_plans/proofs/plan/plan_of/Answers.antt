use Rattle.std.proofs.Common.{List, length, sym, subst}
use Rattle.std.specs.List.{All, AllZip, flat_map}
use Rattle.cat_items.specs.declared.item.Item.{Item}
use Rattle.cat_items.specs.contracts.item.ItemPartialEq.TheImpl as same
use Rattle.cat_items.specs.contracts.item.ItemEq.TheImpl.Laws as laws
use Rattle.graph_changes.specs.Ends.{ArePlaced}
use Rattle.board_plans.specs.Arrivals.{links_by}
use Rattle.board_plans.specs.Ends.{IsPlaceOf}
use Rattle.board_plans.specs.Leaving.{AreOutgoing}
use Rattle.board_plans.proofs.Finding.{ends_placed}
use Rattle.board_plans.proofs.PlanFrom.{plan_from}
use Rattle.board_plans.proofs.plan.plan_of.Goals as goal

pub ends_of-requires : goal.ends_of-requires
ends_of-requires g c = subst (AllZip (λ a place. IsPlaceOf same.ghosts.eq c.in_ok-keys.keys.keys a.key place) c.args.arrivals.now) (sym c.as_slice.ensures.value) c.in_ok-keys.ensures.places

pub returns-clause-plan : goal.returns-clause-plan
returns-clause-plan g c = λ old new suspect can.
    plan_from same.ghosts.eq laws.laws-law c.args.board.now old new suspect c.args.touched.now.keys c.args.arrivals.now can c.in_ok-out.out.keys c.in_ok-out.ensures.out c.in_ok-keys.keys.keys c.in_ok-keys.ensures.keys
    c.ends_of.new.keys.keys c.in_ok-links.links.items c.in_ok-links.ensures.ends c.in_ok-listed.field-0.items c.in_ok-listed.ensures c.in_ok-listed-2.field-0.items c.in_ok-listed-2.ensures

pub returns-clause-placed : goal.returns-clause-placed
returns-clause-placed g c =
    let placed = ends_placed same.ghosts.eq c.args.board.now c.in_ok-out.out.keys c.in_ok-keys.keys.keys c.ends_of.new.keys.keys (flat_map links_by c.args.arrivals.now) c.in_ok-links.links.items c.in_ok-links.ensures.ends in
    subst (λ (ks : List Item). All (ArePlaced (length ks)) c.in_ok-links.links.items) (sym c.in_ok-listed-2.ensures) placed

pub returns-clause-out : goal.returns-clause-out
returns-clause-out g c = subst (AreOutgoing c.args.board.now c.args.touched.now.keys) (sym c.in_ok-listed.ensures) c.in_ok-out.ensures.out
