use Rattle.std.proofs.Common.{◌∙◌, ap, subst, sym}
use Rattle.cat_items.specs.declared.item.Item.{Item}
use Rattle.cat_items.specs.contracts.item.ItemPartialEq.TheImpl as same
use Rattle.cat_items.specs.contracts.item.ItemEq.TheImpl.Laws as laws
use Rattle.indexmap.specs.IndexSet.{insert_key}
use Rattle.board_plans.specs.Ends.{IsPlaceOf}
use Rattle.board_plans.proofs.Finding.{found_among, found_new, found_staying, gone_all, gone_told}
use Rattle.board_plans.proofs.ends.end_of.Goals as goal
use Rattle.board_plans.proofs.ends.end_of.Goals.{in-Some-node+else-not-contains, in_default-node}

pub returns-in-Some-clause-end : goal.returns-in-Some-clause-end
returns-in-Some-clause-end g c = found_among same.ghosts.eq laws.laws-law c.args.board.now c.args.out.now.keys c.args.keys.now.keys c.args.key.now c.in-Some.place c.in-Some.ensures.index

pub returns-then-not-contains-clause-end : goal.returns-then-not-contains-clause-end
returns-then-not-contains-clause-end g c =
    found_staying same.ghosts.eq laws.laws-law c.args.board.now c.args.out.now.keys c.args.keys.now.keys c.args.key.now c.in-Some-node.number (sym c.in_default.ensures.found) c.in-Some-node.ensures.found
    (sym c.if-not-contains.ensures)

pub returns-clause-end : goal.returns-clause-end
returns-clause-end g c =
    let before = c.args.keys.now.keys in
    let after = c.insert_full.new.self.keys in
    let copied = c.in_ok-copy.ensures in
    found_new same.ghosts.eq laws.laws-law c.args.board.now c.args.out.now.keys before after c.args.key.now c.in_ok-place.place (sym c.in_default.ensures.found)
    (c.in_ok-place.ensures.keys ∙ ap (λ (k : Item). insert_key same.ghosts.eq before k) copied) (subst (λ (k : Item). IsPlaceOf same.ghosts.eq after k c.in_ok-place.place) copied c.in_ok-place.ensures.stored)
    (elim c.match-node.branch [
      | in-Some-node+else-not-contains w ↦
          gone_told same.ghosts.eq laws.laws-law c.args.board.now c.args.out.now.keys w.in-Some-node.ensures.whole c.args.key.now w.in-Some-node.number w.in-Some-node.ensures.found (sym w.if-not-contains.ensures)
      | in_default-node w ↦ gone_all same.ghosts.eq laws.laws-law c.args.board.now c.args.out.now.keys c.args.key.now (sym w.in_default-node.ensures.node)
    ])
