use Rattle.std.proofs.Common.{Option, [], ◌∷◌, map, subst, sym}
use Rattle.std.specs.Option.{option_to_list}
use Rattle.cat_items.specs.declared.item.Item.{Item}
use Rattle.cat_items.specs.contracts.item.ItemPartialEq.TheImpl as same
use Rattle.cat_items.specs.contracts.item.ItemEq.TheImpl.Laws as laws
use Rattle.board_plans.specs.Ends.{ArePushed}
use Rattle.board_plans.proofs.Finding.{link_to}
use Rattle.board_plans.proofs.Pushing.{none_pushed}
use Rattle.board_plans.proofs.ends.push_adds.Goals as goal

pub returns-in_ok-push-clause-pushed : goal.returns-in_ok-push-clause-pushed
returns-in_ok-push-clause-pushed g c =
    let board = c.args.board.now in
    let out = c.args.out.now.keys in
    let before = c.args.keys.now.keys in
    let after = c.end_of.new.keys.keys in
    let key = c.args.arrival.now.key in
    subst (λ (o : Option Item). ArePushed same.ghosts.eq board out before after (map (λ other. (key, other)) (option_to_list o)) c.args.ends.now.items c.push.new.self.items) (sym c.in-Some.is) (record {
      ends = (c.args.own, c.in_ok-to.to) ∷ [];
      pushed = c.in_ok-push.ensures.items;
      are = link_to same.ghosts.eq laws.laws-law board out before after key c.in-Some.other c.args.own c.in_ok-to.to c.requires c.in_ok-to.ensures.end;
    })

pub returns-in_default-clause-pushed : goal.returns-in_default-clause-pushed
returns-in_default-clause-pushed g c =
    let keys = c.args.keys.now.keys in
    let key = c.args.arrival.now.key in
    let ends = c.args.ends.now.items in
    subst (λ (o : Option Item). ArePushed same.ghosts.eq c.args.board.now c.args.out.now.keys keys keys (map (λ other. (key, other)) (option_to_list o)) ends ends) (sym c.in_default.is)
    (none_pushed same.ghosts.eq laws.laws-law c.args.board.now c.args.out.now.keys keys ends)
