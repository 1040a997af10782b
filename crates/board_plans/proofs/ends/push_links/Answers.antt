use Rattle.std.proofs.Common.{◌++◌, map}
use Rattle.std.specs.Option.{option_to_list}
use Rattle.std.proofs.lemmas.Result.{on_ok_weaker}
use Rattle.cat_items.specs.contracts.item.ItemPartialEq.TheImpl as same
use Rattle.cat_items.specs.contracts.item.ItemEq.TheImpl.Laws as laws
use Rattle.board_plans.proofs.Pushing.{own_kept, pushed_then}
use Rattle.board_plans.proofs.ends.push_links.Goals as goal

pub push_stands-requires : goal.push_stands-requires
push_stands-requires g c =
    let a = c.args.arrival.now in
    own_kept same.ghosts.eq laws.laws-law c.args.board.now c.args.out.now.keys c.args.keys.now.keys c.push_depends.new.keys.keys (map (λ other. (a.key, other)) a.depends_on) c.args.ends.now.items
    c.push_depends.new.ends.items c.in_ok-push_depends.ensures.pushed a.key c.args.own c.requires

pub push_adds-requires : goal.push_adds-requires
push_adds-requires g c =
    let a = c.args.arrival.now in
    let board = c.args.board.now in
    let out = c.args.out.now.keys in
    let k0 = c.args.keys.now.keys in
    let k1 = c.push_depends.new.keys.keys in
    let k2 = c.push_stands.new.keys.keys in
    own_kept same.ghosts.eq laws.laws-law board out k1 k2 (map (λ other. (other, a.key)) a.stands_under) c.push_depends.new.ends.items c.push_stands.new.ends.items c.in_ok-push_stands.ensures.pushed a.key c.args.own
    (own_kept same.ghosts.eq laws.laws-law board out k0 k1 (map (λ other. (a.key, other)) a.depends_on) c.args.ends.now.items c.push_depends.new.ends.items c.in_ok-push_depends.ensures.pushed a.key c.args.own c.requires)

pub returns-clause-pushed : goal.returns-clause-pushed
returns-clause-pushed g c =
    let a = c.args.arrival.now in
    let board = c.args.board.now in
    let out = c.args.out.now.keys in
    let k0 = c.args.keys.now.keys in
    let k1 = c.push_depends.new.keys.keys in
    let k2 = c.push_stands.new.keys.keys in
    let k3 = c.push_adds.new.keys.keys in
    let to = map (λ other. (a.key, other)) a.depends_on in
    let from = map (λ other. (other, a.key)) a.stands_under in
    let adding = map (λ other. (a.key, other)) (option_to_list a.adds_to) in
    let old = c.args.ends.now.items in
    let first = c.push_depends.new.ends.items in
    let second = c.push_stands.new.ends.items in
    let new = c.push_adds.new.ends.items in
    let both = pushed_then same.ghosts.eq laws.laws-law board out k0 k1 k2 to from old first second c.in_ok-push_depends.ensures.pushed c.in_ok-push_stands.ensures.pushed in
    on_ok_weaker c.push_adds.result (pushed_then same.ghosts.eq laws.laws-law board out k0 k2 k3 (to ++ from) adding old second new both) c.push_adds.ensures.pushed
