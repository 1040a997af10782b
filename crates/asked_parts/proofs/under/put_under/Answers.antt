use Rattle.std.proofs.Common.{refl, arith}
use Rattle.topic_keys.specs.Lists.{Gets}
use Rattle.topic_keys.proofs.Adding.{gets_alike, gets_none}
use Rattle.asked_parts.specs.Under.{IsRestOf, IsUnderKey}
use Rattle.asked_parts.proofs.UnderLaws.{cost_of_node, found_key, helper_is_granted, no_key, on_ok, under_node}
use Rattle.asked_parts.proofs.under.put_under.Goals as goal

pub returns-in-None-clause-found : goal.returns-in-None-clause-found
returns-in-None-clause-found g c =
    gets_none (IsUnderKey c.args.board.now c.args.marks.now.keys c.args.key.now) c.args.found.now.items c.args.found.now.items refl (λ y h. no_key c.args.board.now c.args.key.now c.in-None.ensures.node h.0 h.1)

pub returns-in-Some-clause-found : goal.returns-in-Some-clause-found
returns-in-Some-clause-found g c =
    let graph = c.args.board.now in
    let marks = c.args.marks.now.keys in
    let key = c.args.key.now in
    let node = c.in-Some.node in
    let old = c.args.found.now.items in
    let new = c.put_rests.new.found.items in
    let there = c.in-Some.ensures.found in
    let has = found_key graph node key there.0 (helper_is_granted key c.requires.key) there.1 there.2 in
    on_ok (Gets (IsRestOf graph marks node) old new) (Gets (IsUnderKey graph marks key) old new) c.put_rests.result
    (gets_alike (IsRestOf graph marks node) (IsUnderKey graph marks key) old new (under_node graph marks node key c.node.ensures.whole has)) c.put_rests.ensures.found

pub returns-in-Some-clause-ticks : goal.returns-in-Some-clause-ticks
returns-in-Some-clause-ticks g c = omega (arith, c.node.ensures.ticks, c.put_rests.ensures.ticks, cost_of_node c.args.board.now c.args.key.now c.in-Some.node c.in-Some.ensures.node)
