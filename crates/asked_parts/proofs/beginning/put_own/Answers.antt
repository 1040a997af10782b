use Rattle.std.proofs.Common.{◌≡◌, ◌∙◌, refl, subst, sym}
use Rattle.item_index.specs.Graphs.{HasKey}
use Rattle.edit_rules.specs.Chosen.{IsRightOrRoleGrant}
use Rattle.edit_rules.proofs.ItemKeys.{one_granted}
use Rattle.board_graph.specs.BoardKeys.{IsHelper}
use Rattle.topic_keys.specs.Lists.{Gets}
use Rattle.topic_keys.proofs.Adding.{gets_alike, gets_none}
use Rattle.asked_parts.proofs.BeginLaws.{IsOwn, none_marked, own_unmarked}
use Rattle.asked_parts.proofs.UnderLaws.{found_key, marked, no_key, not_marked, on_ok, refused}
use Rattle.asked_parts.proofs.beginning.put_own.Goals as goal

pub returns-then-is_helper-clause-members : goal.returns-then-is_helper-clause-members
returns-then-is_helper-clause-members g c =
    let key = c.args.key.now in
    let part = c.args.part.now.items in
    gets_none (IsOwn c.args.board.now c.args.marks.now.keys key) part part refl (λ y h. h.1.1.2 (subst IsHelper (sym h.0) (c.is_helper.ensures.0 c.if-is_helper.true)))

pub returns-in-None-clause-members : goal.returns-in-None-clause-members
returns-in-None-clause-members g c =
    let graph = c.args.board.now in
    let key = c.args.key.now in
    let part = c.args.part.now.items in
    gets_none (IsOwn graph c.args.marks.now.keys key) part part refl (λ y h. no_key graph key c.in-None.ensures.node h.1.0 (subst (HasKey graph h.1.0) h.0 h.1.1.0))

pub returns-then-contains-clause-members : goal.returns-then-contains-clause-members
returns-then-contains-clause-members g c =
    let graph = c.args.board.now in
    let marks = c.args.marks.now.keys in
    let key = c.args.key.now in
    let node = c.in-Some.node in
    let part = c.args.part.now.items in
    let there = c.in-Some.ensures.found in
    let has = found_key graph node key there.0 c.requires there.1 there.2 in
    gets_none (IsOwn graph marks key) part part refl (none_marked graph marks node key c.node.ensures.whole has (marked marks node (sym c.contains.ensures ∙ c.if-contains.true)))

pub put-requires : goal.put-requires
put-requires g c = λ y h e. one_granted y c.in_ok-copy-in-Some.field-0 (subst IsRightOrRoleGrant (sym c.in_ok-copy-in-Some.ensures) c.requires) e

pub returns-in_ok-copy-in-Some-clause-members : goal.returns-in_ok-copy-in-Some-clause-members
returns-in_ok-copy-in-Some-clause-members g c =
    let graph = c.args.board.now in
    let marks = c.args.marks.now.keys in
    let key = c.args.key.now in
    let node = c.in-Some.node in
    let copy = c.in_ok-copy-in-Some.field-0 in
    let old = c.args.part.now.items in
    let new = c.put.new.items.items in
    let there = c.in-Some.ensures.found in
    let has = found_key graph node key there.0 c.requires there.1 there.2 in
    on_ok (Gets (λ y. y ≡ copy) old new) (Gets (IsOwn graph marks key) old new) c.put.result
    (gets_alike (λ y. y ≡ copy) (IsOwn graph marks key) old new
    (own_unmarked graph marks node key copy has c.in_ok-copy-in-Some.ensures (not_marked marks node (sym c.contains.ensures ∙ c.if-contains.false)) (refused c.is_helper.result (IsHelper key) c.is_helper.ensures c.if-is_helper.false)))
    c.put.ensures.members
