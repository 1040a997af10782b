use Rattle.std.proofs.lemmas.Result.{on_ok_weaker}
use Rattle.board_graph.specs.BoardKeys.{IsHelper}
use Rattle.asked_parts.proofs.UnderLaws.{refused}
use Rattle.edit_parts.proofs.TouchedLaws.{gets_right_at, gets_left_at}
use Rattle.edit_parts.proofs.touched.push_marked.Goals as goal

pub push_left-requires-clause-target : goal.push_left-requires-clause-target
push_left-requires-clause-target g c =
    λ y h e. c.requires.apart.items y c.key-key.result.now (c.requires.apart.target y h) ((c.args.number, c.key-key.ensures.key), refused c.is_helper.result (IsHelper c.key-key.result.now) c.is_helper.ensures c.if-is_helper.false) e

pub push_left-requires-clause-changed : goal.push_left-requires-clause-changed
push_left-requires-clause-changed g c =
    λ y h e. c.requires.apart.items y c.key-key.result.now (c.requires.apart.changed y h) ((c.args.number, c.key-key.ensures.key), refused c.is_helper.result (IsHelper c.key-key.result.now) c.is_helper.ensures c.if-is_helper.false) e

pub returns-then-is_helper-clause-rights : goal.returns-then-is_helper-clause-rights
returns-then-is_helper-clause-rights g c =
    gets_right_at c.args.board.now c.args.number c.key-key.result.now c.key-key.ensures.key c.args.rights.now.items c.push_right.new.rights.items c.in_ok-push_right.ensures

pub returns-clause-items : goal.returns-clause-items
returns-clause-items g c =
    on_ok_weaker c.push_left.result
    (gets_left_at c.args.board.now c.args.number c.key-key.result.now c.key-key.ensures.key c.args.edit.now (refused c.is_helper.result (IsHelper c.key-key.result.now) c.is_helper.ensures c.if-is_helper.false) c.args.items.now.items c.push_left.new.items.items)
    c.push_left.ensures

pub returns-clause-rights : goal.returns-clause-rights
returns-clause-rights g c =
    on_ok_weaker c.push_left.result
    (λ put. gets_right_at c.args.board.now c.args.number c.key-key.result.now c.key-key.ensures.key c.args.rights.now.items c.push_right.new.rights.items c.in_ok-push_right.ensures)
    c.push_left.ensures
