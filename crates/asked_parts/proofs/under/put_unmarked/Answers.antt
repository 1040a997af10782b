use Rattle.std.proofs.Common.{◌≡◌, ◌∙◌, refl, sym}
use Rattle.board_graph.specs.BoardKeys.{IsHelper}
use Rattle.topic_keys.proofs.Adding.{gets_alike, gets_none}
use Rattle.topic_lists.proofs.Runs.{gets_pushed}
use Rattle.asked_parts.specs.Under.{IsUnmarkedAt}
use Rattle.asked_parts.proofs.UnderLaws.{marked, not_marked, one_unmarked, refused}
use Rattle.asked_parts.proofs.under.put_unmarked.Goals as goal

pub returns-then-contains-clause-found : goal.returns-then-contains-clause-found
returns-then-contains-clause-found g c =
    gets_none (IsUnmarkedAt c.args.board.now c.args.marks.now.keys c.args.number) c.args.found.now.items c.args.found.now.items refl (λ y h. h.1 (marked c.args.marks.now.keys c.args.number (sym c.contains.ensures ∙ c.if-contains.true)))

pub returns-clause-found : goal.returns-clause-found
returns-clause-found g c =
    let copy = c.in_ok-copy.field-0 in
    let old = c.args.found.now.items in
    let new = c.push.new.self.items in
    gets_alike (λ y. y ≡ copy) (IsUnmarkedAt c.args.board.now c.args.marks.now.keys c.args.number) old new
    (one_unmarked c.args.board.now c.args.marks.now.keys c.args.number c.key-key.result.now copy c.key-key.ensures.key c.in_ok-copy.ensures (not_marked c.args.marks.now.keys c.args.number (sym c.contains.ensures ∙ c.if-contains.false))
    (refused c.is_helper.result (IsHelper c.key-key.result.now) c.is_helper.ensures c.if-is_helper.false)) (gets_pushed copy copy old new refl c.in_ok-push.ensures.items)
