use Rattle.std.proofs.Common.{◌≡◌, true, subst}
use Rattle.cat_items.specs.Supported.{Supported}
use Rattle.grant_chain.specs.Rounds.{IsTried}
use Rattle.part_rounds.proofs.RoundLemmas.{steps_on}
use Rattle.part_rounds.proofs.rounds.mark_with_next.Goals as goal

pub mark_behind-found-requires-clause-room : goal.mark_behind-found-requires-clause-room
mark_behind-found-requires-clause-room c = rw c.try_mark-tried.ensures.room c.requires.room

pub returns-clause-marked : goal.returns-clause-marked
returns-clause-marked c =
    let sup = Supported c.args.c.now.items in
    let holds : c.try_mark-tried.result.holds ≡ true = let e = c.if-not-tried.false in cc in
    steps_on sup c.args.c.now.items c.args.marks.now c.try_mark-tried.new.marks c.mark_behind-found.new.marks c.args.at c.requires.within c.requires.marks
    (subst (λ b. IsTried sup c.args.c.now.items c.args.marks.now c.args.at b c.try_mark-tried.new.marks) holds c.try_mark-tried.ensures.tried)
    c.mark_behind-found.ensures.grown
