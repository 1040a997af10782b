use Rattle.std.proofs.Common.{subst}
use Rattle.cat_items.specs.Supported.{Supported}
use Rattle.part_rounds.specs.Grown.{IsClosedFrom}
use Rattle.part_rounds.proofs.RoundLemmas.{forth_ends, growth_joins, passed_grows}
use Rattle.part_rounds.proofs.rounds.both_ways.Goals as goal

pub returns-then-rest-eq0-clause-closed : goal.returns-then-rest-eq0-clause-closed
returns-then-rest-eq0-clause-closed c = λ _. forth_ends (Supported c.args.c.now.items) c.args.c.now.items _ (subst (IsClosedFrom (Supported c.args.c.now.items) c.args.c.now.items c.pass_forth-rest.new.marks) c.if-rest-eq0.true c.pass_forth-rest.ensures.closed)

pub returns-clause-grown : goal.returns-clause-grown
returns-clause-grown c =
    let sup = Supported c.args.c.now.items in
    let first = c.pass_forth-rest.ensures.grown in
    growth_joins sup c.args.c.now.items _ _ _ first (passed_grows sup c.args.c.now.items _ _ _ first.size c.pass_back.ensures.passed)

pub pass_back-requires-clause-room : goal.pass_back-requires-clause-room
pass_back-requires-clause-room c = rw c.pass_forth-rest.ensures.room c.requires.room
