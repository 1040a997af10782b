use Rattle.std.proofs.Common.{subst, sym, arith}
use Rattle.role_graph.specs.Marked.{marked}
use Rattle.part_rounds.specs.Options.{Knows}
use Rattle.part_rounds.proofs.OptionLaws.{marked_more}
use Rattle.part_rounds.proofs.trying.try_mark.Goals as goal

pub returns-clause-found : goal.returns-clause-found
returns-clause-found c =
    let l = c.args.c.now.items in
    subst (λ m. Knows l (marked l m) c.kept.result) (sym c.mark.ensures)
    (c.kept.ensures l (marked l c.args.marks.now) _ (marked_more l c.args.marks.now c.args.at (omega (arith, c.requires.within, c.requires.marks))) c.told-told.ensures.found)
