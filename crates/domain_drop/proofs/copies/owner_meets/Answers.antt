use Rattle.domain_drop.proofs.CopyLemmas.{met_by_all}
use Rattle.domain_drop.proofs.copies.owner_meets.Goals as goal

pub returns : goal.returns
returns c =
    met_by_all c.new-judge.result c.args.c.now.items c.args.schema.now c.args.needs.now c.owner_meets-met.result c.new-judge.ensures.items c.new-judge.ensures.marks c.owner_meets-met.ensures.answer
