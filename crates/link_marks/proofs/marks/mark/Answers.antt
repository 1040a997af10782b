use Rattle.link_marks.proofs.GrownMarks.{joined}
use Rattle.link_marks.proofs.marks.mark.Goals as goal

pub returns : goal.returns
returns c = joined c.args.number c.args.marked.now.keys c.insert.new.self.keys c.in_ok-insert.ensures.keys
