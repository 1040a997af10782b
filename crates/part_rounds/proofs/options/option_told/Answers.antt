use Rattle.role_graph.specs.Marked.{marked}
use Rattle.part_rounds.proofs.OptionLaws.{found_tells}
use Rattle.part_rounds.proofs.options.option_told.Goals as goal

pub returns-in-Some-clause-answer : goal.returns-in-Some-clause-answer
returns-in-Some-clause-answer c =
    let l = c.args.c.now.items in
    found_tells l (marked l c.args.marks.now) c.args.found c.args.right.now c.in-Some.granted c.args.x.now c.requires.option.0 c.requires.option.1 c.requires.found c.in-Some.ensures.some (c.is_held_there.ensures.answer.0 c.if-not-is_held_there.false)

pub supported-granted-requires-clause-room : goal.supported-granted-requires-clause-room
supported-granted-requires-clause-room c = rw c.is_held_there.ensures.room c.requires.room
