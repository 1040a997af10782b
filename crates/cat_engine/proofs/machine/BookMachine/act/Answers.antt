use Rattle.std.proofs.lemmas.List.{length-map}
use Rattle.cat_engine.specs.Shared.{event_of}
use Rattle.cat_engine.proofs.SharedLaws.{acts, same_origin}
use Rattle.cat_engine.proofs.machine.BookMachine.act.Goals as goal

pub returns-clause-event : goal.returns-clause-event
returns-clause-event c = acts c.args.self.now c.apply.new.book c.args.session c.args.text.now c.apply.result c.apply.ensures.reached c.apply.ensures.step

pub returns-clause-made : goal.returns-clause-made
returns-clause-made c = same_origin c.args.self.now c.apply.new.book c.args.session c.args.text.now c.apply.result c.apply.ensures.step

pub returns-clause-room : goal.returns-clause-room
returns-clause-room c = rw (length-map c.apply.new.book.journal event_of) c.apply.ensures.few
