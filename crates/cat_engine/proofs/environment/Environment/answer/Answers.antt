use Rattle.std.proofs.Common.{sym, subst}
use Rattle.cat_engine.specs.Steps.{Answers}
use Rattle.cat_engine.specs.declared.reply.Reply.{Reply}
use Rattle.cat_engine.proofs.Answering.{answer_refused, answer_done, written}
use Rattle.cat_engine.proofs.Spending.{text_few, text_idle}
use Rattle.cat_engine.proofs.environment.Environment.answer.Goals as goal

pub execute-requires-clause-written : goal.execute-requires-clause-written
execute-requires-clause-written g c = written c.args.text.now c.in-Ok.statement c.in-Ok.ensures.1

pub returns-in-Ok-execute-clause-ok : goal.returns-in-Ok-execute-clause-ok
returns-in-Ok-execute-clause-ok g c =
    let old = c.args.self.now in
    let new = c.execute.new.self in
    subst (λ (reply : Reply). Answers c.args.limits.now c.args.number old c.args.text.now reply new) (sym c.reply_of.ensures)
    (answer_done c.args.limits.now c.args.number old new c.args.text.now c.in-Ok.statement c.in-Ok-execute.outcome c.in-Ok.ensures.0 c.in-Ok.ensures.1 c.in-Ok-execute.ensures.tested.0 c.in-Ok-execute.ensures.tested.1)

pub returns-in-Err-Refused-execute-clause-ok : goal.returns-in-Err-Refused-execute-clause-ok
returns-in-Err-Refused-execute-clause-ok g c =
    let told = rw c.in-Err-Refused-execute.field-0-is at c.in-Err-Refused-execute.ensures.tested in
    answer_refused _ _ _ _ _ c.in-Ok.statement c.in-Err-Refused-execute.refusal c.in-Ok.ensures.0 c.in-Ok.ensures.1 told.0 told.1

pub returns-in-Ok-execute-clause-idle : goal.returns-in-Ok-execute-clause-idle
returns-in-Ok-execute-clause-idle g c = text_idle c.args.number c.args.self.now c.args.text.now c.in-Ok.statement c.args.steps.now c.execute.new.steps c.in-Ok.ensures.1 c.execute.ensures.idle

pub returns-in-Ok-execute-clause-few : goal.returns-in-Ok-execute-clause-few
returns-in-Ok-execute-clause-few g c = text_few c.args.number c.args.self.now c.args.text.now c.in-Ok.statement c.args.steps.now c.execute.new.steps c.in-Ok.ensures.1 c.execute.ensures.few

pub returns-in-Err-Refused-execute-clause-idle : goal.returns-in-Err-Refused-execute-clause-idle
returns-in-Err-Refused-execute-clause-idle g c = text_idle c.args.number c.args.self.now c.args.text.now c.in-Ok.statement c.args.steps.now c.execute.new.steps c.in-Ok.ensures.1 c.execute.ensures.idle

pub returns-in-Err-Refused-execute-clause-few : goal.returns-in-Err-Refused-execute-clause-few
returns-in-Err-Refused-execute-clause-few g c = text_few c.args.number c.args.self.now c.args.text.now c.in-Ok.statement c.args.steps.now c.execute.new.steps c.in-Ok.ensures.1 c.execute.ensures.few

pub returns-in-Err-Memory-execute-clause-idle : goal.returns-in-Err-Memory-execute-clause-idle
returns-in-Err-Memory-execute-clause-idle g c = text_idle c.args.number c.args.self.now c.args.text.now c.in-Ok.statement c.args.steps.now c.execute.new.steps c.in-Ok.ensures.1 c.execute.ensures.idle

pub returns-in-Err-Memory-execute-clause-few : goal.returns-in-Err-Memory-execute-clause-few
returns-in-Err-Memory-execute-clause-few g c = text_few c.args.number c.args.self.now c.args.text.now c.in-Ok.statement c.args.steps.now c.execute.new.steps c.in-Ok.ensures.1 c.execute.ensures.few
