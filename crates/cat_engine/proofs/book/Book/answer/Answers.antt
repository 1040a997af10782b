use Rattle.std.proofs.Common.{◌≡◌, [], ◌∷◌, ◌++◌, ap, refl, arith}
use Rattle.cat_engine.specs.Contents.{State, bytes_held}
use Rattle.cat_engine.specs.Steps.{IsEntered}
use Rattle.cat_engine.specs.declared.journal.Entry.{Entry}
use Rattle.cat_engine.proofs.HistoryLaws.{bytes_held-more, reached_more}
use Rattle.cat_engine.proofs.book.Book.answer.Goals as goal

pub invariant_of-self-2 : goal.invariant_of-self-2
invariant_of-self-2 g c =
    let entry : Entry = record { session = c.args.session; text = c.args.text.now } in
    let old : State = record { users = c.self.inside.users.value.items; content = c.self.inside.environment; journal = c.self.inside.journal.items; limits = c.self.inside.limits } in
    let new : State = record { users = c.self.inside.users.value.items; content = c.answer.new.self; journal = c.enter.new.journal.items; limits = c.self.inside.limits } in
    let longer : c.enter.new.journal.items ≡ c.self.inside.journal.items ++ entry ∷ [] = rw (c.in_ok-reserve.ensures.items, c.in_ok-of.ensures) at c.enter.ensures in
    let entered : IsEntered old c.args.session c.args.text.now c.in_ok-reply.reply new = record {
      room = rw (← c.self.view_is) at c.requires.room;
      answers = c.in_ok-reply.ensures.ok;
      journal = longer;
      limits = refl;
      users = refl;
    } in
    let more = bytes_held-more c.self.inside.journal.items entry in
    let held = ap bytes_held longer in
    let before = c.self.invariant.0 in
    (omega (arith, more, held, before), reached_more old new c.args.session c.args.text.now c.in_ok-reply.reply c.self.invariant.1 c.requires.few entered, c.in_ok-reply.ensures.narrow)

pub returns-in_err-reply-clause-idle : goal.returns-in_err-reply-clause-idle
returns-in_err-reply-clause-idle g c = rw (← c.self.view_is) c.in_err-reply.ensures.idle

pub returns-in_err-reply-clause-few_look_ups : goal.returns-in_err-reply-clause-few_look_ups
returns-in_err-reply-clause-few_look_ups g c = rw (← c.self.view_is) c.in_err-reply.ensures.few

pub returns-clause-idle : goal.returns-clause-idle
returns-clause-idle g c = rw (← c.self.view_is) c.in_ok-reply.ensures.idle

pub returns-clause-few_look_ups : goal.returns-clause-few_look_ups
returns-clause-few_look_ups g c = rw (← c.self.view_is) c.in_ok-reply.ensures.few
