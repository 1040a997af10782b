use Rattle.std.proofs.Common.{refl, subst}
use Rattle.board_graph.specs.BoardKeys.{IsKeyOf}
use Rattle.edit_arrivals.specs.Steps.{IsTheOne, no_key, one_key}
use Rattle.edit_arrivals.proofs.Options.{none_is}
use Rattle.edit_arrivals.proofs.arriving.put_arrival.Goals as goal

pub arrival_of-requires-clause-key : goal.arrival_of-requires-clause-key
arrival_of-requires-clause-key c = (subst (IsTheOne (IsKeyOf c.args.found.now.items c.args.x.now)) c.in-Some.is c.in_ok-next_key.ensures.key c.in-Some.key).0 refl

pub returns-in-None-clause-put : goal.returns-in-None-clause-put
returns-in-None-clause-put c = no_key (λ k key. none_is k ((subst (IsTheOne (IsKeyOf c.args.found.now.items c.args.x.now)) c.in-None.is c.in_ok-next_key.ensures.key k).1 key)) refl

pub returns-in_ok-push-in-Some-clause-put : goal.returns-in_ok-push-in-Some-clause-put
returns-in_ok-push-in-Some-clause-put c = one_key c.in_ok-arrival-in-Some.arrival c.in_ok-arrival-in-Some.ensures.arrival c.in_ok-push-in-Some.ensures.items
