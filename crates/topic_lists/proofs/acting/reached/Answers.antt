use Rattle.std.proofs.Common.{◌↔◌}
use Rattle.std.specs.List.{Contains}
use Rattle.std.proofs.lemmas.Result.{IfOk-weaker}
use Rattle.cat_items.specs.declared.need.Auth.{Auth}
use Rattle.cat_items.specs.Reach.{Reaches}
use Rattle.role_graph.specs.Actors.{auth_of}
use Rattle.role_graph.proofs.LoopLemmas.{join}
use Rattle.topic_lists.specs.Actors.{IsReachedBy}
use Rattle.topic_lists.proofs.ActorLaws.{actor_reach}
use Rattle.topic_lists.proofs.acting.reached.Goals as goal

pub returns-in-Some : goal.returns-in-Some
returns-in-Some c =
    let l = c.args.c.now.items in
    let x = c.args.x.now in
    let actor = auth_of c.in-Some.actor in
    IfOk-weaker c.reached_from.result (λ all. (g : Auth) → Contains all.items g ↔ Reaches l actor g) (λ all. (g : Auth) → Contains all.items g ↔ IsReachedBy l x g)
    (λ all are g. join (are g) (actor_reach l x actor c.in-Some.ensures g)) (rw (← c.requires) c.reached_from.ensures)
