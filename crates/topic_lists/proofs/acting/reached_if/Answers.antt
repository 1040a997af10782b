use Rattle.std.proofs.Common.{◌↔◌, IsTrue}
use Rattle.std.specs.List.{Contains}
use Rattle.std.proofs.lemmas.Result.{IfOk-weaker}
use Rattle.cat_items.specs.declared.need.Auth.{Auth}
use Rattle.topic_lists.specs.Actors.{IsReachedBy}
use Rattle.topic_lists.proofs.acting.reached_if.Goals as goal

pub returns-then-looks : goal.returns-then-looks
returns-then-looks c =
    let l = c.args.c.now.items in
    let x = c.args.x.now in
    IfOk-weaker c.reached.result (λ all. (g : Auth) → Contains all.items g ↔ IsReachedBy l x g) (λ all. (g : Auth) → Contains all.items g ↔ (IsTrue c.args.looks × IsReachedBy l x g))
    (λ all are g. (λ h. (c.if-looks.true, (are g).0 h), λ h. (are g).1 h.1)) c.reached.ensures
