use Rattle.std.proofs.Common.{◌⊎◌, IsTrue}
use Rattle.std.proofs.lemmas.Result.{on_ok_weaker}
use Rattle.topic_keys.proofs.Adding.{adds_alike, adds_both}
use Rattle.topic_lists.specs.Sought.{IsAdminOptionTopic, IsEdgesTopic, IsNeedOrSupply, IsOfAny, Looks}
use Rattle.topic_lists.proofs.sought.put_sought.Goals as goal

pub returns : goal.returns
returns c =
    let needs = c.args.needs.now in
    let reached = c.args.reached.now in
    let x = c.args.x.now in
    let P = IsOfAny IsEdgesTopic reached in
    let first = c.args.keys.now.items in
    let second = c.put_needs.new.keys.items in
    let third = c.put_edges_if.new.keys.items in
    let last = c.put_admin_options.new.keys.items in
    on_ok_weaker c.put_admin_options.result
    (λ end. adds_both (IsOfAny (IsNeedOrSupply reached) needs) (λ t. (Looks needs x × P t) ⊎ IsAdminOptionTopic x reached t) first second last c.in_ok-put_needs.ensures
    (adds_both (λ t. Looks needs x × P t) (IsAdminOptionTopic x reached) second third last
    (adds_alike (λ t. IsTrue c.looks.result × P t) (λ t. Looks needs x × P t) second third (λ t. (λ h. (c.looks.ensures.0 h.0, h.1), λ h. (c.looks.ensures.1 h.0, h.1))) c.in_ok-put_edges_if.ensures) end))
    c.put_admin_options.ensures
