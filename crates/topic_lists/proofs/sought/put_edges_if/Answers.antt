use Rattle.std.proofs.Common.{IsTrue}
use Rattle.std.proofs.lemmas.Result.{on_ok_weaker}
use Rattle.topic_keys.proofs.Adding.{adds_alike}
use Rattle.topic_lists.specs.Sought.{IsEdgesTopic, IsOfAny}
use Rattle.topic_lists.proofs.sought.put_edges_if.Goals as goal

pub returns-then-looks : goal.returns-then-looks
returns-then-looks c =
    let P = IsOfAny IsEdgesTopic c.args.reached.now in
    on_ok_weaker c.put_edges.result (adds_alike P (λ t. IsTrue c.args.looks × P t) c.args.keys.now.items c.put_edges.new.keys.items (λ t. (λ h. (c.if-looks.true, h), λ h. h.1))) c.put_edges.ensures
