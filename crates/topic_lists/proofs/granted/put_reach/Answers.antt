use Rattle.std.proofs.Common.{◌↔◌, ◌⊎◌, ℕ, List, subst, sym}
use Rattle.std.specs.List.{Contains}
use Rattle.std.proofs.lemmas.Result.{on_ok_weaker}
use Rattle.role_graph.specs.Roles.{IsApplicable}
use Rattle.topic_keys.proofs.Adding.{adds_alike, adds_both}
use Rattle.topic_lists.specs.Granted.{IsReachTopic, IsToTopic}
use Rattle.topic_lists.specs.Sought.{IsOfAny}
use Rattle.topic_lists.proofs.GrantLaws.{reach_topics}
use Rattle.topic_lists.proofs.granted.put_reach.Goals as goal

pub returns : goal.returns
returns c =
    let l = c.args.roles.now in
    let need = c.args.need.now in
    let by = c.args.by.now in
    let names = c.as_slice.result.now in
    let old = c.args.keys.now.items in
    let new = c.put_to.new.keys.items in
    let are : (name : List ℕ) → Contains names name ↔ IsApplicable l by name = subst (λ (list : List (List ℕ)). (name : List ℕ) → Contains list name ↔ IsApplicable l by name) (sym c.as_slice.ensures.value) c.in_ok-names.ensures in
    on_ok_weaker c.put_to.result
    (λ end. adds_alike (λ t. IsOfAny (IsToTopic need) names t ⊎ IsToTopic need by t) (IsReachTopic l need by) old new (reach_topics l need by names are)
    (adds_both (IsOfAny (IsToTopic need) names) (IsToTopic need by) old c.put_to_each.new.keys.items new c.in_ok-put_to_each.ensures end))
    c.put_to.ensures
