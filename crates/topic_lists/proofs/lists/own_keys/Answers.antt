use Rattle.std.proofs.Common.{◌↔◌, ◌⊎◌, List, subst, sym}
use Rattle.std.specs.List.{Contains}
use Rattle.cat_items.specs.declared.need.Need.{Need}
use Rattle.cascade_laws.specs.Topics.{IsNameTopic, IsOwnNeed}
use Rattle.topic_keys.proofs.Adding.{adds_all, adds_both}
use Rattle.topic_lists.specs.Sought.{IsSoughtTopic, IsTopicOf}
use Rattle.topic_lists.proofs.ActorLaws.{reached_where}
use Rattle.topic_lists.proofs.Runs.{gets_from_none}
use Rattle.topic_lists.proofs.TopicLaws.{depends_are}
use Rattle.topic_lists.proofs.lists.own_keys.Goals as goal

pub returns : goal.returns
returns c =
    let l = c.args.c.now.items in
    let x = c.args.x.now in
    let needs = c.as_slice-needs.result.now in
    let all = c.as_slice.result.now in
    let none = c.new-needs.result.items in
    let empty = c.new-keys.result.items in
    let are : (need : Need) → Contains needs need ↔ IsOwnNeed l x need = subst (λ (list : List Need). (need : Need) → Contains list need ↔ IsOwnNeed l x need) (sym c.as_slice-needs.ensures.value)
    (gets_from_none (IsOwnNeed l x) (IsOwnNeed l x) none c.push_own.new.needs.items c.new-needs.ensures.items (λ need. (λ h. h, λ h. h)) c.in_ok-push_own.ensures) in
    let reach = reached_where l x needs c.in_ok-all.all.items all c.looks.result c.looks.ensures c.as_slice.ensures.value c.in_ok-all.ensures in
    adds_all (λ t. IsNameTopic x t ⊎ IsSoughtTopic needs all x t) (IsTopicOf l x) empty c.put_sought.new.keys.items c.new-keys.ensures.items (depends_are l x needs all reach are)
    (adds_both (IsNameTopic x) (IsSoughtTopic needs all x) empty c.put_names.new.keys.items c.put_sought.new.keys.items c.in_ok-put_names.ensures c.in_ok-put_sought.ensures)
