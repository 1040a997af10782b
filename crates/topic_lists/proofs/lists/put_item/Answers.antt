use Rattle.std.proofs.Common.{◌↔◌, ◌⊎◌, ◌≡◌, false, List, subst, sym}
use Rattle.std.specs.List.{Contains}
use Rattle.std.specs.Option.{option_copied}
use Rattle.std.proofs.lemmas.Result.{on_ok_weaker}
use Rattle.cat_items.specs.declared.need.Need.{Need}
use Rattle.cascade_laws.specs.Asks.{IsFarTopic}
use Rattle.cascade_laws.specs.Topics.{IsNameTopic, IsOwnNeed}
use Rattle.topic_keys.proofs.Adding.{adds_both}
use Rattle.topic_lists.specs.Needs.{IsFarNeed}
use Rattle.topic_lists.specs.Sought.{IsSoughtTopic}
use Rattle.topic_lists.proofs.BesideLaws.{adds_asked}
use Rattle.topic_lists.proofs.ActorLaws.{reached_where}
use Rattle.topic_lists.proofs.NameLaws.{has_named}
use Rattle.topic_lists.proofs.lists.put_item.Goals as goal

pub put_named-requires : goal.put_named-requires
put_named-requires c = has_named c.args.c.now.items c.args.keys.now.items (option_copied c.args.before) c.requires.asked

pub returns : goal.returns
returns c =
    let l = c.args.c.now.items in
    let x = c.args.x.now in
    let known = c.is_beside.result in
    let needs = c.as_slice-needs.result.now in
    let all = c.as_slice.result.now in
    let old = c.args.keys.now.items in
    let named = c.put_named.new.keys.items in
    let new = c.put_sought.new.keys.items in
    let are : (need : Need) → Contains needs need ↔ (IsOwnNeed l x need ⊎ ((known ≡ false) × IsFarNeed l x need)) =
    subst (λ (list : List Need). (need : Need) → Contains list need ↔ (IsOwnNeed l x need ⊎ ((known ≡ false) × IsFarNeed l x need))) (sym c.as_slice-needs.ensures.value) c.in_ok-needs.ensures in
    let reach = reached_where l x needs c.in_ok-all.all.items all c.looks.result c.looks.ensures c.as_slice.ensures.value c.in_ok-all.ensures in
    on_ok_weaker c.put_sought.result
    (λ end. adds_asked l x (option_copied c.args.before) known needs all old new c.is_beside.ensures c.requires.asked are reach
    (adds_both (λ t. IsNameTopic x t ⊎ IsFarTopic x t) (IsSoughtTopic needs all x) old named new c.in_ok-put_named.ensures end))
    c.put_sought.ensures
