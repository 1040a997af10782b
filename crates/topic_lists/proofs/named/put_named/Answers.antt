use Rattle.std.proofs.Common.{◌⊎◌, sym}
use Rattle.std.proofs.lemmas.Result.{on_ok_weaker}
use Rattle.cascade_laws.specs.Asks.{IsFarTopic}
use Rattle.cascade_laws.specs.Topics.{IsNameTopic}
use Rattle.topic_keys.proofs.Adding.{adds_alike, adds_both}
use Rattle.topic_lists.specs.RightNames.{IsRightName}
use Rattle.topic_lists.proofs.NameLaws.{names_in}
use Rattle.topic_lists.proofs.named.put_named.Goals as goal

pub returns-in-Some : goal.returns-in-Some
returns-in-Some c =
    let x = c.args.x.now in
    let r = c.in-Some.right.now in
    on_ok_weaker c.put_right_names.result
    (adds_alike (IsRightName r) (λ t. IsNameTopic x t ⊎ IsFarTopic x t) c.args.keys.now.items c.put_right_names.new.keys.items (names_in x r (sym c.in-Some.ensures)))
    c.put_right_names.ensures

pub returns-in_ok-put_names-in-None : goal.returns-in_ok-put_names-in-None
returns-in_ok-put_names-in-None c =
    let x = c.args.x.now in
    on_ok_weaker c.put_far_names.result
    (adds_both (IsNameTopic x) (IsFarTopic x) c.args.keys.now.items c.put_names.new.keys.items c.put_far_names.new.keys.items c.in_ok-put_names-in-None.ensures)
    c.put_far_names.ensures
