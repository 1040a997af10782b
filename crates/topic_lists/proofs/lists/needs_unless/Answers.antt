use Rattle.std.proofs.Common.{◌≡◌, ◌⊎◌, false}
use Rattle.cat_items.specs.declared.need.Need.{Need}
use Rattle.cascade_laws.specs.Topics.{IsOwnNeed}
use Rattle.topic_keys.proofs.Adding.{gets_both}
use Rattle.topic_lists.specs.Needs.{IsFarNeed}
use Rattle.topic_lists.proofs.Runs.{gets_from_none}
use Rattle.topic_lists.proofs.lists.needs_unless.Goals as goal

pub returns : goal.returns
returns c =
    let l = c.args.c.now.items in
    let x = c.args.x.now in
    let P = λ (need : Need). (c.args.known ≡ false) × IsFarNeed l x need in
    let none = c.new-needs.result.items in
    let own = c.push_own.new.needs.items in
    let all = c.push_far_unless.new.needs.items in
    gets_from_none (λ need. IsOwnNeed l x need ⊎ P need) (λ need. IsOwnNeed l x need ⊎ P need) none all c.new-needs.ensures.items (λ need. (λ h. h, λ h. h))
    (gets_both (IsOwnNeed l x) P none own all c.in_ok-push_own.ensures c.in_ok-push_far_unless.ensures)
