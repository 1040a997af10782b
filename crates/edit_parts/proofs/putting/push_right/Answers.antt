use Rattle.std.proofs.Common.{refl}
use Rattle.topic_lists.proofs.Runs.{gets_pushed}
use Rattle.edit_parts.proofs.TouchedLaws.{gets_possible}
use Rattle.edit_parts.proofs.putting.push_right.Goals as goal

pub returns-in_ok-push-in-Some : goal.returns-in_ok-push-in-Some
returns-in_ok-push-in-Some c =
    let right = c.in-Some.right in
    let old = c.args.rights.now.items in
    let new = c.push.new.self.items in
    gets_possible c.args.key.now right c.in_ok-right_by_key.field-0 c.in-Some.is c.in_ok-right_by_key.ensures old new (gets_pushed right right old new refl c.in_ok-push-in-Some.ensures.items)
