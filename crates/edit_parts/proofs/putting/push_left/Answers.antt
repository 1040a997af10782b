use Rattle.std.proofs.Common.{◌⊎◌, refl}
use Rattle.std.specs.List.{Contains}
use Rattle.topic_lists.proofs.Runs.{gets_pushed}
use Rattle.asked_parts.proofs.UnderLaws.{refused}
use Rattle.edit_parts.proofs.TouchedLaws.{gets_left}
use Rattle.edit_parts.proofs.putting.push_left.Goals as goal

pub returns : goal.returns
returns c =
    let edit = c.args.edit.now in
    let key = c.args.key.now in
    let copy = c.in_ok-copy.field-0 in
    let none = refused c.is_taken.result (Contains edit.target key ⊎ Contains edit.changed key) c.is_taken.ensures c.if-is_taken.false in
    let old = c.args.items.now.items in
    let new = c.push.new.self.items in
    gets_left edit key copy old new c.in_ok-copy.ensures none (gets_pushed copy copy old new refl c.in_ok-push.ensures.items)
