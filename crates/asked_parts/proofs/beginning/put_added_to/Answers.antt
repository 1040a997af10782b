use Rattle.std.proofs.Common.{◌∙◌, sym}
use Rattle.topic_keys.specs.Lists.{Gets}
use Rattle.topic_keys.proofs.Adding.{gets_alike}
use Rattle.asked_parts.specs.Rounds.{IsAddedTo}
use Rattle.asked_parts.proofs.BeginLaws.{IsOwn, added_is_own}
use Rattle.asked_parts.proofs.UnderLaws.{on_ok}
use Rattle.asked_parts.proofs.beginning.put_added_to.Goals as goal

pub returns-in-Some-clause-members : goal.returns-in-Some-clause-members
returns-in-Some-clause-members g c =
    let graph = c.args.board.now in
    let marks = c.args.marks.now.keys in
    let x = c.args.x.now in
    let key = c.in-Some.key in
    let old = c.args.part.now.items in
    let new = c.put_own.new.part.items in
    on_ok (Gets (IsOwn graph marks key) old new) (Gets (IsAddedTo graph marks x) old new) c.put_own.result (gets_alike (IsOwn graph marks key) (IsAddedTo graph marks x) old new (added_is_own graph marks x key (sym c.in_ok-added_to.ensures ∙ c.in-Some.is))) c.put_own.ensures.members
