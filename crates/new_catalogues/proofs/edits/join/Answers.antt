use Rattle.std.proofs.Common.{List, subst}
use Rattle.cat_items.specs.declared.item.Item.{Item}
use Rattle.cat_items.specs.Batch.{IsJoined}
use Rattle.new_catalogues.proofs.Joins.{joined}
use Rattle.new_catalogues.proofs.edits.join.Goals as goal

pub returns-clause-members : goal.returns-clause-members
returns-clause-members c =
    let missing = c.in_ok-missing.missing.items in
    let new = c.put_in_all.new.self.items in
    joined c.args.c.now.items c.args.items.now missing new c.requires.keys c.in_ok-missing.ensures.members
    (subst (λ (l : List Item). IsJoined l missing new) c.in_ok-reserve.ensures.items c.put_in_all.ensures.members)
