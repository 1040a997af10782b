use Rattle.std.proofs.Common.{◌∙◌}
use Rattle.domain_drop.proofs.FreedLemmas.{all_put, no_check}
use Rattle.domain_drop.proofs.freeing.put_all.Goals as goal

pub put_copies-requires-clause-none : goal.put_copies-requires-clause-none
put_copies-requires-clause-none c = no_check c.args.c.now.items c.args.columns.now c.put_back.new.added.items c.in_ok-put_back.ensures

pub returns-clause-members : goal.returns-clause-members
returns-clause-members c =
    all_put c.args.c.now.items c.args.columns.now c.put_back.new.added.items c.put_copies.new.added.items c.from_vec.result c.args.copies.now (c.from_vec.ensures ∙ c.into_items.ensures.items) c.in_ok-put_back.ensures c.in_ok-put_copies.ensures
