use Rattle.table_additions.proofs.AddedItems.{all_are}
use Rattle.table_additions.proofs.added.all_added.Goals as goal

pub returns : goal.returns
returns c = λ named made.
    all_are c.args.c.now.items c.args.who.now c.args.table.now c.args.parts.now named c.args.target.now c.args.made c.push_back.new.all c.push_new.new.all c.push_parts.new.all c.requires.target made
    c.in_ok-push_back.ensures c.in_ok-push_new.ensures c.in_ok-push_parts.ensures
