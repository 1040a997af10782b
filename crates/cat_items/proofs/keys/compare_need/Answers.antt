use Rattle.cat_items.specs.Keys.{need_of}
use Rattle.cat_items.proofs.OrderLemmas.{same_need}
use Rattle.cat_items.proofs.keys.compare_need.Goals as goal

pub returns : goal.returns
returns c =
    rw (c.then.ensures, c.then-rest.ensures, c.compare_path-on.ensures, c.compare_column-column.ensures, c.cmp-action.ensures) (same_need c.args.x.now (need_of c.args.key))
