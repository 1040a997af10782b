use Rattle.std.proofs.Common.{refl}
use Rattle.cat_items.proofs.OrderLemmas.{same_action}
use Rattle.cat_items.proofs.keys.compare_target.Goals as goal

pub returns : goal.returns
returns c =
    rw (c.then.ensures, c.compare_path-on.ensures, c.cmp-action.ensures, same_action c.args.x.now.action c.args.action) refl
