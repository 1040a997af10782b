use Rattle.std.proofs.Common.{◌↔◌, ◌<◌, IsTrue, rules}
use Rattle.std.specs.Prelude.{not}
use Rattle.cat_items.specs.Ranges.{IsIn}
use Rattle.role_graph.proofs.LoopLemmas.{join}
use Rattle.edit_rules.proofs.NameLemmas.{in_range}
use Rattle.added_parts.proofs.extended.any_in.Goals as goal

pub returns : goal.returns
returns c =
    let some : IsTrue (not c.is_empty.result) ↔ (c.places.result.start < c.places.result.end) = search rules in
    join some (in_range c.args.c.now.items (IsIn c.args.part) c.places.result.start c.places.result.end c.places.ensures)
